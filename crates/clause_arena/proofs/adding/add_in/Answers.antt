use Rattle.std.specs.Prelude.{ℕ, ◌≡◌, ◌+◌, ◌-◌, ◌%◌, ◌≤◌, List, [], ◌∷◌, length, map, ◌++◌, replicate, refl}
use Rattle.std.proofs.Common.{sym, ◌∙◌, ap, subst, arith}
use Rattle.clause_arena.specs.Links.{word}
use Rattle.clause_arena.specs.Store.{IsSound, store}
use Rattle.clause_arena.specs.Held.{code_of}
use Rattle.clause_arena.specs.Changes.{IsPlaced, Adds}
use Rattle.clause_arena.proofs.Additions.{IsAdded, added, room_behind}
use Rattle.clause_arena.specs.Held.{clauses}
use Rattle.clause_arena.proofs.Views.{clauses_more}
use Rattle.std.proofs.lemmas.List.{get_or-set_same}
use Rattle.std.proofs.Math.ListN.{set}
use Rattle.clause_arena.proofs.Placing.{grown_word, grown_length, room_made}
use Rattle.clause_arena.proofs.adding.add_in.Goals as goal

-- the words before the clause is written, and after it, are as long as they were made
grown : (c : goal.After-push_reserved-2)
    → length c.grow.new.self ≡ c.len.result + c.len-2.result % 2 + 4 + length c.args.lits.now
grown c =
    let ws = c.args.words.now in
    let fits : length ws ≤ c.len.result + c.len-2.result % 2 + 4 + length c.args.lits.now = omega (arith, c.len.ensures) in
    subst (λ (xs : List ℕ). length xs ≡ c.len.result + c.len-2.result % 2 + 4 + length c.args.lits.now)
    (sym c.in_ok-grow.ensures.ok) (grown_length ws _ (c.len.result + c.len-2.result % 2 + 1) c.args.id fits)

whole : (c : goal.After-push_reserved-2)
    → IsAdded c.args.vars c.args.words.now c.args.refs.now.items c.place_clause.new.words
    (c.len.result + c.len-2.result % 2) c.args.id (map code_of c.args.lits.now)
whole c =
    let ws = c.args.words.now in
    let gs = c.grow.new.self in
    let r = c.len.result + c.len-2.result % 2 in
    let one : c.len.result ≡ length ws = c.len.ensures in
    let two : c.len-2.result ≡ length ws = c.len-2.ensures in
    let at : r ≡ length ws + length ws % 2 = rw (one, two) refl in
    let n = r + 4 + length c.args.lits.now in
    let long : length gs ≡ n = grown c in
    let size : length c.place_clause.new.words ≡ n = c.place_clause.ensures.len ∙ long in
    let eg : gs ≡ set (ws ++ replicate (n - length ws) 0) (r + 1) c.args.id = c.in_ok-grow.ensures.ok in
    let number : word gs (r + 1) ≡ c.args.id = subst (λ (g : List ℕ). word g (r + 1) ≡ c.args.id) (sym eg)
    (get_or-set_same (ws ++ replicate (n - length ws) 0) (r + 1) c.args.id 0 (room_made ws n (r + 1) (omega arith) (omega arith))) in
    added c.args.vars ws gs c.place_clause.new.words c.args.refs.now.items r c.args.id
    (map code_of c.args.lits.now)
    c.requires.sound
    (λ k low. subst (λ (g : List ℕ). word g k ≡ word ws k) (sym eg) (grown_word ws _ (r + 1) c.args.id k (omega arith)))
    (omega arith)
    (room_behind c.args.vars ws c.place_clause.new.words c.args.refs.now.items r c.args.id c.args.lits.now
    c.requires.sound at size
    c.requires.below c.requires.differ c.requires.above)
    (subst (λ (u : ℕ). IsPlaced (word gs) (word c.place_clause.new.words) r u (map code_of c.args.lits.now))
    number c.place_clause.ensures.placed)

refs_are : (c : goal.After-push_reserved-2)
    → c.push_reserved.new.self.items ≡ c.args.refs.now.items ++ (c.len.result + c.len-2.result % 2) ∷ []
refs_are c = c.push_reserved.ensures.items
    ∙ ap (λ (xs : List ℕ). xs ++ (c.len.result + c.len-2.result % 2) ∷ []) c.in_ok-reserve.ensures.items

pub returns-clause-sound : goal.returns-clause-sound
returns-clause-sound c =
    subst (λ (xs : List ℕ). IsSound c.args.vars c.place_clause.new.words xs) (sym (refs_are c)) (whole c).sound

pub returns-clause-ok : goal.returns-clause-ok
returns-clause-ok c =
    let old = store c.args.vars c.args.words.now c.args.refs.now.items in
    let r = c.len.result + c.len-2.result % 2 in
    subst (λ (xs : List ℕ). Adds old (store c.args.vars c.place_clause.new.words xs) r c.args.id
    (map code_of c.args.lits.now)) (sym (refs_are c)) (whole c).adds

pub returns-clause-clauses : goal.returns-clause-clauses
returns-clause-clauses c =
    let a = c.args in
    let old = store a.vars a.words.now a.refs.now.items in
    let r = c.len.result + c.len-2.result % 2 in
    subst (λ (xs : List ℕ). clauses (store a.vars c.place_clause.new.words xs) ≡ clauses old ++ (a.id, a.lits.now)
    ∷ []) (sym (refs_are c))
    (clauses_more a.vars a.words.now a.refs.now.items c.place_clause.new.words (a.refs.now.items ++ r
    ∷ []) r a.id a.lits.now
    c.requires.sound (whole c).sound (whole c).adds)
