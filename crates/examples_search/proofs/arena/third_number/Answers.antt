use Rattle.std.specs.Prelude.{ℕ, ◌≡◌, ◌≢◌, ◌+◌, ◌<◌, ◌==◌, not, List, [], ◌∷◌, refl, Option, Some, None, IfSome}
use Rattle.std.proofs.Common.{sym, ◌∙◌, ap, subst, arith}
use Rattle.std.proofs.lemmas.Bool.{ne_eqb}
use Rattle.std.proofs.lemmas.List.Elements.{All-nil, All-cons}
use Rattle.mw_text.specs.Members.{In}
use Rattle.clause_arena.specs.declared.names.ClauseRef.{ClauseRef}
use Rattle.clause_arena.specs.Held.{IsHeld}
use Rattle.clause_arena.specs.Links.{word}
use Rattle.clause_arena.specs.Store.{Store}
use Rattle.clause_arena.specs.Changes.{Adds}
use Rattle.clause_arena.specs.Deleted.{Deletes}
use Rattle.clause_arena.proofs.Settling.{in_end}
use Rattle.clause_arena.proofs.Unlinks.{in_filter}
use Rattle.examples_search.proofs.arena.third_number.Goals as goal

-- the number of the second clause after the third was added
second_number : (one two three : Store) (r s n m : ℕ) (c d : List ℕ) → Adds one two r n c → Adds two three s m d
    → word three.words (r + 1) ≡ n
second_number one two three r s n m c d a b =
    (b.kept r (subst (λ (xs : List ℕ). In r xs) (sym a.refs) (in_end r one.refs))).number ∙ a.number

-- the third clause is held after the second was deleted
third_held : (one two three after : Store) (r s n m : ℕ) (c d : List ℕ) → n < m → Adds one two r n c
    → Adds two three s m d → Deletes three after r → In s after.refs
third_held one two three after r s n m c d less a b deletes =
    let here : In s three.refs = subst (λ (xs : List ℕ). In s xs) (sym b.refs) (in_end s two.refs) in
    let number : word three.words (r + 1) ≡ n = second_number one two three r s n m c d a b in
    let own : word three.words (s + 1) ≡ m = b.number in
    let ne : s ≢ r = λ e.
    (let same : word three.words (s + 1) ≡ word three.words (r + 1) = ap (λ (u : ℕ). word three.words (u + 1)) e in
    omega arith) in
    subst (λ (xs : List ℕ). In s xs) (sym deletes.refs)
    (in_filter (λ q. not (q == r)) s three.refs here (rw (ne_eqb s r ne) refl))

pub compact-requires : goal.compact-requires
compact-requires c =
    let P = λ (q : Option ClauseRef). IfSome q (IsHeld c.delete.new.self) in
    let first = c.from-number.result in
    All-cons P (Some c.in_ok-third.third) (None ∷ [])
    (third_held c.add.new.self c.add-2.new.self c.add-3.new.self c.delete.new.self c.in_ok-second.second.0
    c.in_ok-third.third.0 (first + 1) (first + 2) _ _ (omega arith) c.in_ok-second.ensures.ok c.in_ok-third.ensures.ok
    c.delete.ensures.deletes)
    (All-cons P None [] tt (All-nil P))
