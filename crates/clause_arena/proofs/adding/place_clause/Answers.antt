use Rattle.std.specs.Prelude.{ℕ, ◌≡◌, ◌+◌, ◌≤◌, length, map}
use Rattle.std.proofs.Common.{sym, ◌∙◌, subst, arith}
use Rattle.std.proofs.lemmas.List.{get_or-map, length-map}
use Rattle.clause_arena.specs.Links.{word}
use Rattle.clause_arena.specs.Held.{code_of}
use Rattle.clause_arena.specs.Changes.{IsPut}
use Rattle.clause_arena.proofs.Codes.{codes_below, codes_differ}
use Rattle.clause_arena.proofs.Placing.{placed_two}
use Rattle.clause_arena.proofs.adding.place_clause.Goals as goal

pub returns-then-lits-ge2 : goal.returns-then-lits-ge2
returns-then-lits-ge2 c =
    let a = c.args in
    let codes = map code_of a.lits.now in
    let size : length codes ≡ length a.lits.now = length-map a.lits.now code_of in
    let two : 2 ≤ length codes = omega arith in
    let one : c.code.result ≡ word codes 0 = c.code.ensures ∙ sym (get_or-map code_of a.lits.now 0 _ 0 (omega arith)) in
    let other : c.code-then-lits-ge2.result ≡ word codes 1 = c.code-then-lits-ge2.ensures
    ∙ sym (get_or-map code_of a.lits.now 1 _ 0 (omega arith)) in
    record {
      placed = placed_two (word a.words.now) (word c.write_clause.new.words) (word c.put_link.new.words)
          (word c.put_link-then-lits-ge2.new.words)
          a.clause (word a.words.now (a.clause + 1)) codes c.write_clause.ensures.clause two
          (omega (arith, codes_below a.vars a.lits.now 0 c.requires.below (omega arith)))
          (omega (arith, codes_below a.vars a.lits.now 1 c.requires.below (omega arith)))
          (λ e. (let z : 0 ≡ 1 = codes_differ a.lits.now 0 1 c.requires.differ (omega arith) (omega arith) e in omega arith))
          (subst (λ (u : ℕ). IsPut (word c.write_clause.new.words) (word c.put_link.new.words) u (a.clause + 2)) one
          c.put_link.ensures.put)
          (subst (λ (u : ℕ). IsPut (word c.put_link.new.words) (word c.put_link-then-lits-ge2.new.words) u (a.clause + 3))
          other c.put_link-then-lits-ge2.ensures.put);
      len = c.put_link-then-lits-ge2.ensures.len ∙ c.put_link.ensures.len ∙ c.write_clause.ensures.len;
    }
