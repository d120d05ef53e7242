-- Where every variable has a value, each clause that is held has a true literal.
use Rattle.std.proofs.Common.{◌≡◌, ℕ, ◌+◌, ◌<◌, true, List, length, Some, None, is_some, inl, inr, sym, ap, ◌∙◌, arith}
use Rattle.std.proofs.lemmas.Bool.{false≢true}
use Rattle.resolution_check.specs.declared.log.Lit.{Lit}
use Rattle.resolution_check.specs.declared.log.Clause.{Clause}
use Rattle.resolution_check.specs.Clauses.{has}
use Rattle.resolution_check.specs.Trails.{value_of, HasTrue, IsTotal}
use Rattle.clause_arena.specs.Links.{word}
use Rattle.mw_text.specs.Members.{In}
use Rattle.clause_arena.specs.Store.{Store, IsSound}
use Rattle.clause_arena.specs.Held.{held_in, lits_of}
use Rattle.watched_search.specs.Watches.{literal, IsKept}
use Rattle.watched_search.proofs.Settled.{numbered_at, settled_now}
use Rattle.watched_search.proofs.Visits.{literal_at, literal_below}

module _ (a : Store) (sound : IsSound a.vars a.words a.refs) (steps : List Lit) (levels : List ℕ) (vars : ℕ)
    (same : vars ≡ a.vars) (k : IsKept a steps levels (length steps)) (total : IsTotal vars steps) where
  value_there : (r : ℕ) → In r a.refs → (l : Lit) → has (lits_of a r) l ≡ true → value_of steps l.var ≡ None → ⊥
  value_there r i l inside free =
      let at = literal_at a sound r i l inside in
      let low : (literal a r at.0).var < a.vars = literal_below a sound r i at.0 at.1 in
      let own : (literal a r at.0).var ≡ l.var = ap (λ (m : Lit). m.var) at.2 in
      let some : is_some (value_of steps l.var) ≡ true = total l.var (omega arith) in
      false≢true (sym (ap is_some free) ∙ some)

  pub totals : (id : ℕ) (c : Clause) → held_in a id ≡ Some c → HasTrue steps c.lits
  totals id c held =
      let at = numbered_at (λ r. (word a.words (r + 1), lits_of a r)) a.refs id c held in
      elim (settled_now a sound steps levels (length steps) k (omega arith) id c held) [
        | inl one ↦ one
        | inr two ↦
            let inside : has (lits_of a at.ref) two.one ≡ true =
            sym (ap (λ (d : Clause). has d.lits two.one) at.same) ∙ two.inside_one in
            absurd (value_there at.ref at.held two.one inside two.free_one)
      ]
