-- A section that refutes clauses shows that no assignment satisfies them.
use Rattle.std.proofs.Common.{◌≡◌, ◌∙◌, refl, sym, subst, ℕ, zero, suc, Bool, true, false, List, [], ◌∷◌}
use Rattle.std.proofs.Common.{Some}
use Rattle.std.specs.Prelude.{slice_get}
use Rattle.std.specs.List.{AllByRecursion}
use Rattle.std.proofs.lemmas.Bool.{and_from, and_parts}
use Rattle.resolution_check.specs.declared.log.Clause.{Clause}
use Rattle.resolution_check.specs.declared.log.Entry.{Entry}
use Rattle.resolution_check.specs.declared.log.Entry.TheVariants.{Input, Add, Delete, End}
use Rattle.resolution_check.specs.Entries.{IsUnsatisfiable, clause_value, inputs, satisfies}
use Rattle.resolution_check.proofs.Truth.{unsatisfiable}
use Rattle.log_checker.specs.Sections.{IsInputOf, IsRefuting, clause_numbered}

-- a clause of the list is true where all are
one_true : (v : ℕ → Bool) (clauses : List Clause) (at : ℕ) (c : Clause) → satisfies v clauses ≡ true →
    slice_get clauses at ≡ Some c → clause_value v c.lits ≡ true
one_true v [] at c all is = absurd (cc)
one_true v (d ∷ others) zero c all is =
    let same : d ≡ c = cc in
    subst (λ (x : Clause). clause_value v x.lits ≡ true) same
    (and_parts (clause_value v d.lits) (satisfies v others) all).0
one_true v (d ∷ others) (suc at) c all is =
    one_true v others at c (and_parts (clause_value v d.lits) (satisfies v others) all).1 is

numbered_true : (v : ℕ → Bool) (clauses : List Clause) (id : ℕ) (c : Clause) → satisfies v clauses ≡ true →
    clause_numbered clauses id ≡ Some c → clause_value v c.lits ≡ true
numbered_true v clauses zero c all is = absurd (cc)
numbered_true v clauses (suc at) c all is = one_true v clauses at c all is

inputs_true : (v : ℕ → Bool) (clauses : List Clause) → satisfies v clauses ≡ true → (es : List Entry) →
    AllByRecursion (IsInputOf clauses) es → satisfies v (inputs es) ≡ true
inputs_true v clauses all [] of = refl
inputs_true v clauses all (Input id c ∷ es) of =
    and_from (clause_value v c.lits) (satisfies v (inputs es)) (numbered_true v clauses id c all of.0)
    (inputs_true v clauses all es of.1)
inputs_true v clauses all (Add id c chain ∷ es) of = inputs_true v clauses all es of.1
inputs_true v clauses all (Delete id ∷ es) of = inputs_true v clauses all es of.1
inputs_true v clauses all (End ∷ es) of = inputs_true v clauses all es of.1

pub refuted_clauses : (clauses : List Clause) (entries : List Entry) → IsRefuting clauses entries →
    IsUnsatisfiable clauses
refuted_clauses clauses entries shown v = by_value (satisfies v clauses) refl where
  by_value : (b : Bool) → satisfies v clauses ≡ b → b ≡ false
  by_value false e = refl
  by_value true e =
      let never = unsatisfiable entries shown.front.good shown.empty v in
      let always = inputs_true v clauses e entries shown.front.inputs in sym always ∙ never
