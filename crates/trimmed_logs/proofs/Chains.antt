-- Chains whose numbers are changed.
use Rattle.std.proofs.Common.{◌≡◌, ◌∙◌, refl, ap, sym, subst, ℕ, ◌+◌, ◌==◌, Bool, true, false, ◌||◌, List, [], ◌∷◌, map, arith}
use Rattle.std.proofs.Common.{Option, Some, None, Result, Ok, Err, IsSome, inl, inr}
use Rattle.std.specs.Option.{option_map_or, ok_or}
use Rattle.std.specs.List.{list_any}
use Rattle.std.proofs.lemmas.Bool.{or_cases, eqb-true, false≢true}
use Rattle.resolution_check.specs.declared.log.Lit.{Lit}
use Rattle.resolution_check.specs.declared.log.Clause.{Clause}
use Rattle.resolution_check.specs.declared.log.Bad.{Bad}
use Rattle.resolution_check.specs.declared.log.Bad.TheVariants.{NoPivot, UnknownId}
use Rattle.resolution_check.specs.Clauses.{resolvent}
use Rattle.resolution_check.specs.Entries.{and_then, resolved, resolved_from}

-- whether the number stands in the chain
abbrev pub is_among : List ℕ → ℕ → Bool
is_among chain id = list_any (λ other. other == id) chain

pub among_first : (id : ℕ) (ids : List ℕ) → is_among (id ∷ ids) id ≡ true
among_first id ids = grind arith

pub among_later : (first : ℕ) (ids : List ℕ) (id : ℕ) → is_among ids id ≡ true → is_among (first ∷ ids) id ≡ true
among_later first ids id h = ap (λ b. (first == id) || b) h ∙ or_true (first == id)
  where
    or_true : (b : Bool) → (b || true) ≡ true
    or_true true = refl
    or_true false = refl

-- what is held under the numbers of a chain is held under other numbers elsewhere
abbrev pub AreNamed : (held other : ℕ → Option Clause) → (ℕ → ℕ) → List ℕ → Type 0
AreNamed held other names chain =
    (id : ℕ) (c : Clause) → is_among chain id ≡ true → held id ≡ Some c → other (names id) ≡ Some c

module _ (held other : ℕ → Option Clause) (names : ℕ → ℕ) where
  next_named : (id : ℕ) (ids : List ℕ) (r : List Lit) (at : ℕ) (s : List Lit) (c : Clause) →
      other (names id) ≡ Some c →
      ((t : List Lit) → resolved_from held t (at + 1) ids ≡ Ok s → resolved_from other t (at + 1) (map names ids) ≡ Ok s) →
      (o : Option (List Lit)) → resolvent r c.lits ≡ o →
      and_then (ok_or o (NoPivot at)) (λ t. resolved_from held t (at + 1) ids) ≡ Ok s →
      resolved_from other r at (map names (id ∷ ids)) ≡ Ok s
  next_named id ids r at s c there later None f e = absurd (cc)
  next_named id ids r at s c there later (Some t) f e =
      ap (λ o. and_then (option_map_or (λ d. ok_or (resolvent r d.lits) (NoPivot at)) o (Err (UnknownId (names id))))
      (λ u. resolved_from other u (at + 1) (map names ids))) there
      ∙ ap (λ o. and_then (ok_or o (NoPivot at)) (λ u. resolved_from other u (at + 1) (map names ids))) f
      ∙ later t e

  clause_named : (id : ℕ) (ids : List ℕ) (r : List Lit) (at : ℕ) (s : List Lit) → AreNamed held other names (id ∷ ids) →
      ((t : List Lit) → resolved_from held t (at + 1) ids ≡ Ok s → resolved_from other t (at + 1) (map names ids) ≡ Ok s) →
      (o : Option Clause) → held id ≡ o →
      and_then (option_map_or (λ c. ok_or (resolvent r c.lits) (NoPivot at)) o (Err (UnknownId id)))
      (λ t. resolved_from held t (at + 1) ids) ≡ Ok s →
      resolved_from other r at (map names (id ∷ ids)) ≡ Ok s
  clause_named id ids r at s h later None there e = absurd (cc)
  clause_named id ids r at s h later (Some c) there e =
      next_named id ids r at s c (h id c (among_first id ids) there) later (resolvent r c.lits) refl e

  from_named : (ids : List ℕ) (r : List Lit) (at : ℕ) (s : List Lit) → AreNamed held other names ids →
      resolved_from held r at ids ≡ Ok s → resolved_from other r at (map names ids) ≡ Ok s
  from_named [] r at s h e = e
  from_named (id ∷ ids) r at s h e =
      clause_named id ids r at s h
      (λ t k. from_named ids t (at + 1) s (λ n c among is. h n c (among_later id ids n among) is) k) (held id) refl e

  -- a chain with other numbers for the same clauses has the same last resolvent
  pub resolved_named : (chain : List ℕ) (s : List Lit) → AreNamed held other names chain → resolved held chain ≡ Ok s →
      resolved other (map names chain) ≡ Ok s
  resolved_named [] s h e = absurd (cc)
  resolved_named (id ∷ ids) s h e = by_clause (held id) refl e
    where
      by_clause : (o : Option Clause) → held id ≡ o →
          option_map_or (λ c. resolved_from held c.lits 1 ids) o (Err (UnknownId id)) ≡ Ok s →
          resolved other (map names (id ∷ ids)) ≡ Ok s
      by_clause None there e = absurd (cc)
      by_clause (Some c) there e =
          ap (λ o. option_map_or (λ d. resolved_from other d.lits 1 (map names ids)) o (Err (UnknownId (names id))))
          (h id c (among_first id ids) there)
          ∙ from_named ids c.lits 1 s (λ n d among is. h n d (among_later id ids n among) is) e

-- ---- each number of a chain that has its resolvents is held

module _ (held : ℕ → Option Clause) where
  held_first : (first id : ℕ) (c : Clause) → (first == id) ≡ true → held first ≡ Some c → IsSome (held id)
  held_first first id c same there =
      let S : Option Clause → Type 0 = λ o. IsSome o in
      subst S (sym (ap held (sym (eqb-true first id same)) ∙ there)) refl

  next_held : (ids : List ℕ) (at : ℕ) (s : List Lit) (id : ℕ) →
      ((t : List Lit) → resolved_from held t (at + 1) ids ≡ Ok s → IsSome (held id)) →
      (answer : Result (List Lit) Bad) → and_then answer (λ t. resolved_from held t (at + 1) ids) ≡ Ok s →
      IsSome (held id)
  next_held ids at s id later (Ok t) f = later t f
  next_held ids at s id later (Err bad) f = absurd (cc)

  among_held : (first : ℕ) (ids : List ℕ) (r : List Lit) (at : ℕ) (s : List Lit) (id : ℕ) →
      (is_among ids id ≡ true → (t : List Lit) → resolved_from held t (at + 1) ids ≡ Ok s → IsSome (held id)) →
      is_among (first ∷ ids) id ≡ true → (o : Option Clause) → held first ≡ o →
      and_then (option_map_or (λ c. ok_or (resolvent r c.lits) (NoPivot at)) o (Err (UnknownId first)))
      (λ t. resolved_from held t (at + 1) ids) ≡ Ok s → IsSome (held id)
  among_held first ids r at s id later among None there f = absurd (cc)
  among_held first ids r at s id later among (Some c) there f = elim (or_cases _ _ among) [
    | inl here ↦ held_first first id c here there
    | inr rest ↦ next_held ids at s id (later rest) (ok_or (resolvent r c.lits) (NoPivot at)) f
  ]

  from_held : (ids : List ℕ) (r : List Lit) (at : ℕ) (s : List Lit) → resolved_from held r at ids ≡ Ok s →
      (id : ℕ) → is_among ids id ≡ true → IsSome (held id)
  from_held [] r at s e id among = absurd (false≢true among)
  from_held (first ∷ ids) r at s e id among =
      among_held first ids r at s id (λ rest t f. from_held ids t (at + 1) s f id rest) among (held first) refl e

  pub resolved_held : (chain : List ℕ) (s : List Lit) → resolved held chain ≡ Ok s → (id : ℕ) →
      is_among chain id ≡ true → IsSome (held id)
  resolved_held [] s e id among = absurd (false≢true among)
  resolved_held (first ∷ ids) s e id among = by_clause (held first) refl e
    where
      by_clause : (o : Option Clause) → held first ≡ o →
          option_map_or (λ c. resolved_from held c.lits 1 ids) o (Err (UnknownId first)) ≡ Ok s → IsSome (held id)
      by_clause None there f = absurd (cc)
      by_clause (Some c) there f = elim (or_cases _ _ among) [
        | inl here ↦ held_first first id c here there
        | inr later ↦ from_held ids c.lits 1 s f id later
      ]
