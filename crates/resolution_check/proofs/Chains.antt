-- Steps of a chain.
use Rattle.std.proofs.Common.{◌≡◌, inl, inr, refl, sym, ◌∙◌, ap, subst, length, add-zero, arith, ℕ, ◌+◌, not, ◌&&◌}
use Rattle.std.proofs.Common.{◌||◌, List, [], ◌∷◌, ◌++◌, Option, Some, None, Result, Ok, Err}
use Rattle.std.specs.Option.{option_map_or, ok_or}
use Rattle.resolution_check.specs.declared.log.Lit.{Lit}
use Rattle.resolution_check.specs.declared.log.Clause.{Clause}
use Rattle.resolution_check.specs.declared.log.Bad.{Bad}
use Rattle.resolution_check.specs.declared.log.Bad.TheVariants.{NoPivot, UnknownId}
use Rattle.resolution_check.specs.declared.marks.Marks.{Marks}
use Rattle.resolution_check.specs.Clauses.{opposite, is_same, has, without, clashing, the_one, resolvent}
use Rattle.resolution_check.specs.Entries.{and_then, resolved, resolved_next, resolved_from}
use Rattle.resolution_check.specs.Marked.{marked, Shows, Resolves}
use Rattle.resolution_check.proofs.Pivots.{resolvent_shown}

-- one clause more
pub next_shown : (held : ℕ → Option Clause) (old new : Marks) (r : List Lit) (at id : ℕ) (c : Clause) (p : Lit)
    → held id ≡ Some c → Some p ≡ the_one (clashing r c.lits) → Shows old r
    → ((l : Lit) → marked new l ≡ (has (without c.lits (opposite p)) l || (not (is_same p l) && marked old l)))
    → Resolves {U = Unit {0}} new (Ok tt) (resolved_next held r at id)
next_shown held old new r at id c p is_held is_pivot shows marks =
    let answer : resolved_next held r at id ≡ Ok (without r p ++ without c.lits (opposite p)) =
    rw (is_held, ← is_pivot) refl in
    subst (Resolves {U = Unit {0}} new (Ok tt)) (sym answer) (resolvent_shown old new r c.lits p shows marks)

after : (held : ℕ → Option Clause) (m : Marks) (at : ℕ) (rest : List ℕ) (answer : Result (List Lit) Bad)
    → Resolves {U = Unit {0}} m (Ok tt) answer
    → (s : List Lit) × Shows m s
    × (and_then answer (λ t. resolved_from held t (at + 1) rest) ≡ resolved_from held s (at + 1) rest)
after held m at rest (Ok s) h = (s, h, refl)
after held m at rest (Err bad) h = absurd h

-- the rest of the chain goes on from the resolvent that is shown
pub goes_on : (held : ℕ → Option Clause) (m : Marks) (r : List Lit) (at id : ℕ) (rest : List ℕ)
    → Resolves {U = Unit {0}} m (Ok tt) (resolved_next held r at id)
    → (s : List Lit) × Shows m s × (resolved_from held r at (id ∷ rest) ≡ resolved_from held s (at + 1) rest)
goes_on held m r at id rest h = after held m at rest (resolved_next held r at id) h

-- a fault in the middle is the chain's fault
pub stops : (held : ℕ → Option Clause) (m : Marks) (r : List Lit) (at id : ℕ) (rest : List ℕ) (bad : Bad)
    → Resolves {U = Unit {0}} m (Err bad) (resolved_next held r at id)
    → Resolves {U = Unit {0}} m (Err bad) (resolved_from held r at (id ∷ rest))
stops held m r at id rest bad (inl memory) = inl memory
stops held m r at id rest bad (inr fault) =
    inr (ap (λ answer. and_then answer (λ t. resolved_from held t (at + 1) rest)) fault)

-- the first clause of a chain
pub begins : (held : ℕ → Option Clause) (id : ℕ) (c : Clause) (others chain : List ℕ) → chain ≡ id ∷ others
    → held id ≡ Some c → resolved_from held c.lits 1 others ≡ resolved held chain
begins held id c others chain e h =
    let answer : resolved held (id ∷ others) ≡ resolved_from held c.lits 1 others = rw h refl in
    sym (ap (resolved held) e ∙ answer)

-- ---- what the held clauses have and resolvents keep, a chain's result has

module _ (P : List Lit → Type 0) (keeps : (c d s : List Lit) → P c → P d → resolvent c d ≡ Some s → P s)
    (held : ℕ → Option Clause) (each : (id : ℕ) (c : Clause) → held id ≡ Some c → P c.lits) where
  next_has : (r : List Lit) (at id : ℕ) (s : List Lit) → P r → resolved_next held r at id ≡ Ok s → P s
  next_has r at id s h e = by_clause (held id) refl e
    where
      by_resolvent : (c : Clause) → held id ≡ Some c → (o : Option (List Lit)) → resolvent r c.lits ≡ o
          → ok_or o (NoPivot at) ≡ Ok s → P s
      by_resolvent c there None f e = absurd (cc)
      by_resolvent c there (Some t) f e = let same : t ≡ s = cc in subst P same (keeps r c.lits t h (each id c there) f)

      by_clause : (o : Option Clause) → held id ≡ o
          → option_map_or (λ c. ok_or (resolvent r c.lits) (NoPivot at)) o (Err (UnknownId id)) ≡ Ok s → P s
      by_clause None there e = absurd (cc)
      by_clause (Some c) there e = by_resolvent c there (resolvent r c.lits) refl e

  rest_has : (ids : List ℕ) (at : ℕ) (s : List Lit) (answer : Result (List Lit) Bad)
      → ((t : List Lit) → answer ≡ Ok t → P t)
      → ((t : List Lit) → P t → resolved_from held t (at + 1) ids ≡ Ok s → P s)
      → and_then answer (λ t. resolved_from held t (at + 1) ids) ≡ Ok s → P s
  rest_has ids at s (Ok t) here later e = later t (here t refl) e
  rest_has ids at s (Err bad) here later e = absurd (cc)

  from_has : (ids : List ℕ) (r : List Lit) (at : ℕ) (s : List Lit) → P r → resolved_from held r at ids ≡ Ok s → P s
  from_has [] r at s h e = let same : r ≡ s = cc in subst P same h
  from_has (id ∷ ids) r at s h e =
      rest_has ids at s (resolved_next held r at id) (λ t f. next_has r at id t h f)
      (λ t k f. from_has ids t (at + 1) s k f) e

  -- what each held clause has and each resolvent of two that have it, the last resolvent of a chain has
  pub resolved_has : (chain : List ℕ) (r : List Lit) → resolved held chain ≡ Ok r → P r
  resolved_has [] r e = absurd (cc)
  resolved_has (id ∷ ids) r e = by_clause (held id) refl e
    where
      by_clause : (o : Option Clause) → held id ≡ o
          → option_map_or (λ c. resolved_from held c.lits 1 ids) o (Err (UnknownId id)) ≡ Ok r → P r
      by_clause None there e = absurd (cc)
      by_clause (Some c) there e = from_has ids c.lits 1 r (each id c there) e

-- ---- a chain that is made longer at its end

then_ok : (answer : Result (List Lit) Bad) → and_then answer (λ s. Ok s) ≡ answer
then_ok (Ok s) = refl
then_ok (Err bad) = refl

then_then : (answer : Result (List Lit) Bad) (f g : List Lit → Result (List Lit) Bad)
    → and_then (and_then answer f) g ≡ and_then answer (λ s. and_then (f s) g)
then_then (Ok s) f g = refl
then_then (Err bad) f g = refl

from_push : (held : ℕ → Option Clause) (r : List Lit) (at : ℕ) (ids : List ℕ) (id : ℕ)
    → resolved_from held r at (ids ++ id ∷ [])
    ≡ and_then (resolved_from held r at ids) (λ s. resolved_next held s (at + length ids) id)
from_push held r at [] id =
    then_ok (resolved_next held r at id) ∙ ap (λ n. resolved_next held r n id) (sym (add-zero at))
from_push held r at (first ∷ ids) id =
    let place : at + 1 + length ids ≡ at + length (first ∷ ids) = omega arith in
    let later : (λ s. resolved_from held s (at + 1) (ids ++ id ∷ []))
    ≡ (λ s. and_then (resolved_from held s (at + 1) ids) (λ t. resolved_next held t (at + length (first ∷ ids)) id)) =
    λ i s. (from_push held s (at + 1) ids id
    ∙ ap (λ n. and_then (resolved_from held s (at + 1) ids) (λ t. resolved_next held t n id)) place) i in
    ap (and_then (resolved_next held r at first)) later
    ∙ sym (then_then (resolved_next held r at first) (λ s. resolved_from held s (at + 1) ids)
    (λ t. resolved_next held t (at + length (first ∷ ids)) id))

-- one number more resolves the last resolvent with its clause
pub resolved-push : (held : ℕ → Option Clause) (chain : List ℕ) (id : ℕ) (r : List Lit) → resolved held chain ≡ Ok r
    → resolved held (chain ++ id ∷ []) ≡ resolved_next held r (length chain) id
resolved-push held [] id r h = absurd (cc)
resolved-push held (first ∷ ids) id r h = by_first (held first) h
  where
    by_first : (o : Option Clause)
        → option_map_or (λ c. resolved_from held c.lits 1 ids) o (Err (UnknownId first)) ≡ Ok r
        → option_map_or (λ c. resolved_from held c.lits 1 (ids ++ id ∷ [])) o (Err (UnknownId first))
        ≡ resolved_next held r (length (first ∷ ids)) id
    by_first None k = absurd (cc)
    by_first (Some c) k =
        let place : 1 + length ids ≡ length (first ∷ ids) = omega arith in
        from_push held c.lits 1 ids id
        ∙ ap (λ answer. and_then answer (λ s. resolved_next held s (1 + length ids) id)) k
        ∙ ap (λ n. resolved_next held r n id) place
