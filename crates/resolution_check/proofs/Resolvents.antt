-- Resolvents as sets.
use Rattle.std.proofs.Common.{◌≡◌, refl, sym, ◌∙◌, ap, ap₂, true, not, ◌&&◌, ◌||◌, List, ◌++◌, Option, Some, None}
use Rattle.std.specs.Option.{option_map}
use Rattle.std.proofs.lemmas.Bool.{and_parts, and_from}
use Rattle.resolution_check.specs.declared.log.Lit.{Lit}
use Rattle.resolution_check.specs.Clauses.{opposite, is_same, has, is_inside, clashing, the_one, without, resolvent}
use Rattle.resolution_check.specs.Clauses.{IsPivot, IsSameSet}
use Rattle.resolution_check.proofs.Literals.{the_one-at, the_one-Some, has-filter, has-append, same_lit, same_refl}
use Rattle.resolution_check.proofs.Literals.{all_from}

-- two clauses with a pivot have a resolvent
pub resolvent-pivot : (c d : List Lit) (p : Lit) → IsPivot c d p
    → resolvent c d ≡ Some (without c p ++ without d (opposite p))
resolvent-pivot c d p h =
    let there : has (clashing c d) p ≡ true =
    has-filter (λ l. has d (opposite l)) c p ∙ and_from (has d (opposite p)) (has c p) h.second h.first in
    let one : the_one (clashing c d) ≡ Some p = the_one-at (clashing c d) p (record {
      there = there;
      only =
          λ l k. let both = and_parts (has d (opposite l)) (has c l) (sym (has-filter (λ m. has d (opposite m)) c l)
          ∙ k) in ap (is_same p) (h.only l both.1 both.0)
          ∙ same_refl p;
    }) in
    ap (option_map (λ l. without c l ++ without d (opposite l))) one

-- a resolvent has a pivot
pub pivot_from : (c d s : List Lit) → resolvent c d ≡ Some s
    → (p : Lit) × IsPivot c d p × (s ≡ without c p ++ without d (opposite p))
pivot_from c d s h = by_one (the_one (clashing c d)) refl h
  where
    by_one : (o : Option Lit) → the_one (clashing c d) ≡ o
        → option_map (λ l. without c l ++ without d (opposite l)) o ≡ Some s
        → (p : Lit) × IsPivot c d p × (s ≡ without c p ++ without d (opposite p))
    by_one None e k = absurd (cc)
    by_one (Some p) e k =
        let one = the_one-Some (clashing c d) p e in
        let both =
        and_parts (has d (opposite p)) (has c p) (sym (has-filter (λ l. has d (opposite l)) c p) ∙ one.there) in
        let parts : s ≡ without c p ++ without d (opposite p) = cc in (
          p,
          record {
            first = both.1;
            second = both.0;
            only = λ l m n. sym (same_lit p l
                (one.only l (has-filter (λ k. has d (opposite k)) c l ∙ and_from (has d (opposite l)) (has c l) n m)));
          },
          parts,
        )

-- the literals of the resolvent
pub has-resolved : (c d : List Lit) (p l : Lit)
    → has (without c p ++ without d (opposite p)) l
    ≡ ((not (is_same p l) && has c l) || (not (is_same (opposite p) l) && has d l))
has-resolved c d p l =
    has-append (without c p) (without d (opposite p)) l
    ∙ ap₂ (λ a b. a || b) (has-filter (λ k. not (is_same p k)) c l) (has-filter (λ k. not (is_same (opposite p) k)) d l)

-- a resolvent has a pivot, and these literals
pub has-resolvent : (c d s : List Lit) → resolvent c d ≡ Some s
    → (p : Lit) × IsPivot c d p
    × ((l : Lit) → has s l ≡ ((not (is_same p l) && has c l) || (not (is_same (opposite p) l) && has d l)))
has-resolvent c d s h =
    let found = pivot_from c d s h in (found.0, found.1, λ l. ap (λ t. has t l) found.2 ∙ has-resolved c d found.0 l)

-- equal sets have equal resolvents
pub same_resolvent : (a b c d s : List Lit) → IsSameSet a c → IsSameSet b d → resolvent a b ≡ Some s
    → (t : List Lit) × (resolvent c d ≡ Some t) × IsSameSet s t
same_resolvent a b c d s p q h =
    let found = has-resolvent a b s h in
    let pivot : IsPivot c d found.0 = record {
      first = sym (p found.0) ∙ found.1.first;
      second = sym (q (opposite found.0)) ∙ found.1.second;
      only = λ l m n. found.1.only l (p l ∙ m) (q (opposite l) ∙ n);
    } in (
      without c found.0 ++ without d (opposite found.0),
      resolvent-pivot c d found.0 pivot,
      λ l. found.2 l
          ∙ ap₂ (λ x y. (not (is_same found.0 l) && x) || (not (is_same (opposite found.0) l) && y)) (p l) (q l)
          ∙ sym (has-resolved c d found.0 l),
    )

-- a set is inside itself
pub inside-same : (c d : List Lit) → IsSameSet c d → is_inside c d ≡ true
inside-same c d h = all_from (has d) c (λ l m. sym (h l) ∙ m)
