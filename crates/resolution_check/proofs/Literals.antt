-- Lemmas on literals and on clauses as sets.
use Rattle.std.proofs.Common.{◌≡◌, inl, inr, refl, sym, ◌∙◌, ap, ap₂, nat_eq, Bool, true, false, not, ◌&&◌, ◌||◌, List}
use Rattle.std.proofs.Common.{[], ◌∷◌, ◌++◌, map, Option, Some, None}
use Rattle.std.specs.List.{filter, list_all}
use Rattle.std.specs.Bool.{beq}
use Rattle.std.proofs.lemmas.Bool.{cases_Bool, and_parts, eqb-true, eq-eqb, cond_both, false≢true, or_right, or_left}
use Rattle.std.proofs.lemmas.Bool.{or_cases, and_from, and_left}
use Rattle.std.proofs.Math.Bool.{not-not}
use Rattle.std.proofs.lemmas.List.Folds.{list_any-append}
use Rattle.mw_text.proofs.Lists.{beq-refl, beq-true}
use Rattle.resolution_check.specs.declared.log.Lit.{Lit}
use Rattle.resolution_check.specs.Clauses.{opposite, is_same, has, the_one}

-- literals that are the same are equal
pub same_lit : (k l : Lit) → is_same k l ≡ true → k ≡ l
same_lit k l h =
    let both = and_parts _ _ h in
    λ i. record { var = eqb-true k.var l.var both.0 i; negated = beq-true k.negated l.negated both.1 i }

-- a literal is the same as itself
pub same_refl : (l : Lit) → is_same l l ≡ true
same_refl l = rw (eq-eqb l.var l.var refl) (beq-refl l.negated)

and-one : (b : Bool) → b ≡ true → (b && true) ≡ true
and-one b h = rw h refl

-- a test answers alike at the same literal
pub alike : (p : Lit → Bool) (k l : Lit) → is_same k l ≡ true → p k ≡ p l
alike p k l h = ap p (same_lit k l h)

-- being the same goes both ways
pub same_sym : (k l : Lit) → is_same k l ≡ is_same l k
same_sym k l =
    elim (cases_Bool (is_same k l)) [
      | inl sure ↦ sure ∙ sym (ap (λ m. is_same l m) (same_lit k l sure) ∙ same_refl l)
      | inr unlike ↦ elim (cases_Bool (is_same l k)) [
        | inl back ↦ absurd (false≢true (sym unlike ∙ (ap (λ m. is_same k m) (same_lit l k back) ∙ same_refl k)))
        | inr not_back ↦ unlike ∙ sym not_back
      ]
    ]

-- the other sign of the other sign
pub opposite_twice : (l : Lit) → opposite (opposite l) ≡ l
opposite_twice l = λ i. record { var = l.var; negated = not-not l.negated i }

-- the literals of two clauses together
pub has-append : (c d : List Lit) (l : Lit) → has (c ++ d) l ≡ (has c l || has d l)
has-append c d l = list_any-append (is_same l) c d

-- the literals of a clause that pass a test
pub has-filter : (p : Lit → Bool) (xs : List Lit) (l : Lit) → has (filter p xs) l ≡ (p l && has xs l)
has-filter p [] l = elim (p l) as (λ b. false ≡ (b && false)) [ true ↦ refl | false ↦ refl ]
has-filter p (x ∷ xs) l =
    cond_both (p x) (x ∷ filter p xs) (filter p xs) (λ ys. has ys l ≡ (p l && (is_same l x || has xs l)))
    (λ is_p. elim (cases_Bool (is_same l x)) [
      | inl here ↦ rw here (sym (and-one (p l) (alike p l x here ∙ is_p)))
      | inr other ↦ rw other (has-filter p xs l)
    ])
    (λ not_p. elim (cases_Bool (is_same l x)) [
      | inl here ↦ (has-filter p xs l ∙ and_left _ _ (alike p l x here ∙ not_p))
          ∙ sym (and_left _ _ (alike p l x here ∙ not_p))
      | inr other ↦ rw other (has-filter p xs l)
    ])

-- the other sign may stand on either side
pub is_same-opposite : (k l : Lit) → is_same k (opposite l) ≡ is_same (opposite k) l
is_same-opposite k l =
    ap (λ b. (nat_eq k.var l.var) && b) (elim k.negated as (λ a. beq a (not l.negated) ≡ beq (not a) l.negated) [
      | true ↦ elim l.negated as (λ b. beq true (not b) ≡ beq false b) [ true ↦ refl | false ↦ refl ]
      | false ↦ elim l.negated as (λ b. beq false (not b) ≡ beq true b) [ true ↦ refl | false ↦ refl ]
    ])

-- the negations of a clause
pub has-opposites : (d : List Lit) (l : Lit) → has (map opposite d) l ≡ has d (opposite l)
has-opposites [] l = refl
has-opposites (x ∷ d) l = ap₂ (λ a b. a || b) (is_same-opposite l x) (has-opposites d l)

-- what each literal of a clause passes
pub all_at : (q : Lit → Bool) (xs : List Lit) → list_all q xs ≡ true → (l : Lit) → has xs l ≡ true → q l ≡ true
all_at q [] h l m = absurd (false≢true m)
all_at q (x ∷ xs) h l m =
    let both = and_parts _ _ h in
    elim (or_cases _ _ m) [ inl here ↦ alike q l x here ∙ both.0 | inr later ↦ all_at q xs both.1 l later ]

-- a test that each literal of a clause passes
pub all_from : (q : Lit → Bool) (xs : List Lit) → ((l : Lit) → has xs l ≡ true → q l ≡ true) → list_all q xs ≡ true
all_from q [] h = refl
all_from q (x ∷ xs) h = and_from _ _ (h x (or_left _ _ (same_refl x))) (all_from q xs (λ l m. h l (or_right _ _ m)))

-- p stands in the list, and nothing else
pub record IsOne (xs : List Lit) (p : Lit) : Type 0 where
  pub there : has xs p ≡ true
  pub only : (l : Lit) → has xs l ≡ true → is_same p l ≡ true

-- the one literal of a list
pub the_one-at : (xs : List Lit) (p : Lit) → IsOne xs p → the_one xs ≡ Some p
the_one-at [] p h = absurd (false≢true h.there)
the_one-at (x ∷ xs) p h =
    let first : p ≡ x = same_lit p x (h.only x (or_left _ _ (same_refl x))) in
    let others : list_all (is_same x) xs ≡ true =
    all_from (is_same x) xs (λ l m. ap (λ k. is_same k l) (sym first) ∙ h.only l (or_right _ _ m)) in
    rw others (ap (λ l. Some l) (sym first))

-- a list that has one literal has it alone
pub the_one-Some : (xs : List Lit) (p : Lit) → the_one xs ≡ Some p → IsOne xs p
the_one-Some [] p h = absurd (cc)
the_one-Some (x ∷ xs) p h =
    elim (cases_Bool (list_all (is_same x) xs)) [
      | inl sure ↦
          let first : x ≡ p = cc in
          record {
            there = or_left _ _ (ap (λ l. is_same p l) first ∙ same_refl p);
            only = λ l m. ap (λ k. is_same k l) (sym first)
                ∙ elim (or_cases _ _ m) [
                  | inl here ↦ same_sym x l ∙ here
                  | inr later ↦ all_at (is_same x) xs sure l later
                ];
          }
      | inr unlike ↦ absurd (cc)
    ]

moved : (xs ys : List Lit) → ((l : Lit) → has xs l ≡ has ys l) → (p : Lit) → the_one xs ≡ Some p → the_one ys ≡ Some p
moved xs ys same p h =
    let one = the_one-Some xs p h in
    the_one-at ys p (record { there = sym (same p) ∙ one.there; only = λ l m. one.only l (same l ∙ m) })

by_cases : (xs ys : List Lit) → ((l : Lit) → has xs l ≡ has ys l) → (a b : Option Lit) → the_one xs ≡ a
    → the_one ys ≡ b → the_one xs ≡ the_one ys
by_cases xs ys same (Some p) b h k = h ∙ sym (moved xs ys same p h)
by_cases xs ys same None (Some p) h k = moved ys xs (λ l. sym (same l)) p k ∙ sym k
by_cases xs ys same None None h k = h ∙ sym k

-- two lists with the same literals have the same one literal, or both none
pub the_one-same : (xs ys : List Lit) → ((l : Lit) → has xs l ≡ has ys l) → the_one xs ≡ the_one ys
the_one-same xs ys h = by_cases xs ys h (the_one xs) (the_one ys) refl refl
