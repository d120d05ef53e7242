-- Clauses as numbers: each variable is a digit to base 3.
use Rattle.std.proofs.Common.{◌≡◌, ℕ, zero, suc, ◌+◌, ◌*◌, ◌^◌, ◌<◌, ◌≤◌, Bool, true, false, not, cond, List, [], ◌∷◌}
use Rattle.std.proofs.Common.{inl, inr, refl, sym, ap, subst, ◌∙◌, arith, nat_lt}
use Rattle.std.proofs.lemmas.Bool.{and_parts, cases_Bool, cases_lt, false≢true, or_cases, ltb-true}
use Rattle.std.proofs.Math.Nat.{pow-succ'}
use Rattle.resolution_check.specs.declared.log.Lit.{Lit}
use Rattle.resolution_check.specs.Clauses.{has, is_same, is_inside, is_below}
use Rattle.resolution_check.specs.Earned.{has_var, vars_differ}
use Rattle.resolution_check.proofs.Literals.{all_at, all_from, same_lit}
use Rattle.resolution_check.proofs.Variables.{has_var_from}

abbrev chosen : Bool → Bool → ℕ
chosen plain negated = cond plain 1 (cond negated 2 0)

-- 1 where the clause has the variable plain, 2 where it has it negated alone, and 0 where it has neither
abbrev digit : List Lit → ℕ → ℕ
digit c v = chosen (has c (record { var = v; negated = false })) (has c (record { var = v; negated = true }))

-- the digits of the variables below the limit
abbrev pub code : List Lit → ℕ → ℕ
code c zero = 0
code c (suc v) = digit c v + 3 * code c v

-- ---- how large a code is

chosen_small : (a b : Bool) → chosen a b ≤ 2
chosen_small true b = omega arith
chosen_small false true = omega arith
chosen_small false false = omega arith

digit_small : (c : List Lit) (v : ℕ) → digit c v ≤ 2
digit_small c v =
    chosen_small (has c (record { var = v; negated = false })) (has c (record { var = v; negated = true }))

one_more : (first rest power : ℕ) → first ≤ 2 → rest < power → first + 3 * rest < 3 * power
one_more first rest power small below = omega arith

pub code_below : (c : List Lit) (limit : ℕ) → code c limit < 3 ^ limit
code_below c zero = omega arith
code_below c (suc v) = rw (pow-succ' 3 v) (one_more (digit c v) (code c v) (3 ^ v) (digit_small c v) (code_below c v))

-- ---- one code, one set

one_less : (a b c d : ℕ) → a ≤ 2 → b ≤ 2 → a + 3 * c ≡ b + 3 * d → (a ≡ b) × (c ≡ d)
one_less a b c d small small' e = (omega arith, omega arith)

same_digit : (c d : List Lit) (limit v : ℕ) → code c limit ≡ code d limit → v < limit → digit c v ≡ digit d v
same_digit c d zero v e below = absurd (omega arith)
same_digit c d (suc n) v e below =
    let both = one_less (digit c n) (digit d n) (code c n) (code d n) (digit_small c n) (digit_small d n) e in
    elim (cases_lt v n) [
      | inl less ↦ same_digit c d n v both.1 less
      | inr after ↦ let here : n ≡ v = omega arith in subst (λ m. digit c m ≡ digit d m) here both.0
    ]

not_again : (c : List Lit) (x k l : Lit) → not (has_var c x.var) ≡ true → is_same k x ≡ true → has c l ≡ true
    → k.var ≡ l.var → ⊥
not_again c x k l once here later e =
    let there : has_var c x.var ≡ true =
    ap (λ (m : Lit). has_var c m.var) (sym (same_lit k x here)) ∙ ap (has_var c) e ∙ has_var_from c l later in
    false≢true (ap not (sym there) ∙ once)

-- literals of one variable are one literal
one_sign : (c : List Lit) (k l : Lit) → vars_differ c ≡ true → has c k ≡ true → has c l ≡ true → k.var ≡ l.var → k ≡ l
one_sign [] k l once h g e = absurd (false≢true h)
one_sign (x ∷ c) k l once h g e =
    let parts = and_parts _ _ once in
    elim (or_cases _ _ h) [
      | inl here ↦ elim (or_cases _ _ g) [
        | inl also ↦ same_lit k x here ∙ sym (same_lit l x also)
        | inr later ↦ absurd (not_again c x k l parts.0 here later e)
      ]
      | inr after ↦ elim (or_cases _ _ g) [
        | inl here ↦ absurd (not_again c x l k parts.0 here after (sym e))
        | inr later ↦ one_sign c k l parts.1 after later e
      ]
    ]

plain_too : (a b x y : Bool) → chosen a b ≡ chosen x y → a ≡ true → x ≡ true
plain_too a b true y e h = refl
plain_too true b false true e h = absurd (omega arith)
plain_too true b false false e h = absurd (omega arith)
plain_too false b false y e h = h

negated_too : (a b x y : Bool) → chosen a b ≡ chosen x y → a ≡ false → b ≡ true → y ≡ true
negated_too a b x true e h g = refl
negated_too true b x false e h g = absurd (false≢true (sym h))
negated_too false false x false e h g = g
negated_too false true true false e h g = absurd (omega arith)
negated_too false true false false e h g = absurd (omega arith)

has_too : (c d : List Lit) (v : ℕ) (negated : Bool) → vars_differ c ≡ true → digit c v ≡ digit d v
    → has c (record { var = v; negated = negated }) ≡ true → has d (record { var = v; negated = negated }) ≡ true
has_too c d v false once e h = plain_too _ _ _ _ e h
has_too c d v true once e h = elim (cases_Bool (has c (record { var = v; negated = false }))) [
  | inl plain ↦ let same =
      one_sign c (record { var = v; negated = false }) (record { var = v; negated = true }) once plain h refl in
      absurd (false≢true (ap (λ (l : Lit). l.negated) same))
  | inr none ↦ negated_too _ _ _ _ e none h
]

-- a clause in which no variable stands twice is inside each clause of the same code
pub inside_from_code : (c d : List Lit) (limit : ℕ) → vars_differ c ≡ true → is_below limit c ≡ true
    → code c limit ≡ code d limit → is_inside c d ≡ true
inside_from_code c d limit once below e = all_from (has d) c (λ l h.
    has_too c d l.var l.negated once
    (same_digit c d limit l.var e (ltb-true l.var limit (all_at (λ k. nat_lt k.var limit) c below l h))) h)
