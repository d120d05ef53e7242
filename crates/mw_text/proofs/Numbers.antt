-- Numbers that differ, and those that are compared two by two.
use Rattle.std.proofs.Common.{◌≡◌, ℕ, ◌+◌, ◌-◌, ◌/◌, ◌^◌, ◌<◌, ◌≤◌, ◌==◌, ◌&&◌, Bool, true, false, eqb, List, []}
use Rattle.std.proofs.Common.{◌∷◌, length, inl, inr, refl, sym, ap, ◌∙◌, arith}
use Rattle.std.specs.Prelude.{filter, ◌⊎◌}
use Rattle.std.specs.List.{AllByRecursion, list_all}
use Rattle.std.proofs.lemmas.Bool.{and_from, and_parts, ne_eqb}
use Rattle.std.proofs.lemmas.Bool.Decides.{nat_tests}
use Rattle.std.proofs.Math.Nat.{div-div-eq-div-mul}
use Rattle.std.proofs.lemmas.Nat.{pow-add}
use Rattle.mw_text.specs.Address.{block}
use Rattle.mw_text.specs.Members.{In, count}

-- a greater number is another
pub apart : (a b : ℕ) → b < a → (a == b) ≡ false
apart a b h = grind (arith, nat_tests)

-- two pairs of equal numbers, from the other side
pub flipped : (a b c d : ℕ) → ((a == b) && (c == d)) ≡ ((b == a) && (d == c))
flipped a b c d = grind (arith, nat_tests)

-- below the next number is below or at this one
pub earlier : (from at : ℕ) → from < at + 1 → (from < at) ⊎ (from ≡ at)
earlier from at below = grind (arith, below)

-- a sign is not both
pub not_both : (b : Bool) → b ≡ true → b ≡ false → ⊥
not_both true marked unmarked = cc
not_both false marked unmarked = cc

-- a number that is no member differs from each
pub apart_from : (p : ℕ) (xs : List ℕ) → (In p xs → ⊥) → AllByRecursion (λ y. eqb p y ≡ false) xs
apart_from p [] out = tt
apart_from p (x ∷ xs) out = (ne_eqb p x (λ e. out (inl e)), apart_from p xs (λ i. out (inr i)))

-- what all numbers pass those pass that are left
pub all_kept : (p q : ℕ → Bool) (ts : List ℕ) → list_all p ts ≡ true → list_all p (filter q ts) ≡ true
all_kept p q [] all = refl
all_kept p q (t ∷ ts) all = by (q t) refl (all_kept p q ts (and_parts (p t) (list_all p ts) all).1) where
  by : (b : Bool) → q t ≡ b → list_all p (filter q ts) ≡ true → list_all p (filter q (t ∷ ts)) ≡ true
  by true e rest = rw e (and_from _ _ (and_parts (p t) (list_all p ts) all).0 rest)
  by false e rest = rw e rest

-- addresses that share a longer prefix share a shorter one
pub coarser : (a b long short : ℕ) → short ≤ long → a / block long ≡ b / block long → a / block short ≡ b / block short
coarser a b long short le same = one a ∙ ap (λ n. n / 2 ^ more) same ∙ sym (one b) where
  more : ℕ
  more = (32 - short) - (32 - long)

  bits_of : (32 - long) + more ≡ 32 - short
  bits_of = omega (arith, le)

  one : (n : ℕ) → n / block short ≡ n / block long / 2 ^ more
  one n = ap (λ k. n / 2 ^ k) (sym bits_of) ∙ ap (λ k. n / k) (pow-add 2 (32 - long) more)
      ∙ sym (div-div-eq-div-mul n (2 ^ (32 - long)) (2 ^ more))

-- ---- marks

-- no more marks are set than there are
pub count_few : (bs : List Bool) → count bs ≤ length bs
count_few [] = omega arith
count_few (true ∷ bs) = let rest = count_few bs in omega (arith, rest)
count_few (false ∷ bs) = let rest = count_few bs in omega (arith, rest)
