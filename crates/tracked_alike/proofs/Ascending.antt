-- Ascending lists with the same values are the same.
use Rattle.std.proofs.Common.{◌≡◌, ℕ, zero, suc, Bool, true, false, ◌||◌, List, [], ◌∷◌, refl, ap, ◌∙◌, sym, arith}
use Rattle.std.proofs.Common.{if◌then◌else◌}
use Rattle.std.specs.Prelude.{◌==◌, count_by, insert, nat_lt}
use Rattle.std.specs.List.{list_all, list_any}
use Rattle.std.proofs.lemmas.Bool.{and_parts, eqb-true}
use Rattle.std.proofs.lemmas.Bool.Decides.{nat_tests}
use Rattle.ios_ast.specs.Deciding.{carries}
use Rattle.net_interfaces.specs.Values.{put_number, united}
use Rattle.net_parts.specs.World.{ascends}
use Rattle.net_parts.proofs.Tracks.{itself}

-- ---- which values a list has that values are put to

swapped : (a b c d : Bool) → d ≡ (b || c) → (a || d) ≡ (b || (a || c))
swapped true true c d h = refl
swapped true false c d h = refl
swapped false b c d h = h

any_inserted : (p : ℕ → Bool) (xs : List ℕ) (at n : ℕ) → list_any p (insert xs at n) ≡ (p n || list_any p xs)
any_inserted p [] zero n = refl
any_inserted p [] (suc at) n = refl
any_inserted p (x ∷ xs) zero n = refl
any_inserted p (x ∷ xs) (suc at) n =
    swapped (p x) (p n) (list_any p xs) (list_any p (insert xs at n)) (any_inserted p xs at n)

stands_so : (xs : List ℕ) (n q : ℕ) → carries xs n ≡ true → carries xs q ≡ ((n == q) || carries xs q)
stands_so xs n q there = by (n == q) refl where
  by : (b : Bool) → (n == q) ≡ b → carries xs q ≡ (b || carries xs q)
  by true same = ap (carries xs) (sym (eqb-true n q same)) ∙ there
  by false other = refl

carries_put : (xs : List ℕ) (n q : ℕ) → carries (put_number xs n) q ≡ ((n == q) || carries xs q)
carries_put xs n q = by (carries xs n) refl where
  by : (b : Bool) → carries xs n ≡ b →
      carries (if b then xs else insert xs (count_by (λ m. nat_lt m n) xs) n) q ≡ ((n == q) || carries xs q)
  by true there = stands_so xs n q there
  by false new = any_inserted (λ y. y == q) xs (count_by (λ m. nat_lt m n) xs) n

turned : (a b c : Bool) → (a || (b || c)) ≡ ((b || a) || c)
turned true true c = refl
turned true false c = refl
turned false true c = refl
turned false false c = refl

pub carries_united : (xs ys : List ℕ) (q : ℕ) → carries (united xs ys) q ≡ (carries ys q || carries xs q)
carries_united xs [] q = refl
carries_united xs (y ∷ ys) q =
    carries_united (put_number xs y) ys q
    ∙ ap (λ b. carries ys q || b) (carries_put xs y q)
    ∙ turned (carries ys q) (y == q) (carries xs q)

-- ---- ascending lists

none_above : (x : ℕ) (xs : List ℕ) (q : ℕ) → list_all (nat_lt x) xs ≡ true → nat_lt x q ≡ false → carries xs q ≡ false
none_above x [] q above not = refl
none_above x (y ∷ ys) q above not =
    let both = and_parts (nat_lt x y) (list_all (nat_lt x) ys) above in
    let rest = none_above x ys q both.1 not in ap (λ b. b || carries ys q) (apart y both.0) ∙ rest
  where
    apart : (y : ℕ) → nat_lt x y ≡ true → (y == q) ≡ false
    apart y less = grind (arith, nat_tests, less, not)

first_is : (x : ℕ) (xs : List ℕ) → carries (x ∷ xs) x ≡ true
first_is x xs = ap (λ b. b || carries xs x) (itself x)

-- what an ascending list has is no less than its first value
not_before : (y : ℕ) (ys : List ℕ) (x : ℕ) → list_all (nat_lt y) ys ≡ true → carries (y ∷ ys) x ≡ true →
    nat_lt x y ≡ false
not_before y ys x above there = by (nat_lt x y) refl where
  by : (b : Bool) → nat_lt x y ≡ b → b ≡ false
  by false is = refl
  by true is =
      let first : (y == x) ≡ false = grind (arith, nat_tests, is) in
      let other : nat_lt y x ≡ false = grind (arith, nat_tests, is) in
      sym (sym (ap (λ b. b || carries ys x) first ∙ none_above y ys x above other) ∙ there)

same_first : (x y : ℕ) → nat_lt x y ≡ false → nat_lt y x ≡ false → x ≡ y
same_first x y one other = grind (arith, nat_tests, one, other)

same_rest : (x : ℕ) (xs ys : List ℕ) (q : ℕ) → list_all (nat_lt x) xs ≡ true → list_all (nat_lt x) ys ≡ true →
    carries (x ∷ xs) q ≡ carries (x ∷ ys) q → carries xs q ≡ carries ys q
same_rest x xs ys q one other same = by (x == q) refl same where
  not_after : (x == q) ≡ true → nat_lt x q ≡ false
  not_after is = grind (arith, nat_tests, is)

  by : (b : Bool) → (x == q) ≡ b → (b || carries xs q) ≡ (b || carries ys q) → carries xs q ≡ carries ys q
  by true is h = none_above x xs q one (not_after is) ∙ sym (none_above x ys q other (not_after is))
  by false is h = h

pub same_ascending : (xs ys : List ℕ) → ascends xs ≡ true → ascends ys ≡ true →
    ((q : ℕ) → carries xs q ≡ carries ys q) → xs ≡ ys
same_ascending [] [] one other same = refl
same_ascending [] (y ∷ ys) one other same = by (same y ∙ first_is y ys) where
  by : false ≡ true → [] ≡ y ∷ ys
  by h = absurd cc
same_ascending (x ∷ xs) [] one other same = by (sym (same x) ∙ first_is x xs) where
  by : false ≡ true → x ∷ xs ≡ []
  by h = absurd cc
same_ascending (x ∷ xs) (y ∷ ys) one other same =
    let up = and_parts (list_all (nat_lt x) xs) (ascends xs) one in
    let up_too = and_parts (list_all (nat_lt y) ys) (ascends ys) other in
    let first : x ≡ y = same_first x y
    (not_before y ys x up_too.0 (sym (same x) ∙ first_is x xs))
    (not_before x xs y up.0 (same y ∙ first_is y ys)) in
    let above : list_all (nat_lt x) ys ≡ true = ap (λ n. list_all (nat_lt n) ys) first ∙ up_too.0 in
    let rest = same_ascending xs ys up.1 up_too.1
    (λ q. same_rest x xs ys q up.0 above (same q ∙ ap (λ n. carries (n ∷ ys) q) (sym first))) in
    ap (λ n. n ∷ xs) first ∙ ap (λ zs. y ∷ zs) rest
