-- In a plan that fits, a slice stands at each length of a class that is not further from the first one than there are
-- routers.
use Rattle.std.proofs.Common.{◌≡◌, ℕ, zero, suc, ◌+◌, ◌-◌, ◌<◌, ◌≤◌, Bool, true, false, List, length, Some, inl, inr}
use Rattle.std.proofs.Common.{refl, sym, ap, arith, ◌∙◌, take, get_or}
use Rattle.std.specs.Prelude.{◌⊎◌, ◌≢◌, ◌==◌, ◌||◌, if◌then◌else◌, nat_le, nat_lt, not, slice_get, unwrap_or}
use Rattle.std.specs.List.{count_by}
use Rattle.std.specs.Option.{option_map_or}
use Rattle.std.proofs.lemmas.Bool.{cases_lt, eqb-true, eq-eqb, le-leb, leb-true, lt-ltb, or_parts}
use Rattle.std.proofs.lemmas.List.{take_all}
use Rattle.std.proofs.lemmas.List.Sums.{count_by_more_no, count_by_more_yes}
use Rattle.std.proofs.lemmas.Option.{unwrap_or-slice_get}
use Rattle.mw_text.proofs.Lists.{item_there}
use Rattle.ios_ast.specs.declared.file.File.{File}
use Rattle.route_record.specs.declared.Plan.{Plan}
use Rattle.route_record.specs.declared.TheConstants.{LENGTHS}
use Rattle.plan_places.specs.Plans.{earlier_in_class, has_slice}
use Rattle.sliced_routings.specs.Cuts.{is_cut}
use Rattle.sliced_routings.specs.Plans.{EndsClass, IsFittingPlan, class_at, size_of}
use Rattle.sliced_routings.proofs.Ranks.{start}

-- a class begins at the length; behind the last one each would be its own
unfoldable pub begins : Plan → ℕ → Bool
begins plan zero = true
begins plan (suc l) = nat_le LENGTHS (suc l) || not (class_at plan (suc l) == class_at plan l)

module _ (files : List File) (plan : Plan) (fits : IsFittingPlan files plan) where
  -- ---- classes

  same_class : (l : ℕ) → begins plan (suc l) ≡ false → (suc l < LENGTHS) × (class_at plan (suc l) ≡ class_at plan l)
  unfolding begins
  same_class l none = (
    short (cases_lt (suc l) LENGTHS),
    same (class_at plan (suc l) ==
        class_at plan l) refl both.1,
  ) where
    both : (nat_le LENGTHS (suc l) ≡ false) × (not (class_at plan (suc l) == class_at plan l) ≡ false)
    both = or_parts (nat_le LENGTHS (suc l)) (not (class_at plan (suc l) == class_at plan l)) none

    short : (suc l < LENGTHS) ⊎ (LENGTHS ≤ suc l) → suc l < LENGTHS
    short (inl less) = less
    short (inr more) = let h = le-leb LENGTHS (suc l) more in let g = both.0 in absurd cc

    same : (b : Bool) → (class_at plan (suc l) == class_at plan l) ≡ b → not b ≡ false →
        class_at plan (suc l) ≡ class_at plan l
    same true is nay = eqb-true (class_at plan (suc l)) (class_at plan l) is
    same false is nay = absurd cc

  next_class : (l : ℕ) → suc l < LENGTHS → begins plan (suc l) ≡ true → EndsClass plan l
  unfolding begins
  next_class l short is = by (fits.upwards l short) (nat_le LENGTHS (suc l)) refl is where
    by : (class_at plan (suc l) ≡ class_at plan l) ⊎ EndsClass plan l → (b : Bool) → nat_le LENGTHS (suc l) ≡ b →
        (b || not (class_at plan (suc l) == class_at plan l)) ≡ true → EndsClass plan l
    by (inr ends) b past is' = ends
    by (inl same) true past is' = let h = leb-true LENGTHS (suc l) past in absurd (omega (arith, h, short))
    by (inl same) false past is' =
        let h = eq-eqb (class_at plan (suc l)) (class_at plan l) same in
        let g : not true ≡ true = ap not (sym h) ∙ is' in
        absurd cc

  -- each cut begins one
  pub at_cuts : (k : ℕ) → begins plan k ≡ false → is_cut files k ≡ false
  unfolding begins
  at_cuts zero none = absurd cc
  at_cuts (suc l) none = by (is_cut files (suc l)) refl where
    by : (b : Bool) → is_cut files (suc l) ≡ b → is_cut files (suc l) ≡ false
    by false is = is
    by true is =
        let both = same_class l none in
        let ends : class_at plan (suc l) ≡ suc (class_at plan l) = fits.cuts l both.0 is in
        let same = both.1 in
        absurd (omega (arith, ends, same))

  upwards : (l k : ℕ) → l ≤ k → k < LENGTHS → class_at plan l ≤ class_at plan k
  upwards l zero before short = let e : l ≡ 0 = omega (arith, before) in let h = ap (class_at plan) e in omega
      (arith, h)
  upwards l (suc k) before short = by (cases_lt k l) (fits.upwards k short)
      (λ less. upwards l k less (omega (arith, short)))
    where
      by : (k < l) ⊎ (l ≤ k) → (class_at plan (suc k) ≡ class_at plan k) ⊎ EndsClass plan k →
          (l ≤ k → class_at plan l ≤ class_at plan k) → class_at plan l ≤ class_at plan (suc k)
      by (inl last) either rest =
          let e : l ≡ suc k = omega (arith, last, before) in let h = ap (class_at plan) e in omega (arith, h)
      by (inr less) (inl same) rest = let h = rest less in omega (arith, h, same)
      by (inr less) (inr ends) rest = let h = rest less in omega (arith, h, ends)

  -- from the first length of a class on all are of the class
  one_class : (l m : ℕ) → start (begins plan) l ≤ m → m ≤ l → class_at plan m ≡ class_at plan l
  unfolding start
  one_class zero m low high = let e : m ≡ 0 = omega (arith, high) in ap (class_at plan) e
  one_class (suc l) m low high = by (begins plan (suc l)) refl low (cases_lt l m) (λ low' less. one_class l m low' less)
    where
      by : (b : Bool) → begins plan (suc l) ≡ b → (if b then suc l else start (begins plan) l) ≤ m →
          (l < m) ⊎ (m ≤ l) → (start (begins plan) l ≤ m → m ≤ l → class_at plan m ≡ class_at plan l) →
          class_at plan m ≡ class_at plan (suc l)
      by true is low' either rest = let e : m ≡ suc l = omega (arith, low', high) in ap (class_at plan) e
      by false is low' (inl last) rest = let e : m ≡ suc l = omega (arith, last, high) in ap (class_at plan) e
      by false is low' (inr less) rest = rest low' less ∙ sym (same_class l is).1

  -- and no shorter one is
  other_class : (l k : ℕ) → l < LENGTHS → k < start (begins plan) l → class_at plan k < class_at plan l
  unfolding start
  other_class zero k short before = absurd (omega (arith, before))
  other_class (suc l) k short before = by (begins plan (suc l)) refl before
      (λ before'. other_class l k (omega (arith, short)) before')
    where
      by : (b : Bool) → begins plan (suc l) ≡ b → k < (if b then suc l else start (begins plan) l) →
          (k < start (begins plan) l → class_at plan k < class_at plan l) → class_at plan k < class_at plan (suc l)
      by true is before' rest =
          let ends : class_at plan (suc l) ≡ suc (class_at plan l) = next_class l short is in
          let h = upwards k l (omega (arith, before')) (omega (arith, short)) in
          omega (arith, ends, h)
      by false is before' rest = let h = rest before' in let same = (same_class l is).1 in omega (arith, h, same)

  -- ---- how many lengths are of a class

  abbrev among : ℕ → ℕ → ℕ
  among c n = count_by (λ x. x == c) (take n plan.class)

  one_more : (c n : ℕ) → n < LENGTHS → ((class_at plan n ≡ c) × (among c (suc n) ≡ among c n + 1))
      ⊎ ((class_at plan n ≢ c) × (among c (suc n) ≡ among c n))
  one_more c n short = by (get_or plan.class n 0 == c) refl where
    within : n < length plan.class
    within = let h = fits.lengths in omega (arith, h, short)

    read : class_at plan n ≡ get_or plan.class n 0
    read = unwrap_or-slice_get plan.class n 0

    next : among c (suc n) ≡ count_by (λ x. x == c) (take (n + 1) plan.class)
    next = let e : suc n ≡ n + 1 = omega arith in ap (among c) e

    by : (b : Bool) → (get_or plan.class n 0 == c) ≡ b → ((class_at plan n ≡ c) × (among c (suc n) ≡ among c n + 1))
        ⊎ ((class_at plan n ≢ c) × (among c (suc n) ≡ among c n))
    by true is = inl (
      read ∙ eqb-true (get_or plan.class n 0) c is,
      next ∙ count_by_more_yes (λ x. x == c) plan.class n 0 within is,
    )
    by false is = inr (
      λ e. (let h = eq-eqb (get_or plan.class n 0) c (sym read ∙ e) in absurd cc),
      next ∙ count_by_more_no (λ x. x == c) plan.class n 0 within is,
    )

  -- none of these
  none_among : (c n : ℕ) → n ≤ LENGTHS → ((k : ℕ) → k < n → class_at plan k < c) → among c n ≡ 0
  none_among c zero short other = refl
  none_among c (suc n) short other =
      by (one_more c n (omega (arith, short))) (none_among c n (omega (arith, short)) (λ k less. other k (omega
      (arith, less))))
    where
      by : ((class_at plan n ≡ c) × (among c (suc n) ≡ among c n + 1))
          ⊎ ((class_at plan n ≢ c) × (among c (suc n) ≡ among c n)) → among c n ≡ 0 → among c (suc n) ≡ 0
      by (inl on) rest = let h = other n (omega arith) in let e = on.0 in absurd (omega (arith, h, e))
      by (inr off) rest = off.1 ∙ rest

  -- no more than there are
  few_among : (c s j : ℕ) → s + j ≤ LENGTHS → among c (s + j) ≤ among c s + j
  few_among c s zero short = let e : s + 0 ≡ s = omega arith in let h = ap (among c) e in omega (arith, h)
  few_among c s (suc j) short = by (one_more c (s + j) (omega (arith, short))) (few_among c s j (omega (arith, short)))
    where
      next : among c (s + suc j) ≡ among c (suc (s + j))
      next = let e : s + suc j ≡ suc (s + j) = omega arith in ap (among c) e

      by : ((class_at plan (s + j) ≡ c) × (among c (suc (s + j)) ≡ among c (s + j) + 1))
          ⊎ ((class_at plan (s + j) ≢ c) × (among c (suc (s + j)) ≡ among c (s + j))) →
          among c (s + j) ≤ among c s + j → among c (s + suc j) ≤ among c s + suc j
      by (inl on) rest = let h = on.1 in let n = next in omega (arith, h, n, rest)
      by (inr off) rest = let h = off.1 in let n = next in omega (arith, h, n, rest)

  -- all of these, and no fewer of more
  all_among : (c s j : ℕ) → s + j ≤ LENGTHS → ((k : ℕ) → s ≤ k → k < s + j → class_at plan k ≡ c) →
      among c s + j ≤ among c (s + j)
  all_among c s zero short same = let e : s + 0 ≡ s = omega arith in let h = ap (among c) e in omega (arith, h)
  all_among c s (suc j) short same = by (one_more c (s + j) (omega (arith, short)))
      (all_among c s j (omega (arith, short)) (λ k low less. same k low (omega (arith, less))))
    where
      next : among c (s + suc j) ≡ among c (suc (s + j))
      next = let e : s + suc j ≡ suc (s + j) = omega arith in ap (among c) e

      by : ((class_at plan (s + j) ≡ c) × (among c (suc (s + j)) ≡ among c (s + j) + 1))
          ⊎ ((class_at plan (s + j) ≢ c) × (among c (suc (s + j)) ≡ among c (s + j))) →
          among c s + j ≤ among c (s + j) → among c s + suc j ≤ among c (s + suc j)
      by (inl on) rest = let h = on.1 in let n = next in omega (arith, h, n, rest)
      by (inr off) rest = absurd (off.0 (same (s + j) (omega arith) (omega arith)))

  more_among : (c s j : ℕ) → s + j ≤ LENGTHS → among c s ≤ among c (s + j)
  more_among c s zero short = let e : s + 0 ≡ s = omega arith in let h = ap (among c) e in omega (arith, h)
  more_among c s (suc j) short = by (one_more c (s + j) (omega (arith, short))) (more_among c s j (omega
      (arith, short)))
    where
      next : among c (s + suc j) ≡ among c (suc (s + j))
      next = let e : s + suc j ≡ suc (s + j) = omega arith in ap (among c) e

      by : ((class_at plan (s + j) ≡ c) × (among c (suc (s + j)) ≡ among c (s + j) + 1))
          ⊎ ((class_at plan (s + j) ≢ c) × (among c (suc (s + j)) ≡ among c (s + j))) →
          among c s ≤ among c (s + j) → among c s ≤ among c (s + suc j)
      by (inl on) rest = let h = on.1 in let n = next in omega (arith, h, n, rest)
      by (inr off) rest = let h = off.1 in let n = next in omega (arith, h, n, rest)

  -- ---- slices

  -- the first length of a class is none behind it
  begun : (l : ℕ) → start (begins plan) l ≤ l
  unfolding start
  begun zero = omega arith
  begun (suc l) = by (begins plan (suc l)) (begun l) where
    by : (b : Bool) → start (begins plan) l ≤ l → (if b then suc l else start (begins plan) l) ≤ suc l
    by true rest = omega arith
    by false rest = omega (arith, rest)

  module _ (m : ℕ) (short : m < LENGTHS) where
    abbrev first : ℕ
    first = start (begins plan) m

    abbrev own : ℕ
    own = class_at plan m

    earlier_few : among own m ≤ m - first
    earlier_few =
        let low = begun m in
        let e : first + (m - first) ≡ m = omega (arith, low) in
        let a = few_among own first (m - first) (omega (arith, e, short)) in
        let b = none_among own first (omega (arith, low, short)) (λ k less. other_class m k short less) in
        let c = ap (among own) e in
        omega (arith, a, b, c)

    size_more : m - first < size_of plan own
    size_more =
        let low = begun m in
        let e : first + (suc m - first) ≡ suc m = omega (arith, low) in
        let a = all_among own first (suc m - first) (omega (arith, e, short)) (λ k high less. one_class m k high
        (omega (arith, less, e))) in
        let c = ap (among own) e in
        let f : suc m + (LENGTHS - suc m) ≡ LENGTHS = omega (arith, short) in
        let g = more_among own (suc m) (LENGTHS - suc m) (omega (arith, f)) in
        let h = ap (among own) f in
        let w : among own LENGTHS ≡ size_of plan own = ap (count_by (λ x. x == own))
        (take_all LENGTHS plan.class (let n = fits.lengths in omega (arith, n))) in
        omega (arith, a, c, g, h, w, low)

    pub has : m < first + length files → has_slice plan m ≡ true
    has few = by (item_there plan.class m (let n = fits.lengths in omega (arith, n, short))) where
      by : (c : ℕ) × (slice_get plan.class m ≡ Some c) → has_slice plan m ≡ true
      by (c, there) = ap (λ o. option_map_or (λ class. nat_lt (earlier_in_class plan m class)
          (unwrap_or (slice_get plan.slices class) 0)) o false) there
          ∙ ap (λ o. nat_lt (earlier_in_class plan m c) (unwrap_or o 0)) many.1
          ∙ lt-ltb (earlier_in_class plan m c) many.0 enough
        where
          is : own ≡ c
          is = ap (λ o. unwrap_or o 0) there

          within : c < length plan.slices
          within =
              let n = fits.classes in
              let h = upwards m (LENGTHS - 1) (omega (arith, short)) (omega arith) in
              omega (arith, n, h, is)

          many : (n : ℕ) × (slice_get plan.slices c ≡ Some n)
          many = item_there plan.slices c within

          enough : earlier_in_class plan m c < many.0
          enough =
              let a = earlier_few in
              let b = size_more in
              let s = fits.slices c many.0 many.1 in
              let x : among own m ≡ among c m = ap (λ k. among k m) is in
              let y : size_of plan own ≡ size_of plan c = ap (size_of plan) is in
              let low = begun m in
              omega (arith, a, b, s, x, y, low, few)
