-- What stands in a row at a length, and rows in which the same stands at each length.
use Rattle.std.proofs.Common.{◌≡◌, ℕ, zero, suc, ◌+◌, ◌-◌, ◌*◌, ◌<◌, Bool, true, false, List, [], ◌∷◌, length, map, take}
use Rattle.std.proofs.Common.{drop, get_or, Option, Some, None, refl, sym, ap, subst, arith, ◌∙◌, slice_get}
use Rattle.std.specs.Prelude.{◌==◌, cond, nat_lt, option_and_then, option_map, position}
use Rattle.std.specs.List.{position_or_len}
use Rattle.std.proofs.lemmas.Bool.{eq-eqb, lt-ltb, ltb-true, ne_eqb}
use Rattle.std.proofs.lemmas.List.Sums.{position_or_len_is}
use Rattle.std.proofs.lemmas.Option.{same_Some, slice_get-map, slice_get_within}
use Rattle.mw_text.proofs.Lists.{list_ext}
use Rattle.plan_places.specs.Places.{item_at, places_below}
use Rattle.plan_places.proofs.PlaceSteps.{counted, item_is}
use Rattle.announced_places.specs.Announced.{Ascend}
use Rattle.peers_beside.specs.Same.{row}

-- ---- items of a part of a list

slice_get-drop : {X : Type 0} (m : ℕ) (xs : List X) (j : ℕ) → slice_get (drop m xs) j ≡ slice_get xs (m + j)
slice_get-drop zero xs j = let none : j ≡ 0 + j = omega arith in ap (slice_get xs) none
slice_get-drop (suc m) [] j = refl
slice_get-drop (suc m) (x ∷ xs) j =
    let next : suc (m + j) ≡ suc m + j = omega arith in
    slice_get-drop m xs j ∙ ap (slice_get (x ∷ xs)) next

slice_get-take : {X : Type 0} (n : ℕ) (xs : List X) (j : ℕ) → j < n → slice_get (take n xs) j ≡ slice_get xs j
slice_get-take zero xs j less = absurd (omega (arith, less))
slice_get-take (suc n) [] j less = refl
slice_get-take (suc n) (x ∷ xs) zero less = refl
slice_get-take (suc n) (x ∷ xs) (suc j) less = slice_get-take n xs j (omega (arith, less))

pub row_is : {X : Type 0} (count : ℕ) (xs : List X) (k : ℕ) → row count xs k ≡ take count (drop (k * count) xs)
row_is count xs k =
    let long : k * count + count - k * count ≡ count = omega arith in ap (λ n. take n (drop (k * count) xs)) long

in_row : {X : Type 0} (count : ℕ) (xs : List X) (k j : ℕ) → j < count →
    slice_get (row count xs k) j ≡ slice_get xs (k * count + j)
in_row count xs k j less =
    ap (λ ys. slice_get ys j) (row_is count xs k) ∙ slice_get-take count (drop (k * count) xs) j less
    ∙ slice_get-drop (k * count) xs j

-- ---- what stands in a row at a length

abbrev pub stands : {X : Type 0} → List ℕ → List X → ℕ → Option X
stands lens xs len = option_and_then (slice_get xs) (position (λ l. l == len) lens)

pub position_within : {X : Type 0} (p : X → Bool) (xs : List X) (j : ℕ) → position p xs ≡ Some j → j < length xs
position_within p xs j is = by (nat_lt (position_or_len p xs) (length xs)) refl is where
  by : (b : Bool) → nat_lt (position_or_len p xs) (length xs) ≡ b →
      cond b (Some (position_or_len p xs)) None ≡ Some j → j < length xs
  by true less is = subst (λ n. n < length xs) (same_Some (position_or_len p xs) j is) (ltb-true _ _ less)
  by false past is = absurd cc

-- of things that stand at places, one at each, it is the one at the place
pub row_stands : {X : Type 0} (lens : List ℕ) (xs : List X) (n k len : ℕ) → k < n →
    item_at (places_below lens n) xs k len ≡ stands lens (row (length lens) xs k) len
row_stands {X} lens xs n k len less =
    sym (item_is (places_below lens n) xs k len)
    ∙ ap (option_and_then (slice_get xs)) (counted lens n k len less)
    ∙ by (position (λ l. l == len) lens) refl
  where
    by : (o : Option ℕ) → position (λ l. l == len) lens ≡ o →
        option_and_then (slice_get xs) (option_map (λ j. k * length lens + j) o)
        ≡ option_and_then (slice_get (row (length lens) xs k)) o
    by None is = refl
    by (Some j) is = sym (in_row (length lens) xs k j (position_within (λ l. l == len) lens j is))

-- what is made of it stands there in the row of what is made
pub stands_made : {X Y : Type 0} (f : X → Y) (lens : List ℕ) (xs : List X) (len : ℕ) →
    stands lens (map f xs) len ≡ option_map f (stands lens xs len)
stands_made {X} {Y} f lens xs len = by (position (λ l. l == len) lens) where
  by : (o : Option ℕ) → option_and_then (slice_get (map f xs)) o ≡ option_map f (option_and_then (slice_get xs) o)
  by None = refl
  by (Some j) = slice_get-map f xs j

-- ---- a length by its place

below_apart : (lens : List ℕ) (k j : ℕ) → Ascend lens → k < j → j < length lens →
    (get_or lens k 0 == get_or lens j 0) ≡ false
below_apart lens k j up less within =
    let order = up k j 0 less within in
    ne_eqb (get_or lens k 0) (get_or lens j 0) (λ same. omega (arith, order, same))

pub position_of : (lens : List ℕ) (j : ℕ) → Ascend lens → j < length lens →
    position (λ l. l == get_or lens j 0) lens ≡ Some j
position_of lens j up within =
    ap (λ n. cond (nat_lt n (length lens)) (Some n) None)
    (position_or_len_is (λ l. l == get_or lens j 0) lens j 0 (omega (arith, within))
    (λ k less. below_apart lens k j up less within) (λ more. eq-eqb (get_or lens j 0) (get_or lens j 0) refl))
    ∙ ap (λ b. cond b (Some j) None) (lt-ltb j (length lens) within)

-- rows are the same where at each length that which stands in both is
pub rows_same : {X : Type 0} (lens : List ℕ) (xs ys : List X) → Ascend lens → length xs ≡ length lens →
    length ys ≡ length lens →
    ((len : ℕ) (x y : X) → stands lens xs len ≡ Some x → stands lens ys len ≡ Some y → x ≡ y) → xs ≡ ys
rows_same {X} lens xs ys up long too each = list_ext xs ys (long ∙ sym too) (λ j x y here there.
    let within = slice_get_within xs j x here in
    let less : j < length lens = omega (arith, long, within) in
    each (get_or lens j 0) x y (at_length xs j less ∙ here) (at_length ys j less ∙ there))
  where
    at_length : (zs : List X) (j : ℕ) → j < length lens → stands lens zs (get_or lens j 0) ≡ slice_get zs j
    at_length zs j within = ap (option_and_then (slice_get zs)) (position_of lens j up within)
