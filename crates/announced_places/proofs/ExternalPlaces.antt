-- The places of external ends: they ascend, and an external end is found among them by counting.
use Rattle.std.proofs.Common.{◌≡◌, ℕ, zero, suc, ◌+◌, ◌*◌, ◌<◌, ◌≤◌, Bool, true, false, List, [], ◌∷◌, ◌++◌, length, map, filter, take}
use Rattle.std.proofs.Common.{Option, Some, None, refl, sym, ap, ap₂, subst, arith, ◌∙◌, slice_get}
use Rattle.std.specs.Prelude.{◌==◌, All, AllPairs, option_and_then, option_map, position, if◌then◌else◌}
use Rattle.std.specs.List.{enumerate_from, find}
use Rattle.std.proofs.lemmas.Bool.{ne_eqb}
use Rattle.std.proofs.lemmas.List.{length-map}
use Rattle.std.proofs.lemmas.List.Elements.{All-cons, All-head, All-nil, All-tail, All-weaker}
use Rattle.std.proofs.lemmas.List.Kept.{AllPairs-cons}
use Rattle.std.proofs.lemmas.Option.{get_or_from_slice_get, same_Some, slice_get_within}
use Rattle.std.proofs.Math.Nat.{suc-mul}
use Rattle.net_interfaces.proofs.Pairs.{first, later}
use Rattle.ios_ast.specs.declared.file.File.{File}
use Rattle.mw_text.specs.declared.address.Addr.{Addr}
use Rattle.net_parts.specs.declared.sessions.SessionEnd.{SessionEnd}
use Rattle.net_parts.specs.Decisions.{external_count}
use Rattle.net_parts.specs.Sessions.{ends_of, external_ends, is_outside}
use Rattle.plan_places.specs.Places.{IsBefore, is_at, place, places_below}
use Rattle.plan_places.proofs.PlaceSteps.{counted, item_is, position-left, position-other, position-right, position-row}
use Rattle.route_shapes.specs.Bgp.{BgpShape}
use Rattle.announced_places.specs.Announced.{Ascend, Keeps, places_among, thing_at, thing_over}
use Rattle.announced_places.specs.Environments.{announcement_of, environment_of, external_places, stands_at}
use Rattle.announced_places.proofs.PlacedThings.{found, ordered}

-- ---- the places of the items that pass a test

abbrev places : {X : Type 0} → (X → Bool) → ℕ → List X → List ℕ
places {X} p n xs = map (λ (e : ℕ × X). e.0) (filter (λ e. p e.1) (enumerate_from n xs))

above : {X : Type 0} (p : X → Bool) (n m : ℕ) (xs : List X) → m ≤ n → All (λ k. m ≤ k) (places p n xs)
above p n m [] low = All-nil (λ k. m ≤ k)
above p n m (x ∷ xs) low = by (p x) (above p (n + 1) m xs (omega (arith, low))) where
  by : (b : Bool) → All (λ k. m ≤ k) (places p (n + 1) xs) →
      All (λ k. m ≤ k) (map (λ e. e.0) (if b then (n, x) ∷ filter (λ e. p e.1) (enumerate_from (n + 1) xs)
      else filter (λ e. p e.1) (enumerate_from (n + 1) xs)))
  by true rest = All-cons (λ k. m ≤ k) n (places p (n + 1) xs) low rest
  by false rest = rest

ascend : {X : Type 0} (p : X → Bool) (n : ℕ) (xs : List X) → Ascend (places p n xs)
ascend p n [] = λ i j d below within. absurd (omega arith)
ascend p n (x ∷ xs) = by (p x) (ascend p (n + 1) xs) where
  by : (b : Bool) → Ascend (places p (n + 1) xs) →
      Ascend (map (λ e. e.0) (if b then (n, x) ∷ filter (λ e. p e.1) (enumerate_from (n + 1) xs)
      else filter (λ e. p e.1) (enumerate_from (n + 1) xs)))
  by true rest =
      AllPairs-cons (λ i j. i < j) n (places p (n + 1) xs)
      (All-weaker (λ k. n + 1 ≤ k) (λ k. n < k) (λ k low. omega (arith, low)) (places p (n + 1) xs)
      (above p (n + 1) (n + 1) xs (omega arith)))
      rest
  by false rest = rest

many : {X : Type 0} (p : X → Bool) (n : ℕ) (xs : List X) → length (places p n xs) ≡ length (filter p xs)
many p n [] = refl
many p n (x ∷ xs) = by (p x) (many p (n + 1) xs) where
  by : (b : Bool) → length (places p (n + 1) xs) ≡ length (filter p xs) →
      length (map (λ e. e.0) (if b then (n, x) ∷ filter (λ e. p e.1) (enumerate_from (n + 1) xs)
      else filter (λ e. p e.1) (enumerate_from (n + 1) xs)))
      ≡ length (if b then x ∷ filter p xs else filter p xs)
  by true rest = ap suc rest
  by false rest = rest

by_count : {X : Type 0} (p : X → Bool) (n : ℕ) (xs : List X) (at : ℕ) (x : X) → slice_get xs at ≡ Some x →
    p x ≡ true → slice_get (places p n xs) (length (filter p (take at xs))) ≡ Some (n + at)
by_count p n [] at x there passes = absurd cc
by_count {X} p n (y ∷ xs) zero x there passes =
    ap (λ b. slice_get (map (λ (e : ℕ × X). e.0) (if b then (n, y) ∷ filter (λ e. p e.1) (enumerate_from (n + 1) xs)
    else filter (λ e. p e.1) (enumerate_from (n + 1) xs))) 0) (ap p (same_Some y x there) ∙ passes)
    ∙ ap Some (let e : n ≡ n + 0 = omega arith in e)
by_count {X} p n (y ∷ xs) (suc at) x there passes = by (p y) (by_count p (n + 1) xs at x there passes) where
  sum : n + 1 + at ≡ n + suc at
  sum = omega arith

  by : (b : Bool) → slice_get (places p (n + 1) xs) (length (filter p (take at xs))) ≡ Some (n + 1 + at) →
      slice_get (map (λ (e : ℕ × X). e.0) (if b then (n, y) ∷ filter (λ e. p e.1) (enumerate_from (n + 1) xs)
      else filter (λ e. p e.1) (enumerate_from (n + 1) xs)))
      (length (if b then y ∷ filter p (take at xs) else filter p (take at xs))) ≡ Some (n + suc at)
  by true rest = rest ∙ ap Some sum
  by false rest = rest ∙ ap Some sum

-- ---- the external ends

pub external_ascend : (files : List File) → Ascend (external_places files)
external_ascend files = ascend (λ (end : SessionEnd). is_outside end.far) 0 (ends_of files)

pub external_many : (files : List File) → length (external_places files) ≡ length (external_ends files)
external_many files = many (λ (end : SessionEnd). is_outside end.far) 0 (ends_of files)

pub external_place : (files : List File) (at : ℕ) (end : SessionEnd) → slice_get (ends_of files) at ≡ Some end →
    is_outside end.far ≡ true →
    slice_get (external_places files) (external_count (take at (ends_of files))) ≡ Some at
external_place files at end there outer =
    let none : 0 + at ≡ at = omega arith in
    by_count (λ (e : SessionEnd). is_outside e.far) 0 (ends_of files) at end there outer ∙ ap Some none

-- ---- what stands in the row of an end

-- no later end has a place there
none_later : (end len : ℕ) (ends lens : List ℕ) → All (λ e. end < e) ends →
    position (is_at end len) (places_among ends lens) ≡ None
unfolding places_among
none_later end len [] lens less = refl
none_later end len (e ∷ ends) lens less =
    let here = All-head (λ k. end < k) e ends less in
    position-right (is_at end len) (map (place e) lens) (places_among ends lens)
    (position-other end e len lens (ne_eqb e end (λ same. omega (arith, same, here))))
    ∙ ap (option_map (λ k. length (map (place e) lens) + k))
    (none_later end len ends lens (All-tail (λ k. end < k) e ends less))

counted_among : (ends lens : List ℕ) (k at len : ℕ) → Ascend ends → slice_get ends k ≡ Some at →
    position (is_at at len) (places_among ends lens)
    ≡ option_map (λ j. k * length lens + j) (position (λ l. l == len) lens)
unfolding places_among
counted_among [] lens k at len up there = absurd cc
counted_among (e ∷ ends) lens zero at len up there =
    ap (λ n. position (is_at n len) (map (place e) lens ++ places_among ends lens)) (sym (same_Some e at there))
    ∙ by (position (λ l. l == len) lens) (position-row e len lens)
  where
    by : (o : Option ℕ) → position (is_at e len) (map (place e) lens) ≡ o →
        position (is_at e len) (map (place e) lens ++ places_among ends lens)
        ≡ option_map (λ j. 0 * length lens + j) o
    by (Some j) is =
        let none : j ≡ 0 * length lens + j = omega arith in
        position-left (is_at e len) (map (place e) lens) (places_among ends lens) j is ∙ ap Some none
    by None is =
        position-right (is_at e len) (map (place e) lens) (places_among ends lens) is
        ∙ ap (option_map (λ k. length (map (place e) lens) + k))
        (none_later e len ends lens (first (λ a b. a < b) e ends up))
counted_among (e ∷ ends) lens (suc k) at len up there =
    position-right (is_at at len) (map (place e) lens) (places_among ends lens)
    (position-other at e len lens (ne_eqb e at (λ same. omega (arith, same, less))))
    ∙ ap₂ (λ n o. option_map (λ j. n + j) o) (length-map lens (place e))
    (counted_among ends lens k at len (later (λ a b. a < b) e ends up) there)
    ∙ sums (position (λ l. l == len) lens)
  where
    less : e < at
    less =
        let within = slice_get_within ends k at there in
        subst (λ n. e < n) (get_or_from_slice_get ends k at at there)
        (first (λ a b. a < b) e ends up k at within)

    sums : (o : Option ℕ) → option_map (λ j. length lens + j) (option_map (λ j. k * length lens + j) o)
        ≡ option_map (λ j. suc k * length lens + j) o
    sums None = refl
    sums (Some j) =
        let more = suc-mul k (length lens) in
        let e : length lens + (k * length lens + j) ≡ suc k * length lens + j = omega (arith, more) in
        ap Some e

-- what stands at the place of an end is what stands in the rows of all ends, by the number of the end among them
pub row_at : {U : Type 0} (ends lens : List ℕ) (things : List (Option U)) (k at len : ℕ) → Ascend ends →
    slice_get ends k ≡ Some at →
    thing_at ends lens things at len ≡ thing_over (places_below lens (length ends)) things k len
row_at {U} ends lens things k at len up there =
    ap (option_and_then (λ (t : Option U). t))
    (sym (item_is (places_among ends lens) things at len)
    ∙ ap (option_and_then (slice_get things)) (counted_among ends lens k at len up there
    ∙ sym (counted lens (length ends) k len (slice_get_within ends k at there)))
    ∙ item_is (places_below lens (length ends)) things k len)

pub external_row : (files : List File) (lens : List ℕ) (shapes : List (Option BgpShape)) (at len : ℕ)
    (end : SessionEnd) → slice_get (ends_of files) at ≡ Some end → is_outside end.far ≡ true →
    thing_at (external_places files) lens shapes at len
    ≡ thing_over (places_below lens (length (external_ends files))) shapes (external_count (take at (ends_of files)))
    len
external_row files lens shapes at len end there outer =
    row_at (external_places files) lens shapes (external_count (take at (ends_of files))) at len
    (external_ascend files) (external_place files at end there outer)
    ∙ ap (λ n. thing_over (places_below lens n) shapes (external_count (take at (ends_of files))) len)
    (external_many files)

-- ---- the environment

keeps : Keeps announcement_of stands_at
keeps = record { place = λ end len s. refl }

pub environment_found : (files : List File) (lens : List ℕ) (ids : List Addr) (shapes : List (Option BgpShape))
    (end len : ℕ) → Ascend lens →
    find (λ a. is_at end len (stands_at a)) (environment_of files lens ids shapes).announced
    ≡ option_map (announcement_of end len) (thing_at (external_places files) lens shapes end len)
environment_found files lens ids shapes end len up =
    found announcement_of stands_at keeps (external_places files) lens shapes end len (external_ascend files) up

pub environment_ordered : (files : List File) (lens : List ℕ) (ids : List Addr) (shapes : List (Option BgpShape)) →
    Ascend lens →
    AllPairs (λ a b. IsBefore (stands_at a) (stands_at b)) (environment_of files lens ids shapes).announced
environment_ordered files lens ids shapes up =
    ordered announcement_of stands_at keeps (external_places files) lens shapes (external_ascend files) up
