-- The places of all prefix lengths by number.
use Rattle.std.proofs.Common.{◌≡◌, ℕ, zero, suc, ◌+◌, ◌*◌, ◌/◌, ◌%◌, ◌≤◌, ◌∷◌, ◌++◌, length, map, refl, sym, ap, ◌∙◌}
use Rattle.std.proofs.Common.{arith}
use Rattle.std.specs.List.{range_with_len}
use Rattle.std.proofs.lemmas.List.{map-append}
use Rattle.route_record.specs.declared.TheConstants.{LENGTHS}
use Rattle.plan_places.specs.declared.places.Place.{Place}
use Rattle.plan_places.specs.Places.{place, places_below}
use Rattle.plan_places.specs.Plans.{lens_below, lens_of, numbers_below, single_plan}
use Rattle.plan_places.proofs.PlaceSteps.{places-length}
use Rattle.bgp_decoding.specs.Placed.{full_places}

-- where each length is a class of its own a slice stands at each
pub all_lens : lens_of single_plan ≡ range_with_len 0 LENGTHS
unfolding lens_below single_plan numbers_below
all_lens = refl

abbrev pub by_number : ℕ → Place
by_number k = place (k / LENGTHS) (k % LENGTHS)

range-append : (a m n : ℕ) → range_with_len a (m + n) ≡ range_with_len a m ++ range_with_len (a + m) n
range-append a zero n =
    let none : a + 0 ≡ a = omega arith in
    let all : 0 + n ≡ n = omega arith in
    ap (range_with_len a) all ∙ ap (λ k. range_with_len k n) (sym none)
range-append a (suc m) n =
    let more : suc m + n ≡ suc (m + n) = omega arith in
    let next : a + 1 + m ≡ a + suc m = omega arith in
    ap (range_with_len a) more ∙ ap (λ ks. a ∷ ks) (range-append (a + 1) m n)
    ∙ ap (λ k. a ∷ range_with_len (a + 1) m ++ range_with_len k n) next

row-numbered : (router at len n : ℕ) → at ≡ LENGTHS * router + len → len + n ≤ LENGTHS →
    map by_number (range_with_len at n) ≡ map (place router) (range_with_len len n)
row-numbered router at len zero is few = refl
row-numbered router at len (suc n) is few =
    let above : at / LENGTHS ≡ router = omega (arith, is, few) in
    let below : at % LENGTHS ≡ len = omega (arith, is, few) in
    let rest = row-numbered router (at + 1) (len + 1) n (omega (arith, is)) (omega (arith, few)) in
    λ i. place (above i) (below i) ∷ rest i

rows-numbered : (n : ℕ) → places_below (range_with_len 0 LENGTHS) n ≡ map by_number (range_with_len 0 (LENGTHS * n))
unfolding places_below
rows-numbered zero = refl
rows-numbered (suc n) =
    let more : LENGTHS * suc n ≡ LENGTHS * n + LENGTHS = omega arith in
    let first : 0 + LENGTHS * n ≡ LENGTHS * n = omega arith in
    let start : LENGTHS * n ≡ LENGTHS * n + 0 = omega arith in
    ap (λ ps. ps ++ map (place n) (range_with_len 0 LENGTHS)) (rows-numbered n)
    ∙ ap (λ ps. map by_number (range_with_len 0 (LENGTHS * n)) ++ ps)
    (sym (ap (λ k. map by_number (range_with_len k LENGTHS)) first
    ∙ row-numbered n (LENGTHS * n) 0 LENGTHS start (omega arith)))
    ∙ sym (ap (λ k. map by_number (range_with_len 0 k)) more
    ∙ ap (map by_number) (range-append 0 (LENGTHS * n) LENGTHS)
    ∙ map-append by_number (range_with_len 0 (LENGTHS * n)) (range_with_len (0 + LENGTHS * n) LENGTHS))

-- the place of that number
pub numbered : (rows : ℕ) → full_places rows ≡ map by_number (range_with_len 0 (LENGTHS * rows))
numbered rows = ap (λ lens. places_below lens rows) all_lens ∙ rows-numbered rows

pub full_many : (rows : ℕ) → length (full_places rows) ≡ LENGTHS * rows
full_many rows =
    let many = places-length (lens_of single_plan) rows in
    let lens : length (lens_of single_plan) ≡ LENGTHS = ap length all_lens in
    many ∙ ap (λ n. rows * n) lens ∙ omega arith
