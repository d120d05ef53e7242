-- Nodes at their places.
use Rattle.std.proofs.Common.{◌≡◌, ◌≤◌, ◌∷◌, [], List, ap, arith, length, map, refl}
use Rattle.term_store.specs.declared.NodeId.{NodeId}
use Rattle.term_store.specs.Terms.{Reading, at}
use Rattle.term_arith.specs.Bits.{bits, ids_end, number, number_of}
use Rattle.std.proofs.lemmas.List.{get_or_past}
use Rattle.std.proofs.lemmas.Option.{get_or_from_slice_get, slice_get_within}
use Rattle.std.proofs.Common.{◌<◌, ◌∙◌, ℕ, Some, false, get_or, subst, sym}
use Rattle.std.specs.Prelude.{slice_get}
use Rattle.term_arith.proofs.NumberLemmas.{bits_at, ids_end_at, length_bits}
use Rattle.joined_terms.specs.Joining.{behind, place_of}

-- there are as many
pub length_placed : (places ids : List NodeId) → length (map (place_of places) ids) ≡ length ids
length_placed places [] = refl
length_placed places (id ∷ ids) = let rest = length_placed places ids in omega (arith, rest)

-- they stand where places end
pub end_placed : (places ids : List NodeId) → ids_end ids ≤ length places →
    ids_end (map (place_of places) ids) ≤ ids_end places
end_placed places [] within = omega arith
end_placed places (id ∷ ids) within =
    let here = ids_end_at places id.0 (record { 0 = 0 }) (omega (arith, within)) in
    let rest = end_placed places ids (omega (arith, within)) in omega (arith, here, rest)

bits_placed : (w : Reading) (places ids : List NodeId) →
    bits w (map (place_of places) ids) ≡ bits (behind places w) ids
bits_placed w places [] = refl
bits_placed w places (id ∷ ids) = ap (λ bs. at (behind places w) id ∷ bs) (bits_placed w places ids)

-- and have the values that are read behind them
pub number_placed : (w : Reading) (places ids : List NodeId) →
    number w (map (place_of places) ids) ≡ number (behind places w) ids
number_placed w places ids = ap number_of (bits_placed w places ids)

-- for numbers at their places, in `using`
pub ruleset placed_steps = (length_placed, end_placed, number_placed)

-- ---- one of them

some_end : (ids : List NodeId) (k : ℕ) (id : NodeId) → k < length ids → id ≡ get_or ids k (record { 0 = 0 }) →
    id.0 < ids_end ids
some_end ids k id within is =
    subst (λ (n : NodeId). n.0 < ids_end ids) (sym is) (ids_end_at ids k (record { 0 = 0 }) within)

-- it stands below whatever is above the ends
pub some_within : (ids : List NodeId) (k : ℕ) (id : NodeId) (most : ℕ) → k < length ids →
    id ≡ get_or ids k (record { 0 = 0 }) → ids_end ids ≤ most → id.0 < most
some_within ids k id most less is within = let end = some_end ids k id less is in omega (arith, end, within)

-- and so does its place
pub place_within : (places ids : List NodeId) (k : ℕ) (id : NodeId) (most : ℕ) → k < length ids →
    id ≡ get_or ids k (record { 0 = 0 }) → ids_end ids ≤ length places → ids_end places ≤ most →
    (place_of places id).0 < most
place_within places ids k id most less is long within =
    let node = some_end ids k id less is in
    let end = ids_end_at places id.0 (record { 0 = 0 }) (omega (arith, node, long)) in omega (arith, end, within)

-- it is read as one of the values
pub some_read : (w : Reading) (ids : List NodeId) (k : ℕ) (id : NodeId) → slice_get ids k ≡ Some id →
    at w id ≡ get_or (bits w ids) k false
some_read w ids k id there =
    ap (at w) (sym (get_or_from_slice_get ids k id (record { 0 = 0 }) there))
    ∙ sym (bits_at w ids k (record { 0 = 0 }) (slice_get_within ids k id there))

-- and past them none is true
pub none_read : (w : Reading) (ids : List NodeId) (k : ℕ) → length ids ≤ k → get_or (bits w ids) k false ≡ false
none_read w ids k past =
    let long = length_bits w ids in get_or_past (bits w ids) k false (omega (arith, long, past))
