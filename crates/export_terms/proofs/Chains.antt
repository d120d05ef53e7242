-- Ends over which a route may have been learnt, one after another, and nodes by place.
use Rattle.std.proofs.Common.{◌≡◌, ℕ, zero, suc, ◌+◌, ◌-◌, ◌<◌, ◌≤◌, Bool, true, false, if◌then◌else◌, List, [], ◌∷◌, ◌++◌}
use Rattle.std.proofs.Common.{Option, Some, drop, get_or, length, refl, sym, ap, subst, ◌∙◌, arith}
use Rattle.std.specs.Prelude.{slice_get}
use Rattle.std.specs.List.{find}
use Rattle.std.specs.Option.{option_map_or}
use Rattle.std.proofs.lemmas.List.{drop_all, drop_more}
use Rattle.std.proofs.lemmas.Option.{get_or_from_slice_get, slice_get_past, slice_get_within}
use Rattle.net_parts.specs.declared.sessions.SessionEnd.{SessionEnd}
use Rattle.term_store.specs.declared.NodeId.{NodeId}
use Rattle.term_store.specs.Terms.{Reading, at}
use Rattle.term_arith.specs.Bits.{ids_end}
use Rattle.term_arith.proofs.NumberLemmas.{ids_end_at}
use Rattle.export_terms.specs.Routes.{node_in}

-- ---- nodes by place

pub node_below : (nodes : List NodeId) (place : ℕ) (id : NodeId) → slice_get nodes place ≡ Some id →
    id.0 < ids_end nodes
node_below nodes place id there =
    subst (λ n. n.0 < ids_end nodes) (get_or_from_slice_get nodes place id id there)
    (ids_end_at nodes place id (slice_get_within nodes place id there))

pub node_before : (w : Reading) (xs : List NodeId) (y : NodeId) (r : ℕ) → r < length xs →
    node_in w (xs ++ y ∷ []) r ≡ node_in w xs r
node_before w [] y r less = absurd (omega (arith, less))
node_before w (x ∷ xs) y zero less = refl
node_before w (x ∷ xs) y (suc r) less = node_before w xs y r (omega (arith, less))

pub node_last : (w : Reading) (xs : List NodeId) (y : NodeId) → node_in w (xs ++ y ∷ []) (length xs) ≡ at w y
node_last w [] y = refl
node_last w (x ∷ xs) y = node_last w xs y

pub node_past : (w : Reading) (xs : List NodeId) (r : ℕ) → length xs ≤ r → node_in w xs r ≡ false
node_past w xs r past = ap (λ o. option_map_or (at w) o false) (slice_get_past xs r past)

-- ---- ends

-- one more end, over which a route may have been learnt
pub over_more : (p lead : SessionEnd → Bool) (ends : List SessionEnd) (i : ℕ) (over d : SessionEnd) (rest made : Bool) →
    0 < i → i ≤ length ends → over ≡ get_or ends (i - 1) d →
    rest ≡ option_map_or lead (find p (drop i ends)) false → made ≡ (if p over then lead over else rest) →
    made ≡ option_map_or lead (find p (drop (i - 1) ends)) false
over_more p lead ends i over d rest made above within at_place rest_is made_is =
    let go : Option SessionEnd → Bool = λ o. option_map_or lead o false in
    let j = i - 1 in
    let next : j + 1 ≡ i = omega (arith, above) in
    made_is
    ∙ (λ k. if p over then lead over else rest_is k)
    ∙ by_test (p over) over (find p (drop i ends))
    ∙ ap (λ o. go (find p (o ∷ drop i ends))) at_place
    ∙ ap (λ m. go (find p (get_or ends j d ∷ drop m ends))) (sym next)
    ∙ ap (λ xs. go (find p xs)) (sym (drop_more ends j d (omega (arith, within, above))))
  where
    by_test : (b : Bool) (x : SessionEnd) (o : Option SessionEnd) →
        (if b then lead x else option_map_or lead o false) ≡ option_map_or lead (if b then Some x else o) false
    by_test true x o = refl
    by_test false x o = refl

pub over_end : (p lead : SessionEnd → Bool) (ends : List SessionEnd) (i : ℕ) → length ends ≤ i →
    false ≡ option_map_or lead (find p (drop i ends)) false
over_end p lead ends i past = ap (λ xs. option_map_or lead (find p xs) false) (sym (drop_all i ends past))
