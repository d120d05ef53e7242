-- Routes that read as the distances are the interior distances of a network.
use Rattle.std.proofs.Common.{◌≡◌, ℕ, zero, suc, ◌+◌, ◌*◌, ◌<◌, true, List, [], ◌∷◌, ◌++◌, length, map, Option, Some, None}
use Rattle.std.proofs.Common.{arith, refl, sym, ap, ◌∙◌, if◌then◌else◌}
use Rattle.std.specs.Prelude.{option_and_then, option_map, slice_get}
use Rattle.std.specs.List.{flat_map, range_with_len}
use Rattle.std.proofs.lemmas.List.{length-map}
use Rattle.std.proofs.lemmas.Option.{slice_get-map}
use Rattle.std.proofs.Math.Nat.{suc-mul}
use Rattle.mw_text.specs.declared.address.Prefix.{Prefix}
use Rattle.mw_text.proofs.Lists.{item_before}
use Rattle.ios_ast.specs.declared.file.File.{File}
use Rattle.route_record.specs.declared.Failures.{Failures}
use Rattle.net_parts.specs.Distances.{interior_distance}
use Rattle.net_parts.specs.Ospf.{advertised}
use Rattle.term_store.specs.Terms.{Reading}
use Rattle.sym_policy.specs.declared.records.SymNet.{SymNet}
use Rattle.sym_policy.specs.Held.{failures_of, internal_route, ospf_of}
use Rattle.sym_ospf.specs.Rows.{HasDistances, igp_at}
use Rattle.igp_variables.specs.Rows.{distances, distances_at, runs_bgp}

-- ---- an item of a row among rows of one length

item_past : {X : Type 0} (front rest : List X) (k : ℕ) (x : X) → slice_get rest k ≡ Some x →
    slice_get (front ++ rest) (length front + k) ≡ Some x
item_past [] rest k x there = let place : 0 + k ≡ k = omega arith in ap (slice_get rest) place ∙ there
item_past (y ∷ front) rest k x there =
    let place : suc (length front) + k ≡ suc (length front + k) = omega arith in
    ap (slice_get (y ∷ front ++ rest)) place ∙ item_past front rest k x there

row_item : {X : Type 0} (f : ℕ → List X) (m : ℕ) → ((router : ℕ) → length (f router) ≡ m) → (a n i k : ℕ) (x : X) →
    i < n → slice_get (f (a + i)) k ≡ Some x → slice_get (flat_map f (range_with_len a n)) (i * m + k) ≡ Some x
row_item f m long a zero i k x below there = absurd (omega (arith, below))
row_item f m long a (suc n) zero k x below there =
    let first : a + 0 ≡ a = omega arith in
    let place : 0 * m + k ≡ k = omega arith in
    let rest = flat_map f (range_with_len (a + 1) n) in
    ap (slice_get (f a ++ rest)) place
    ∙ item_before (f a) rest k x (sym (ap (λ router. slice_get (f router) k) first) ∙ there)
row_item f m long a (suc n) (suc i) k x below there =
    let next : a + suc i ≡ a + 1 + i = omega arith in
    let row = long a in
    let more = suc-mul i m in
    let rest = flat_map f (range_with_len (a + 1) n) in
    let place : suc i * m + k ≡ length (f a) + (i * m + k) = omega (arith, row, more) in
    ap (slice_get (f a ++ rest)) place
    ∙ item_past (f a) rest (i * m + k) x
    (row_item f m long (a + 1) n i k x (omega (arith, below))
    (sym (ap (λ router. slice_get (f router) k) next) ∙ there))

-- ---- the distances

module _ (files : List File) (failures : Failures) (runs : runs_bgp files ≡ true) where
  -- that of a router to the advertised prefix at a place
  distance_there : (router k : ℕ) (p : Prefix) → router < length files → slice_get (advertised files) k ≡ Some p →
      slice_get (distances files failures) (router * length (advertised files) + k)
      ≡ Some (interior_distance files failures router p)
  unfolding distances
  distance_there router k p below there =
      let place = router * length (advertised files) + k in
      let first : 0 + router ≡ router = omega arith in
      let own : slice_get (distances_at files failures router) k ≡ Some (interior_distance files failures router p) =
      slice_get-map (interior_distance files failures router) (advertised files) k
      ∙ ap (option_map (interior_distance files failures router)) there in
      ap (λ b. slice_get (if b then flat_map (distances_at files failures) (range_with_len 0 (length files)) else [])
      place) runs
      ∙ row_item (distances_at files failures) (length (advertised files))
      (λ r. length-map (advertised files) (interior_distance files failures r)) 0 (length files) router k
      (interior_distance files failures router p) below
      (ap (λ r. slice_get (distances_at files failures r) k) first ∙ own)

read_of : {A B : Type 0} (f : A → Option B) (o : Option A) →
    option_and_then f o ≡ option_and_then (λ x. x) (option_map f o)
read_of f None = refl
read_of f (Some x) = refl

pub rows_are : (w : Reading) (files : List File) (net : SymNet) → runs_bgp files ≡ true →
    map (ospf_of w) net.igp ≡ map (option_map internal_route) (distances files (failures_of w net)) →
    HasDistances w files net
rows_are w files net runs same = record { are = there } where
  there : (router k : ℕ) (p : Prefix) → router < length files → slice_get (advertised files) k ≡ Some p →
      igp_at w files net router k
      ≡ option_map internal_route (interior_distance files (failures_of w net) router p)
  there router k p below at =
      let place = router * length (advertised files) + k in
      let all = distances files (failures_of w net) in
      read_of (ospf_of w) (slice_get net.igp place)
      ∙ ap (option_and_then (λ x. x)) (sym (slice_get-map (ospf_of w) net.igp place)
      ∙ ap (λ xs. slice_get xs place) same
      ∙ slice_get-map (option_map internal_route) all place
      ∙ ap (option_map (option_map internal_route)) (distance_there files (failures_of w net) runs router k p below at))
