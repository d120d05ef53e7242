-- The distances are read from their bits.
use Rattle.std.proofs.Common.{◌≡◌, ℕ, zero, suc, ◌+◌, ◌*◌, ◌≤◌, Bool, true, false, List, [], ◌∷◌, ◌++◌, length, map, Option}
use Rattle.std.proofs.Common.{Some, None, arith, refl, sym, ap, subst, ◌∙◌, if◌then◌else◌}
use Rattle.std.specs.Prelude.{All, option_map}
use Rattle.std.specs.List.{flat_map, list_all, range_with_len}
use Rattle.std.proofs.lemmas.List.{append-nil, append_assoc, length-append, length-map}
use Rattle.std.proofs.lemmas.List.Elements.{All-head, All-tail}
use Rattle.std.proofs.Math.Nat.{suc-mul}
use Rattle.ios_ast.specs.declared.file.File.{File}
use Rattle.route_record.specs.declared.Failures.{Failures}
use Rattle.net_interfaces.specs.declared.interfaces.TheConstants.{MOST_FILES}
use Rattle.net_interfaces.specs.Limits.{keeps_limits}
use Rattle.net_parts.specs.Distances.{interior_distance}
use Rattle.net_parts.specs.Ospf.{advertised}
use Rattle.sym_policy.specs.Held.{internal_route}
use Rattle.failed_links.specs.Failures.{none_of}
use Rattle.failed_links.specs.Rows.{IsAt, digits, number_from}
use Rattle.failed_links.proofs.FailureParts.{length-none}
use Rattle.failed_links.proofs.Reading.{after, field_at, one_then}
use Rattle.igp_variables.specs.Rows.{distance_bits, distance_width, distances, distances_at, route_from, routes_from, rows_bits}
use Rattle.igp_variables.specs.Rows.{rows_count, rows_from, rows_width, runs_bgp}
use Rattle.igp_variables.proofs.Small.{HasBits, fit_bits}

-- ---- one distance

distance_read : (width : ℕ) (d : Option ℕ) (v : ℕ → Bool) (from : ℕ) (rest : List Bool) → HasBits width d →
    IsAt v from (distance_bits width d ++ rest) →
    (route_from width v from ≡ option_map internal_route d) × IsAt v (from + suc width) rest
distance_read width None v from rest fits here =
    let there = one_then v from false (none_of width ++ rest) here in
    let past = after v (from + 1) (none_of width) rest there.1 in
    let long = length-none width in (
      ap (λ b. if b then Some (internal_route (number_from v (from + 1) width)) else None) there.0,
      subst (λ k. IsAt v k rest) (omega (arith, long)) past.1,
    )
distance_read width (Some n) v from rest fits here =
    let there = one_then v from true (digits width n ++ rest) here in
    let cost = field_at v (from + 1) width n rest fits there.1 in (
      ap (λ b. if b then Some (internal_route (number_from v (from + 1) width)) else None) there.0
          ∙ ap (λ k. Some (internal_route k)) cost.0,
      subst (λ k. IsAt v k rest) (omega arith) cost.1,
    )

-- ---- one after another

routes_read : (width : ℕ) (ds : List (Option ℕ)) (v : ℕ → Bool) (from : ℕ) (rest : List Bool) →
    All (HasBits width) ds → IsAt v from (flat_map (distance_bits width) ds ++ rest) →
    (routes_from width (length ds) v from ≡ map (option_map internal_route) ds)
    × IsAt v (from + length ds * suc width) rest
unfolding routes_from
routes_read width [] v from rest fit here =
    let none : 0 * suc width ≡ 0 = omega arith in (refl, subst (λ k. IsAt v k rest) (omega (arith, none)) here)
routes_read width (d ∷ ds) v from rest fit here =
    let apart = append_assoc (distance_bits width d) (flat_map (distance_bits width) ds) rest in
    let one = distance_read width d v from (flat_map (distance_bits width) ds ++ rest)
    (All-head (HasBits width) d ds fit) (subst (IsAt v from) apart here) in
    let others = routes_read width ds v (from + suc width) rest (All-tail (HasBits width) d ds fit) one.1 in
    let more = suc-mul (length ds) (suc width) in
    (λ i. one.0 i ∷ others.0 i, subst (λ k. IsAt v k rest) (omega (arith, more)) others.1)

-- ---- how many there are

many_rows : {X : Type 0} (f : ℕ → List X) (m a n : ℕ) → ((router : ℕ) → length (f router) ≡ m) →
    length (flat_map f (range_with_len a n)) ≡ n * m
many_rows f m a zero long = omega arith
many_rows f m a (suc n) long =
    let row = long a in
    let rest = many_rows f m (a + 1) n long in
    let all = length-append (f a) (flat_map f (range_with_len (a + 1) n)) in
    let more = suc-mul n m in
    omega (arith, all, row, rest, more)

-- the distances are as many as their variables tell
pub distances_count : (files : List File) (failures : Failures) → length (distances files failures) ≡ rows_count files
unfolding distances
distances_count files failures = by (runs_bgp files) where
  by : (b : Bool) → length (if b then flat_map (distances_at files failures) (range_with_len 0 (length files)) else [])
      ≡ (if b then length files * length (advertised files) else 0)
  by false = refl
  by true =
      many_rows (distances_at files failures) (length (advertised files)) 0 (length files)
      (λ router. length-map (advertised files) (interior_distance files failures router))

-- the distances of a network, and what stands behind them
pub rows_then : (files : List File) (failures : Failures) (v : ℕ → Bool) (from : ℕ) (rest : List Bool) →
    list_all keeps_limits files ≡ true → length files ≤ MOST_FILES → IsAt v from (rows_bits files failures ++ rest) →
    (rows_from files v from ≡ map (option_map internal_route) (distances files failures))
    × IsAt v (from + rows_width files) rest
unfolding rows_bits
rows_then files failures v from rest limits few here =
    let width = distance_width files in
    let read = routes_read width (distances files failures) v from rest (fit_bits files failures limits few) here in
    let count = distances_count files failures in (
      ap (λ k. routes_from width k v from) (sym count) ∙ read.0,
      subst (λ k. IsAt v (from + k * suc width) rest) count read.1,
    )

-- where they stand alone
pub rows_read : (files : List File) (failures : Failures) (v : ℕ → Bool) (from : ℕ) →
    list_all keeps_limits files ≡ true → length files ≤ MOST_FILES → IsAt v from (rows_bits files failures) →
    rows_from files v from ≡ map (option_map internal_route) (distances files failures)
rows_read files failures v from limits few here =
    let whole = sym (append-nil (rows_bits files failures)) in
    (rows_then files failures v from [] limits few (subst (IsAt v from) whole here)).0
