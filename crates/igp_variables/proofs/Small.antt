-- The interior distances of a network have room in their bits: no walk over adjacencies that comes to each router once
-- costs more than the dearest interface and, for each router, the dearest adjacency.
use Rattle.std.proofs.Common.{◌≡◌, ℕ, ◌<◌, ◌≤◌, ◌^◌, Bool, true, false, List, [], length, Option, Some, None, arith, refl, sym, ap, inl, inr, zero, suc, ◌+◌, ◌*◌, ◌∷◌}
use Rattle.std.proofs.Common.{subst, if◌then◌else◌}
use Rattle.std.specs.Prelude.{All, IfSome, fold, max, option_and_then, option_map, slice_get}
use Rattle.std.specs.Option.{option_to_list}
use Rattle.std.specs.List.{flat_map, list_all, range_with_len}
use Rattle.std.proofs.lemmas.List.Elements.{All-map, All-nil}
use Rattle.mw_text.specs.declared.address.Prefix.{Prefix}
use Rattle.mw_text.proofs.Lists.{all_flat_map, all_found}
use Rattle.ios_ast.specs.declared.file.File.{File}
use Rattle.route_record.specs.declared.Failures.{Failures}
use Rattle.net_interfaces.specs.declared.interfaces.TheConstants.{MOST_FILES}
use Rattle.net_interfaces.specs.Limits.{keeps_limits}
use Rattle.net_parts.specs.Distances.{distance_within, interior_distance, own_cost}
use Rattle.net_parts.specs.Ospf.{advertised}
use Rattle.net_parts.proofs.Costs.{adjacency_costs, interface_costs}
use Rattle.proto_ospf.specs.Rounds.{AtMost, everywhere, interior_distances, of_router, receiver}
use Rattle.proto_ospf.proofs.Bounds.{own_costs_below, receivers_cheap, rounds_small}
use Rattle.proto_ospf.proofs.Interior.{interior_there, rounds_interior}
use Rattle.igp_variables.specs.Rows.{distance_width, distances, distances_at, runs_bgp}
use Rattle.net_parts.specs.declared.adjacencies.Adjacency.{Adjacency}
use Rattle.net_parts.specs.declared.ospf.OspfInterface.{OspfInterface}
use Rattle.net_parts.specs.Ospf.{adjacencies, origin_interfaces, ospf_interfaces, up_adjacencies}
use Rattle.net_parts.proofs.LeastWalks.{in-cases, in-filter, in-filter_map, in-map, in-option, least-is}
use Rattle.mw_text.specs.Members.{In}
use Rattle.std.proofs.lemmas.Option.{same_Some}
use Rattle.slot_places.specs.Rooms.{dearest_interface, dearest_walk}
use Rattle.slot_places.proofs.Fitting.{below_dearest}
use Rattle.slot_places.proofs.Widths.{few as few_bits, in_width}
use Rattle.slot_places.specs.Values.{width_for}
use Rattle.std.proofs.Math.Nat.{suc-mul}

-- a distance of 32 bits, or none
abbrev pub FitsWord : Option ℕ → Type 0
FitsWord d = IfSome d (λ n. n < 2 ^ 32)

module _ (files : List File) (failures : Failures) (limits : list_all keeps_limits files ≡ true)
    (few : length files ≤ MOST_FILES) where
  fits : (d : Option ℕ) → IfSome d (λ n. n ≤ 2147483647) → FitsWord d
  fits None below = tt
  fits (Some n) below = omega (arith, below)

  looked : (ds : List (Option ℕ)) (router : ℕ) → AtMost 2147483647 ds → FitsWord (of_router ds router)
  looked ds router all = by (slice_get ds router) refl where
    by : (o : Option (Option ℕ)) → slice_get ds router ≡ o → FitsWord (option_and_then (λ d. d) o)
    by None is = tt
    by (Some d) is = fits d (all_found (λ (o : Option ℕ). IfSome o (λ n. n ≤ 2147483647)) ds router d all is)

  all_below : (p : Prefix) → AtMost 2147483647 (interior_distances files failures p)
  all_below p =
      subst (AtMost 2147483647) (rounds_interior files failures p)
      (rounds_small (everywhere files (own_cost files failures p)) (everywhere files (receiver files failures))
      (length files) (own_costs_below files failures p (interface_costs files limits))
      (receivers_cheap files failures (adjacency_costs files limits)) few)

  fits_word : (router : ℕ) (p : Prefix) → FitsWord (interior_distance files failures router p)
  fits_word router p =
      subst FitsWord (sym (interior_there files failures p router))
      (looked (interior_distances files failures p) router (all_below p))

-- a distance of so many bits, or none
abbrev pub HasBits : ℕ → Option ℕ → Type 0
HasBits width d = IfSome d (λ n. n < 2 ^ width)

pub width_few : (n : ℕ) → width_for n ≤ 32
width_few n = let below = few_bits n 0 32 (omega arith) in omega (arith, below)

added : (c : ℕ) (o : Option ℕ) (n : ℕ) → option_map (λ d. c + d) o ≡ Some n → (d : ℕ) × (o ≡ Some d) × (c + d ≡ n)
added c None n is = absurd cc
added c (Some d) n is = (d, refl, same_Some (c + d) n is)

module _ (files : List File) (failures : Failures) (p : Prefix) where
  abbrev own : ℕ
  own = dearest_interface files

  abbrev step : ℕ
  step = fold (λ most a. max most a.cost) 0 (adjacencies files)

  own_below : (router n : ℕ) → own_cost files failures p router ≡ Some n → n ≤ own
  unfolding own_cost
  own_below router n is =
      let of = in-map (λ (x : OspfInterface). x.cost) (origin_interfaces files failures router p) n (least-is _ n is) in
      let runs = in-filter _ (ospf_interfaces files) of.0 of.1 in
      let same = of.2 in
      let below = below_dearest (λ (x : OspfInterface). x.cost) (ospf_interfaces files) 0 of.0 runs.0 in
      omega (arith, same, below)

  up_below : (router : ℕ) (a : Adjacency) → In a (up_adjacencies files failures router) → a.cost ≤ step
  unfolding up_adjacencies
  up_below router a there =
      below_dearest (λ (x : Adjacency). x.cost) (adjacencies files) 0 a (in-filter _ (adjacencies files) a there).0

  within_below : (most router n : ℕ) → distance_within files failures p most router ≡ Some n → n ≤ own + most * step
  unfolding distance_within
  within_below zero router n is = let below = own_below router n is in omega (arith, below)
  within_below (suc most) router n is =
      elim (in-cases n (option_to_list (own_cost files failures p router)) _ (least-is _ n is)) [
        | inl front ↦ let below = own_below router n (in-option (own_cost files failures p router) n front) in
            omega (arith, below)
        | inr back ↦
            let over = in-filter_map
            (λ (a : Adjacency). option_map (λ d. a.cost + d) (distance_within files failures p most a.to.router))
            (up_adjacencies files failures router) n back in
            let further = added over.0.cost (distance_within files failures p most over.0.to.router) n over.2 in
            let rest = within_below most over.0.to.router further.0 further.1 in
            let cost = up_below router over.0 over.1 in
            let more = suc-mul most step in
            let same = further.2 in
            omega (arith, rest, cost, more, same)
      ]

module _ (files : List File) (failures : Failures) (limits : list_all keeps_limits files ≡ true)
    (few : length files ≤ MOST_FILES) where
  has_bits : (router : ℕ) (p : Prefix) → HasBits (distance_width files) (interior_distance files failures router p)
  unfolding interior_distance
  has_bits router p =
      by (interior_distance files failures router p) refl (fits_word files failures limits few router p)
    where
      by : (d : Option ℕ) → interior_distance files failures router p ≡ d → FitsWord d → HasBits (distance_width files) d
      by None is word = tt
      by (Some n) is word =
          in_width n (dearest_interface files + dearest_walk files) 0 32
          (within_below files failures p (length files) router n is) word

  -- each of the distances of a network has
  pub fit_bits : All (HasBits (distance_width files)) (distances files failures)
  unfolding distances
  fit_bits = by (runs_bgp files) where
    by : (b : Bool) → All (HasBits (distance_width files))
        (if b then flat_map (distances_at files failures) (range_with_len 0 (length files)) else [])
    by false = All-nil (HasBits (distance_width files))
    by true =
        all_flat_map (λ router. Unit {0}) (HasBits (distance_width files)) (distances_at files failures)
        (range_with_len 0 (length files))
        (λ router any. All-map (HasBits (distance_width files)) (interior_distance files failures router)
        (advertised files) (λ k p within. has_bits router _)) (λ k d within. tt)
