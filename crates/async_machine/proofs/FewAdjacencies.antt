-- A network has few adjacencies, so the place of one fits.
use Rattle.std.proofs.Common.{◌≡◌, ℕ, ◌+◌, ◌*◌, ◌≤◌, true, List, [], ◌∷◌, length, length-append, Option}
use Rattle.std.proofs.Common.{Some, None, arith}
use Rattle.std.specs.Prelude.{filter}
use Rattle.std.specs.List.{cons_option, filter_map, flat_map, list_all}
use Rattle.std.proofs.lemmas.List.{length-map}
use Rattle.ios_ast.specs.declared.file.File.{File}
use Rattle.net_interfaces.specs.Interfaces.{addressed}
use Rattle.net_interfaces.specs.Limits.{keeps_limits}
use Rattle.net_parts.specs.declared.ospf.OspfInterface.{OspfInterface}
use Rattle.net_parts.specs.Ospf.{adjacencies, adjacencies_of, adjacency, are_adjacent, ospf_at, ospf_interfaces}
use Rattle.net_parts.proofs.FewLinks.{few_routers}
use Rattle.net_parts.proofs.Peers.{filter-le}

found_few : {X Y : Type 0} (f : X → Option Y) (xs : List X) → length (filter_map f xs) ≤ length xs
found_few f [] = omega arith
found_few {Y = Y} f (x ∷ xs) = by (f x) (found_few f xs) where
  by : (o : Option Y) → length (filter_map f xs) ≤ length xs →
      length (cons_option o (filter_map f xs)) ≤ length (x ∷ xs)
  by None more = omega (arith, more)
  by (Some y) more = omega (arith, more)

-- so many lists of at most so many items each
flat_few : {X Y : Type 0} (f : X → List Y) (most : ℕ) (xs : List X) → ((x : X) → length (f x) ≤ 4096) →
    length (flat_map f xs) ≤ 4096 * length xs
flat_few f most [] each = omega arith
flat_few f most (x ∷ xs) each =
    omega (arith, length-append (f x) (flat_map f xs), each x, flat_few f most xs each)

pub few_adjacencies : (files : List File) → length files ≤ 64 → list_all keeps_limits files ≡ true →
    length (adjacencies files) ≤ 4294967295
unfolding adjacencies ospf_interfaces
few_adjacencies files small few =
    let all = few_routers 0 files few in
    let running : length (ospf_interfaces files) ≤ 4096 =
    omega (arith, all, found_few (ospf_at files) (addressed files)) in
    let each : (a : OspfInterface) → length (adjacencies_of a (ospf_interfaces files)) ≤ 4096 =
    λ a. omega (
      arith,
      length-map (filter (are_adjacent a) (ospf_interfaces files)) (adjacency a),
      filter-le (are_adjacent a) (ospf_interfaces files),
      running,
    ) in
    omega (arith, flat_few (λ a. adjacencies_of a (ospf_interfaces files)) 4096 (ospf_interfaces files) each, running)
