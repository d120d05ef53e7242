-- The interior distances of a network (RFC 2328, section 16.1) as unknowns of a formula: whether a router has one to an
-- advertised prefix, and as many bits of it as the longest walk can want. They resolve the next hops of BGP (RFC 4271, section 9.1.2.2), so there are none
-- where no router runs BGP.
use Rattle.std.specs.Prelude.{◌≡◌, ℕ, zero, suc, ◌+◌, ◌*◌, Bool, true, false, List, [], ◌∷◌, fold, length, map, max}
use Rattle.std.specs.Prelude.{Option, Some, None, if◌then◌else◌}
use Rattle.std.specs.List.{flat_map, list_any, range_with_len}
use Rattle.ios_ast.specs.declared.file.File.{File}
use Rattle.route_record.specs.declared.Failures.{Failures}
use Rattle.route_record.specs.declared.OspfRec.{OspfRec}
use Rattle.net_parts.specs.Distances.{interior_distance}
use Rattle.net_parts.specs.Ospf.{advertised, ospf_interfaces}
use Rattle.net_parts.specs.Sessions.{runs_bgp as has_process}
use Rattle.sym_policy.specs.declared.records.SymNet.{SymNet}
use Rattle.sym_policy.specs.Held.{internal_route}
use Rattle.slot_places.specs.Rooms.{dearest_interface, dearest_walk}
use Rattle.slot_places.specs.Values.{width_for}
use Rattle.failed_links.specs.Failures.{none_of}
use Rattle.failed_links.specs.Rows.{digits, number_from}

-- some router runs BGP
abbrev pub runs_bgp : List File → Bool
runs_bgp files = list_any has_process files

-- how many distances there are: one of each router to each advertised prefix
abbrev pub rows_count : List File → ℕ
rows_count files = if runs_bgp files then length files * length (advertised files) else 0

-- ---- how long a distance can be

-- no walk that comes to each router once costs more than that and, for each router, the dearest adjacency
abbrev pub distance_width : List File → ℕ
distance_width files = width_for (dearest_interface files + dearest_walk files)

-- ---- what the values of variables say

-- a distance of so many bits, as an internal route: whether it is there, and its cost
abbrev pub route_from : ℕ → (ℕ → Bool) → ℕ → Option OspfRec
route_from width v from = if v from then Some (internal_route (number_from v (from + 1) width)) else None

-- so many, one after another
unfoldable pub routes_from : ℕ → ℕ → (ℕ → Bool) → ℕ → List (Option OspfRec)
routes_from width zero v from = []
routes_from width (suc count) v from = route_from width v from ∷ routes_from width count v (from + suc width)

abbrev pub rows_from : List File → (ℕ → Bool) → ℕ → List (Option OspfRec)
rows_from files v from = routes_from (distance_width files) (rows_count files) v from

abbrev pub rows_width : List File → ℕ
rows_width files = rows_count files * suc (distance_width files)

-- ---- the values of the variables of distances

-- those of a router, by advertised prefix
abbrev pub distances_at : List File → Failures → ℕ → List (Option ℕ)
distances_at files failures router = map (interior_distance files failures router) (advertised files)

-- those of all routers, in their order
unfoldable pub distances : List File → Failures → List (Option ℕ)
distances files failures =
    if runs_bgp files then flat_map (distances_at files failures) (range_with_len 0 (length files)) else []

-- the variables of a distance that is not there are false
abbrev pub distance_bits : ℕ → Option ℕ → List Bool
distance_bits width None = false ∷ none_of width
distance_bits width (Some n) = true ∷ digits width n

unfoldable pub rows_bits : List File → Failures → List Bool
rows_bits files failures = flat_map (distance_bits (distance_width files)) (distances files failures)

-- ---- as terms

-- there is a route for each
abbrev pub HasRows : List File → SymNet → Type 0
HasRows files sym = length sym.igp ≡ rows_count files
