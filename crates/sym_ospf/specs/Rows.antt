-- What a reading makes of the rows of interior distances, and the equations of these.
use Rattle.std.specs.Prelude.{◌≡◌, ℕ, ◌+◌, ◌*◌, ◌==◌, ◌<◌, ◌&&◌, max, min, Bool, true, false, List, length}
use Rattle.std.specs.Prelude.{Option, Some, None, option_map, option_and_then, slice_get, if◌then◌else◌}
use Rattle.std.specs.Option.{option_map_or}
use Rattle.mw_text.specs.declared.address.Prefix.{Prefix}
use Rattle.ios_ast.specs.declared.file.File.{File}
use Rattle.route_record.specs.declared.Failures.{Failures}
use Rattle.route_record.specs.declared.OspfKind.{OspfKind}
use Rattle.route_record.specs.declared.OspfKind.TheVariants.{Internal, Ext1, Ext2}
use Rattle.route_record.specs.declared.OspfRec.{OspfRec}
use Rattle.net_parts.specs.declared.adjacencies.Adjacency.{Adjacency}
use Rattle.net_parts.specs.declared.ospf.OspfInterface.{OspfInterface}
use Rattle.net_parts.specs.Distances.{beyond, interior_distance, nearest}
use Rattle.net_parts.specs.Ospf.{advertised, advertisement, is_up_at}
use Rattle.net_parts.specs.World.{is_up}
use Rattle.mw_text.specs.Address.{same_prefix}
use Rattle.mw_text.specs.Members.{all_below}
use Rattle.term_store.specs.Terms.{Reading, at}
use Rattle.term_arith.specs.Bits.{number, ids_end}
use Rattle.sym_policy.specs.declared.records.SymNet.{SymNet}
use Rattle.sym_policy.specs.Held.{failures_of, internal_route, ospf_of}
use Rattle.sym_ospf.specs.declared.parts.SymDistance.{SymDistance}
use Rattle.sym_ospf.specs.Routes.{routes_end}

-- the least size of a store that has all nodes of the failed links and of the rows
abbrev pub net_end : SymNet → ℕ
net_end sym = max (ids_end sym.down) (routes_end sym.igp)

-- the route of a router to the prefix at a place among the advertised ones
abbrev pub igp_at : Reading → List File → SymNet → ℕ → ℕ → Option OspfRec
igp_at w files sym router k = option_and_then (ospf_of w) (slice_get sym.igp (router * length (advertised files) + k))

-- the rows are the interior distances of the routers to the advertised prefixes, as internal routes
pub record HasDistances (w : Reading) (files : List File) (sym : SymNet) : Type 0 where
  pub are : (router k : ℕ) (p : Prefix) → router < length files → slice_get (advertised files) k ≡ Some p
      → igp_at w files sym router k ≡ option_map internal_route (interior_distance files (failures_of w sym) router p)

-- ---- distances as terms

abbrev pub distance_of : Reading → SymDistance → Option ℕ
distance_of w s = if at w s.there then Some (number w s.sum.nodes.items) else None

-- the least size of a store that has all nodes of the distance
abbrev pub distance_end : SymDistance → ℕ
distance_end s = max (s.there.0 + 1) (ids_end s.sum.nodes.items)

-- the less of the least so far and of the next, where there is one
abbrev pub nearer : Option ℕ → Option ℕ → Option ℕ
nearer best None = best
nearer best (Some n) = Some (option_map_or (min n) best n)

-- what an interface offers to a router that originates the prefix by it
unfoldable pub own_offer : List File → Failures → Prefix → ℕ → OspfInterface → Option ℕ
own_offer files failures p router x =
    if (x.at.id.router == router) && (same_prefix (advertisement x) p && is_up files failures x.at) then Some x.cost
    else None

-- what a router is offered over an adjacency, by the distances of the routers
unfoldable pub far_offer : List File → Failures → (ℕ → Option ℕ) → ℕ → Adjacency → Option ℕ
far_offer files failures d router a =
    if (a.from.router == router) && (is_up_at files failures a.from && is_up_at files failures a.to) then beyond d a
    else None

-- the costs of the routes to the prefix at a place
abbrev pub costs_at : Reading → List File → SymNet → ℕ → ℕ → Option ℕ
costs_at w files sym k router = option_map (λ r. r.cost) (igp_at w files sym router k)

-- ---- the equations

abbrev pub is_internal : OspfKind → Bool
is_internal Internal = true
is_internal Ext1 = false
is_internal Ext2 = false

-- the route is the distance, as an internal route with metric 0
abbrev pub is_distance : Option OspfRec → Option ℕ → Bool
is_distance None None = true
is_distance None (Some n) = false
is_distance (Some r) None = false
is_distance (Some r) (Some n) = is_internal r.kind && ((r.metric == 0) && (r.cost == n))

-- the route at a place is the least that the router's own interfaces and its adjacencies offer
unfoldable pub equation : Reading → List File → SymNet → ℕ → ℕ → Bool
equation w files sym router k =
    option_map_or (λ p. is_distance (igp_at w files sym router k)
    (nearest files (failures_of w sym) p (costs_at w files sym k) router))
    (slice_get (advertised files) k) true

-- the equations of all advertised prefixes at one router, and at all routers
abbrev pub row_holds : Reading → List File → SymNet → ℕ → Bool
row_holds w files sym router = all_below (equation w files sym router) (length (advertised files))

abbrev pub rows_hold : Reading → List File → SymNet → Bool
rows_hold w files sym = all_below (row_holds w files sym) (length files)
