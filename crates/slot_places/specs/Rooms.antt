-- Which slots of a routing can hold an OSPF route, and what it can be; which can hold anything.
use Rattle.std.specs.Prelude.{ℕ, zero, suc, ◌+◌, ◌*◌, ◌^◌, ◌<◌, ◌==◌, ◌&&◌, ◌||◌, ◌≡◌, Bool, true, false, List, []}
use Rattle.std.specs.Prelude.{◌∷◌, ◌++◌, Option, Some}
use Rattle.std.specs.Prelude.{None, filter, fold, is_some, length, map, max, option_and_then, slice_get}
use Rattle.std.specs.Prelude.{if◌then◌else◌}
use Rattle.std.specs.List.{list_any}
use Rattle.std.specs.Option.{option_map_or}
use Rattle.mw_text.specs.declared.address.Prefix.{Prefix}
use Rattle.ios_ast.specs.declared.file.File.{File}
use Rattle.route_record.specs.declared.OspfRec.{OspfRec}
use Rattle.route_record.specs.declared.Plan.{Plan}
use Rattle.route_record.specs.declared.TheConstants.{LENGTHS}
use Rattle.net_interfaces.specs.Interfaces.{addressed}
use Rattle.net_parts.specs.Ospf.{adjacencies, ospf_interfaces}
use Rattle.net_parts.specs.OspfRoutes.{kind_rank}
use Rattle.plan_places.specs.declared.places.Place.{Place}
use Rattle.slot_places.specs.declared.rooms.Room.{Room}
use Rattle.slot_places.specs.Origins.{is_static_at, is_subnet_at, origins_at}
use Rattle.plan_places.specs.Plans.{has_slice}
use Rattle.slot_places.specs.Values.{FitsField, field_of, once, width_for}

-- ---- rooms

-- the dearest of some routes
abbrev pub dearest_of : List OspfRec → ℕ
dearest_of routes = fold (λ most r. max most r.cost) 0 routes

-- what the dearest interface costs by which a router can originate a prefix
abbrev pub dearest_interface : List File → ℕ
dearest_interface files = fold (λ most x. max most x.cost) 0 (ospf_interfaces files)

-- no walk over adjacencies that comes to each router once costs more
abbrev pub dearest_walk : List File → ℕ
dearest_walk files = length files * fold (λ most a. max most a.cost) 0 (adjacencies files)

-- the kinds, metrics and costs of routes that come from these by a walk that costs no more than that
abbrev pub room_around : List OspfRec → ℕ → Room
room_around origins walk = record {
  kind = field_of (once (map (λ r. kind_rank r.kind) origins));
  metric = field_of (once (map (λ r. r.metric) origins));
  cost = width_for (dearest_of origins + walk);
}

-- there are none where none is brought in
abbrev pub room_of : List OspfRec → ℕ → Option Room
room_of origins walk = if length origins == 0 then None else Some (room_around origins walk)

-- what an OSPF route can be for a prefix of that length that contains some of the destinations
unfoldable pub room_at : List File → Prefix → ℕ → Option Room
room_at files destinations len = room_of (origins_at files destinations len) (dearest_walk files)

-- for each of the lengths below one
unfoldable pub rooms_below : List File → Prefix → ℕ → List (Option Room)
rooms_below files destinations zero = []
rooms_below files destinations (suc len) = rooms_below files destinations len ++ room_at files destinations len ∷ []

abbrev pub rooms_of : List File → Prefix → List (Option Room)
rooms_of files destinations = rooms_below files destinations LENGTHS

abbrev pub runs_ospf : List File → ℕ → Bool
runs_ospf files router = option_map_or (λ file. is_some file.ospf) (slice_get files router) false

-- what one can be that this router holds, where these are the rooms of the lengths: none where it runs no OSPF
abbrev pub room_among : List File → List (Option Room) → ℕ → ℕ → Option Room
room_among files all router len =
    if runs_ospf files router then option_and_then (λ room. room) (slice_get all len) else None

abbrev pub room_for : List File → Prefix → ℕ → ℕ → Option Room
room_for files destinations router len = if runs_ospf files router then room_at files destinations len else None

-- the route is one of these
pub record FitsIn (room : Room) (r : OspfRec) : Type 0 where
  pub kind : FitsField room.kind (kind_rank r.kind)
  pub metric : FitsField room.metric r.metric
  pub cost : r.cost < 2 ^ room.cost

-- ---- slots in which anything can stand

-- the router has a subnet of that length that shares an address with the destinations
abbrev pub has_subnet : List File → Prefix → ℕ → ℕ → Bool
has_subnet files destinations router len =
    list_any (λ x. (x.id.router == router) && is_subnet_at destinations len x) (addressed files)

-- or a static route to such a prefix, or runs BGP
abbrev pub has_sources : Prefix → ℕ → File → Bool
has_sources destinations len file = list_any (is_static_at destinations len) file.statics || is_some file.bgp

-- something can stand in the slot of that router and length
abbrev pub can_be_used : List File → Prefix → ℕ → ℕ → Bool
can_be_used files destinations router len =
    (has_subnet files destinations router len
    || option_map_or (has_sources destinations len) (slice_get files router) false)
    || is_some (room_among files (rooms_of files destinations) router len)

-- of some places those at which something can stand
abbrev pub used_among : List File → Prefix → List Place → List Place
used_among files destinations places = filter (λ p. can_be_used files destinations p.router p.len) places

-- at each length at which something can stand at some router the plan has a slice
abbrev pub HasUsed : List File → Prefix → Plan → Type 0
HasUsed files destinations plan = (router len : ℕ) → router < length files → len < LENGTHS →
    can_be_used files destinations router len ≡ true → has_slice plan len ≡ true
