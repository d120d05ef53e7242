-- The worlds and the environments that the values of variables stand for, in a network with BGP: a packet of the question's
-- set, failed links, what is open at the places of a plan, and what external peers announce.
use Rattle.std.specs.Prelude.{◌≡◌, ℕ, ◌+◌, ◌&&◌, All, Bool, true, false, IfSome, List, [], ◌∷◌, length}
use Rattle.std.specs.Prelude.{map, nat_le, slice_get, Option, Some, None, option_and_then, option_map, is_some, if◌then◌else◌}
use Rattle.std.specs.List.{find, list_all}
use Rattle.mw_text.specs.declared.address.Addr.{Addr}
use Rattle.mw_text.specs.Address.{prefix_at}
use Rattle.ios_ast.specs.declared.file.File.{File}
use Rattle.ios_ast.specs.Limits.{keeps_limits}
use Rattle.route_record.specs.declared.Environment.{Environment}
use Rattle.route_record.specs.declared.Failures.{Failures}
use Rattle.route_record.specs.declared.Plan.{Plan}
use Rattle.route_record.specs.declared.Tables.{Tables}
use Rattle.route_record.specs.declared.World.{World}
use Rattle.route_record.specs.declared.tracked.Tracked.{Tracked}
use Rattle.net_parts.specs.Sessions.{ends_of, neighbour_of}
use Rattle.net_parts.specs.Stable.{Stable}
use Rattle.net_parts.specs.Tracked.{TracksNet}
use Rattle.net_parts.specs.World.{IsEnvironment, IsFailureSet, links_of}
use Rattle.question_lang.specs.declared.question.Question.{Question}
use Rattle.question_lang.specs.Packets.{IsInSet}
use Rattle.route_shapes.specs.Bgp.{BgpShape}
use Rattle.bgp_shapes.specs.Candidates.{ShapeAnnouncement, ShapeEnvironment, environment_shape, shape_announced}
use Rattle.failed_links.specs.Failures.{downs_bits, failures_from}
use Rattle.plan_places.specs.declared.places.Place.{Place}
use Rattle.plan_places.specs.Places.{is_at}
use Rattle.plan_places.specs.Plans.{lens_of}
use Rattle.slot_places.specs.declared.rooms.Room.{Room}
use Rattle.slot_places.specs.Rooms.{room_for, rooms_of}
use Rattle.sym_rib.specs.Sources.{entry_from}
use Rattle.world_variables.specs.declared.unknowns.Unknown.{Unknown}
use Rattle.world_variables.specs.Packets.{FitsSet, is_in_set, packet_bits, packet_from}
use Rattle.world_variables.specs.Slots.{has_dynamic, unknown_at}
use Rattle.world_variables.specs.Unknowns.{HasWords, rooms_at, unknowns_bits, unknowns_width}
use Rattle.world_variables.specs.Worlds.{FitsDistance, downs_start, opens_from as unknowns_read_from, places_in, slots_start}
use Rattle.bgp_variables.specs.Environments.{announced_from, environment_bits, environment_width, ids_from}
use Rattle.bgp_variables.specs.Rooms.{bgp_rooms}
use Rattle.bgp_variables.specs.Shapes.{bgps_bits, bgps_from, bgps_width}
use Rattle.announced_places.specs.Announced.{places_among}
use Rattle.announced_places.specs.Environments.{environment_of as announced_environment, external_places, stands_at}
use Rattle.rebuilt_routes.specs.Words.{HasWordValues}
use Rattle.shape_worlds.specs.Worlds.{ShapeWorld, environment_of, rebuilt_world}
use Rattle.bgp_worlds.specs.Opens.{OpenSlot, open_at, opens_hold, shape_world_of}

-- ---- where variables begin: packet, links, what is open inside, BGP routes, the environment

abbrev pub bgps_start : List File → Question → Plan → ℕ → ℕ
bgps_start files question plan from =
    slots_start files question from
    + unknowns_width (rooms_at files question.packets.dst (places_in files plan))

abbrev pub environment_start : List File → Tracked → Question → Plan → ℕ → ℕ
environment_start files tracked question plan from =
    bgps_start files question plan from + bgps_width (bgp_rooms tracked files (places_in files plan))

-- where what stands behind all of these begins
abbrev pub worlds_end : List File → Tracked → Question → Plan → ℕ → ℕ
worlds_end files tracked question plan from =
    environment_start files tracked question plan from + environment_width tracked files (lens_of plan)

-- ---- what is open at the places

-- where a slot has no room for a route of OSPF the bit of its entry is that of the entry by BGP alone
abbrev pub dynamic_of : List File → Failures → Addr → Place → Option BgpShape → Bool
dynamic_of files failures d p bgp =
    has_dynamic (option_and_then (λ file. entry_from files failures p.router file (prefix_at d p.len)
    (option_map (λ s. s.from) bgp) None false) (slice_get files p.router))

-- what is open of a slot: a route of OSPF and the bit by variables, where that is its room
abbrev pub open_with : List File → Failures → Addr → Option Room → Place → Unknown → Option BgpShape → OpenSlot
open_with files failures d None p u bgp = record {
  unknown = record { ospf = None; dynamic = dynamic_of files failures d p bgp };
  bgp = bgp;
}
open_with files failures d (Some room) p u bgp = record { unknown = u; bgp = bgp }

unfoldable pub opens_with : List File → Question → Failures → Addr → List Place → List Unknown → List (Option BgpShape)
    → List OpenSlot
opens_with files question failures d [] us bgps = []
opens_with files question failures d (p ∷ ps) [] bgps = []
opens_with files question failures d (p ∷ ps) (u ∷ us) [] = []
opens_with files question failures d (p ∷ ps) (u ∷ us) (bgp ∷ bgps) =
    open_with files failures d (room_for files question.packets.dst p.router p.len) p u bgp
    ∷ opens_with files question failures d ps us bgps

abbrev pub bgps_read_from : List File → Tracked → Question → Plan → (ℕ → Bool) → ℕ → List (Option BgpShape)
bgps_read_from files tracked question plan v from =
    bgps_from (bgp_rooms tracked files (places_in files plan)) v (bgps_start files question plan from)

-- ---- worlds

abbrev pub failures_read_from : List File → Question → (ℕ → Bool) → ℕ → Failures
failures_read_from files question v from =
    failures_from question.failures (length (links_of files)) v (downs_start question from)

abbrev pub opens_from : List File → Tracked → Question → Plan → (ℕ → Bool) → ℕ → List OpenSlot
opens_from files tracked question plan v from =
    opens_with files question (failures_read_from files question v from) (packet_from question.packets v from).dst
    (places_in files plan) (unknowns_read_from files question plan v from)
    (bgps_read_from files tracked question plan v from)

-- what external peers announce, whole: each may at each length of the plan
abbrev pub announced_by : List File → Tracked → Question → Plan → (ℕ → Bool) → ℕ → ShapeEnvironment
announced_by files tracked question plan v from =
    announced_environment files (lens_of plan)
    (ids_from files v (environment_start files tracked question plan from))
    (announced_from tracked files (lens_of plan) v (environment_start files tracked question plan from))

unfoldable pub shape_world_from : List File → Tracked → Question → Plan → (ℕ → Bool) → ℕ → ShapeWorld
shape_world_from files tracked question plan v from =
    shape_world_of files question.packets.dst plan (packet_from question.packets v from)
    (failures_read_from files question v from) (opens_from files tracked question plan v from)
    (announced_by files tracked question plan v from)

-- the real world and the environment of these values
abbrev pub world_from : List File → Tracked → Question → Plan → (ℕ → Bool) → ℕ → World
world_from files tracked question plan v from =
    rebuilt_world tracked files (shape_world_from files tracked question plan v from)

abbrev pub environment_from : List File → Tracked → Question → Plan → (ℕ → Bool) → ℕ → Environment
environment_from files tracked question plan v from =
    environment_of tracked (shape_world_from files tracked question plan v from)

-- ---- the test

-- the packet is in its set, no more links fail than may, and what is open passes its test
unfoldable pub is_routing : List File → Tracked → Question → Plan → (ℕ → Bool) → ℕ → Bool
is_routing files tracked question plan v from =
    is_in_set question.packets (packet_from question.packets v from)
    && (nat_le (length (failures_read_from files question v from).links) question.failures
    && opens_hold tracked files question.packets.dst plan (shape_world_from files tracked question plan v from)
    (opens_from files tracked question plan v from))

-- ---- what is taken, and what is made of it

-- a network in which every number fits its field
pub record HasWordNetwork (files : List File) (tracked : Tracked) (question : Question) : Type 0 where
  pub limits : list_all keeps_limits files ≡ true
  pub tracks : TracksNet files tracked
  pub values : HasWordValues tracked files
  pub distances : (router : ℕ) (file : File) → slice_get files router ≡ Some file → All FitsDistance file.statics
  pub metrics : All (λ o. IfSome o (λ room. HasWords room.metric)) (rooms_of files question.packets.dst)
  pub packets : FitsSet question.packets

-- a packet of the question's set, an environment that the peers may make and no more failed links than may be have this
-- stable routing
pub record IsRouting (files : List File) (question : Question) (world : World) (environment : Environment) : Type 0 where
  pub packet : IsInSet question.packets world.packet
  pub environment_fits : IsEnvironment files environment
  pub failures : IsFailureSet files question.failures world.failures
  pub stable : Stable files world.packet.dst world.failures environment world.tables

-- ---- the values of the variables of a world

-- what is open inside of a slot: nothing where it has no room for a route of OSPF
abbrev pub told_at : List File → Question → Tables → Place → Unknown
told_at files question tables p =
    if is_some (room_for files question.packets.dst p.router p.len) then unknown_at tables p
    else record { ospf = None; dynamic = false }

-- the shape of the BGP route that tables have at a place
abbrev pub bgp_at : Tracked → Tables → Place → Option BgpShape
bgp_at tracked tables p = (open_at tracked tables p).bgp

-- what the external peer of an end announces at a length, as the message that arrives
abbrev pub announced_thing : Tracked → List File → List ShapeAnnouncement → Place → Option BgpShape
announced_thing tracked files announced p =
    option_and_then (λ end. option_and_then (λ neighbour. option_map (shape_announced tracked neighbour.addr)
    (find (λ a. is_at p.router p.len (stands_at a)) announced)) (neighbour_of files end))
    (slice_get (ends_of files) p.router)

abbrev pub announced_things : Tracked → List File → List ℕ → List ShapeAnnouncement → List (Option BgpShape)
announced_things tracked files lens announced =
    map (announced_thing tracked files announced) (places_among (external_places files) lens)

-- those of a world in its environment, before others
unfoldable pub world_bits : List File → Tracked → Question → Plan → World → Environment → List Bool → List Bool
world_bits files tracked question plan world environment rest =
    packet_bits question.packets world.packet
    (downs_bits question.failures (length (links_of files)) world.failures
    (unknowns_bits (rooms_at files question.packets.dst (places_in files plan))
    (map (told_at files question world.tables) (places_in files plan))
    (bgps_bits (bgp_rooms tracked files (places_in files plan)) (map (bgp_at tracked world.tables) (places_in files plan))
    (environment_bits tracked files (lens_of plan) environment.ids
    (announced_things tracked files (lens_of plan) (environment_shape tracked environment).announced) rest))))
