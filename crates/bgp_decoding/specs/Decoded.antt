-- What values of all variables say at all prefix lengths: the slots of routers, the BGP routes that they hold, and what
-- external peers announce.
use Rattle.std.specs.Prelude.{◌≡◌, ℕ, Bool, List, Option, None, length, map, option_map, if◌then◌else◌}
use Rattle.mw_text.specs.declared.address.Addr.{Addr}
use Rattle.ios_ast.specs.declared.file.File.{File}
use Rattle.route_record.specs.declared.Failures.{Failures}
use Rattle.route_record.specs.declared.Plan.{Plan}
use Rattle.route_record.specs.declared.Slot.{Slot}
use Rattle.route_record.specs.declared.tracked.Tracked.{Tracked}
use Rattle.question_lang.specs.declared.question.Question.{Question}
use Rattle.route_shapes.specs.Bgp.{BgpShape}
use Rattle.plan_places.specs.declared.places.Place.{Place}
use Rattle.plan_places.specs.Places.{item_at}
use Rattle.plan_places.specs.Plans.{lens_of}
use Rattle.slot_places.specs.Rooms.{can_be_used, rooms_of}
use Rattle.world_variables.specs.Packets.{packet_from}
use Rattle.world_variables.specs.Worlds.{opens_from as unknowns_read_from, places_in}
use Rattle.bgp_variables.specs.Environments.{announced_from, ids_from, peers_count}
use Rattle.bgp_values.specs.Told.{as_told}
use Rattle.path_rebuild.specs.Shapes.{route_of}
use Rattle.routing_worlds.specs.Worlds.{bgps_read_from, environment_start, failures_read_from}
use Rattle.bgp_decoding.specs.declared.inside.Frame.{Frame}
use Rattle.bgp_decoding.specs.declared.inside.Inside.{Inside}
use Rattle.bgp_decoding.specs.declared.outside.Outside.{Outside}
use Rattle.bgp_decoding.specs.Placed.{full_places, thing_in}
use Rattle.bgp_decoding.specs.Slots.{slot_without}

-- ---- of what these values are

-- a network, what it tracks, a question, a plan, and values of variables
pub record Given : Type 0 where
  pub files : List File
  pub tracked : Tracked
  pub question : Question
  pub plan : Plan
  pub values : ℕ → Bool

abbrev pub destination_of : Given → Addr
destination_of g = (packet_from g.question.packets g.values 0).dst

abbrev pub failures_of : Given → Failures
failures_of g = failures_read_from g.files g.question g.values 0

-- ---- inside

-- the BGP routes of the slots at the places of the plan, and the one at a length of a router
abbrev pub told_of : Given → List (Option BgpShape)
told_of g = map (option_map as_told) (bgps_read_from g.files g.tracked g.question g.plan g.values 0)

abbrev pub told_at : Given → Place → Option BgpShape
told_at g p = thing_in (lens_of g.plan) (length g.files) (told_of g) p

-- the route that the slot at a place holds
abbrev pub held_at : Given → Place → Option BgpShape
held_at g p = if can_be_used g.files g.question.packets.dst p.router p.len then told_at g p else None

-- the other parts of the slot
abbrev pub slot_at : Given → Place → Slot
slot_at g p =
    slot_without g.files g.question.packets.dst (failures_of g) (destination_of g) p
    (item_at (places_in g.files g.plan) (unknowns_read_from g.files g.question g.plan g.values 0) p.router p.len)
    (option_map (λ s. s.from) (told_at g p))

pub record IsInside (g : Given) (inside : Inside) : Type 0 where
  pub held : map (option_map (route_of g.tracked)) inside.held.items ≡ map (held_at g) (full_places (length g.files))
  pub slots : inside.rest.slots ≡ map (slot_at g) (full_places (length g.files))
  pub end : inside.end ≡ environment_start g.files g.tracked g.question g.plan 0

-- the lengths of a plan, all places, and the rooms of routes of OSPF
pub record IsFrame (files : List File) (question : Question) (plan : Plan) (frame : Frame) : Type 0 where
  pub lens : frame.lens.items ≡ lens_of plan
  pub all : frame.all ≡ full_places (length files)
  pub rooms : frame.rooms ≡ rooms_of files question.packets.dst

-- ---- outside

-- where the variables of the environment begin
abbrev pub start_of : Given → ℕ
start_of g = environment_start g.files g.tracked g.question g.plan 0

-- what is announced at these lengths, by external end, and the one at a length over the external end of that number
abbrev pub arrived_of : Tracked → List File → List ℕ → (ℕ → Bool) → ℕ → List (Option BgpShape)
arrived_of tracked files lens v from = map (option_map as_told) (announced_from tracked files lens v from)

abbrev pub arrived_at : Tracked → List File → List ℕ → (ℕ → Bool) → ℕ → Place → Option BgpShape
arrived_at tracked files lens v from p = thing_in lens (peers_count files) (arrived_of tracked files lens v from) p

pub record IsOutside (tracked : Tracked) (files : List File) (lens : List ℕ) (v : ℕ → Bool) (from : ℕ)
    (outside : Outside) : Type 0 where
  pub ids : outside.ids.items ≡ ids_from files v from
  pub announced : map (option_map (route_of tracked)) outside.announced.items
      ≡ map (arrived_at tracked files lens v from) (full_places (peers_count files))
