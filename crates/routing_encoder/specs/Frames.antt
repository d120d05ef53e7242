-- The places of a formula.
use Rattle.std.specs.Prelude.{◌≡◌, ◌*◌, ◌<◌, ◌≤◌, All, AllPairs, IfSome, List, length}
use Rattle.ios_ast.specs.declared.file.File.{File}
use Rattle.route_record.specs.declared.Plan.{Plan}
use Rattle.route_record.specs.declared.TheConstants.{LENGTHS}
use Rattle.route_record.specs.declared.tracked.Tracked.{Tracked}
use Rattle.plan_places.specs.Places.{IsBefore, places_below}
use Rattle.plan_places.specs.Plans.{lens_of}
use Rattle.slot_places.specs.Rooms.{rooms_of}
use Rattle.world_variables.specs.Unknowns.{HasWords}
use Rattle.bgp_variables.specs.Rooms.{held_room}
use Rattle.bgp_variables.specs.Shapes.{IsRoomOf}
use Rattle.routing_encoder.specs.declared.frame.Frame.{Frame}

-- each router has a place at each length of the plan, by router and then by length; the rooms of OSPF routes are those of
-- all lengths, and the room of BGP routes is that of held ones
pub record IsFrame (files : List File) (tracked : Tracked) (plan : Plan) (frame : Frame) : Type 0 where
  pub lens : frame.lens.items ≡ lens_of plan
  pub few : length frame.lens.items ≤ LENGTHS
  pub places : frame.places ≡ places_below frame.lens.items (length files)
  pub many : length frame.places ≡ length files * length frame.lens.items
  pub short : All (λ p. p.len < LENGTHS) frame.places
  pub ascend : AllPairs IsBefore frame.places
  pub rooms : frame.rooms ≡ rooms_of files frame.destinations
  pub metrics : All (λ o. IfSome o (λ room. HasWords room.metric)) frame.rooms
  pub bgp : frame.bgp ≡ held_room tracked files
  pub bgp_room : IsRoomOf tracked frame.bgp
