-- The frame of a plan.
use Rattle.std.proofs.Common.{◌≡◌, ◌*◌, ◌<◌, ◌≤◌, List, length, sym, ap, subst, ◌∙◌}
use Rattle.std.specs.Prelude.{All, AllPairs, IfSome}
use Rattle.ios_ast.specs.declared.file.File.{File}
use Rattle.route_record.specs.declared.Plan.{Plan}
use Rattle.route_record.specs.declared.TheConstants.{LENGTHS}
use Rattle.route_record.specs.declared.tracked.Tracked.{Tracked}
use Rattle.plan_places.specs.declared.places.Place.{Place}
use Rattle.plan_places.specs.Places.{IsBefore, places_below, places_of}
use Rattle.plan_places.specs.Plans.{lens_of}
use Rattle.plan_places.proofs.PlaceSteps.{lens_few, places-length}
use Rattle.slot_places.specs.Rooms.{rooms_of}
use Rattle.slot_places.proofs.PlaceLaws.{lens-ascend, places-ascend}
use Rattle.world_variables.specs.Unknowns.{HasWords}
use Rattle.world_variables.proofs.DecodingSteps.{places_short}
use Rattle.bgp_variables.specs.Rooms.{held_room}
use Rattle.bgp_variables.specs.Shapes.{IsRoomOf}
use Rattle.routing_encoder.specs.declared.frame.Frame.{Frame}
use Rattle.routing_encoder.specs.Frames.{IsFrame}

-- what stands at the places of a plan is a frame
pub frame_is : (files : List File) (tracked : Tracked) (plan : Plan) (frame : Frame) →
    frame.lens.items ≡ lens_of plan → frame.places ≡ places_of plan (length files) →
    frame.rooms ≡ rooms_of files frame.destinations → All (λ o. IfSome o (λ room. HasWords room.metric)) frame.rooms →
    frame.bgp ≡ held_room tracked files → IsRoomOf tracked frame.bgp → IsFrame files tracked plan frame
frame_is files tracked plan frame lens places rooms metrics bgp room = record {
  lens = lens;
  few = subst (λ ls. length ls ≤ LENGTHS) (sym lens) (lens_few plan);
  places = places ∙ ap (λ ls. places_below ls (length files)) (sym lens);
  many = ap length places ∙ places-length (lens_of plan) (length files)
      ∙ ap (λ ls. length files * length ls) (sym lens);
  short = subst (All (λ (p : Place). p.len < LENGTHS)) (sym places) (places_short plan (length files));
  ascend = subst (AllPairs IsBefore) (sym places)
      (places-ascend (lens_of plan) (length files) (lens-ascend plan LENGTHS));
  rooms = rooms;
  metrics = metrics;
  bgp = bgp;
  bgp_room = room;
}
