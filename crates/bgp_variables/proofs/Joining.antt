-- The parts of a route of new variables, put together.
use Rattle.std.proofs.Common.{◌≡◌, ℕ, ◌+◌, ◌<◌, ◌≤◌, Bool, length, Some, None, sym, ap, arith, ◌∙◌}
use Rattle.std.specs.Prelude.{if◌then◌else◌}
use Rattle.term_store.specs.declared.NodeId.{NodeId}
use Rattle.term_store.specs.Terms.{Reading, at}
use Rattle.route_record.specs.declared.tracked.Tracked.{Tracked}
use Rattle.route_shapes.specs.Bgp.{BgpShape}
use Rattle.route_shapes.specs.Shapes.{RouteShape}
use Rattle.slot_places.specs.Values.{field_width}
use Rattle.sym_policy.specs.declared.parts.SymRest.{SymRest}
use Rattle.sym_policy.specs.declared.parts.SymRoute.{SymRoute}
use Rattle.sym_policy.specs.declared.records.SymBgp.{SymBgp}
use Rattle.sym_policy.specs.declared.records.SymMapRec.{SymMapRec}
use Rattle.sym_policy.specs.Held.{bgp_end, bgp_of}
use Rattle.sym_policy.specs.Routes.{rest_end, route_at, route_end}
use Rattle.sym_policy.specs.SameNodes.{IsJoined}
use Rattle.sym_policy.proofs.SameNodes.{bgp_within, joined_within}
use Rattle.sym_bgp.specs.Joined.{rest_at, with_rest}
use Rattle.sym_bgp.proofs.JoinedRoutes.{joined_of}
use Rattle.sym_policy.specs.MapRecs.{HasTracked}
use Rattle.failed_links.proofs.Steps.{grows_grown}
use Rattle.bgp_variables.specs.declared.rooms.BgpRoom.{BgpRoom}
use Rattle.bgp_variables.specs.Parts.{HasMarksOf, HasSeenMarks, rest_from, rest_width, seen_from, seen_width}
use Rattle.bgp_variables.specs.Shapes.{IsRoomOf, bgp_from, hop_start, shape_from, shape_width, told_from}

-- the widths of the parts are that of the route
pub width_is : (room : BgpRoom) (start peer seen end : ℕ) → seen ≡ peer + seen_width room →
    end ≡ seen + rest_width room → peer ≡ start + 1 + field_width room.from → end ≡ start + (1 + shape_width room)
unfolding shape_width
width_is room start peer seen end next last first = omega (arith, first, next, last)

-- the parts of variables one behind another are the route
shape_is : (room : BgpRoom) (type1 : Bool) (v : ℕ → Bool) (from hop : ℕ) →
    hop ≡ hop_start room from →
    with_rest (seen_from room type1 v (from + field_width room.from))
    (rest_from room (told_from room.from v from) v hop) ≡ shape_from room v from
unfolding shape_from
shape_is room type1 v from hop is =
    ap (λ h. with_rest (seen_from room type1 v (from + field_width room.from))
    (rest_from room (told_from room.from v from) v h)) is

pub held_is : (room : BgpRoom) (w : Reading) (start seen rest_start : ℕ) (valid : NodeId) (route : SymRoute)
    (rest : SymRest) (rec : SymMapRec) (peer : ℕ) → IsJoined valid route rest rec → at w valid ≡ w.variable start →
    route_at w route ≡ seen_from room (at w valid) w.variable seen →
    rest_at w rest ≡ rest_from room peer w.variable rest_start →
    peer ≡ told_from room.from w.variable (start + 1) → seen ≡ start + 1 + field_width room.from →
    rest_start ≡ seen + seen_width room → bgp_of w rec.bgp ≡ bgp_from (Some room) w.variable start
held_is room w start seen rest_start valid route rest rec peer h there route_is rest_is peer_is seen_at rest_starts =
    joined_of valid route rest rec h w
    ∙ ap (λ b. if b then Some (with_rest (route_at w route) (rest_at w rest)) else None) there
    ∙ ap (λ (s : BgpShape). if w.variable start then Some s else None) shape
  where
    shape : with_rest (route_at w route) (rest_at w rest) ≡ shape_from room w.variable (start + 1)
    shape =
        ap (λ (r : RouteShape). with_rest r (rest_at w rest)) (route_is
        ∙ ap (seen_from room (at w valid) w.variable) seen_at)
        ∙ ap (with_rest (seen_from room (at w valid) w.variable (start + 1 + field_width room.from))) (rest_is
        ∙ ap (λ p. rest_from room p w.variable rest_start) peer_is)
        ∙ shape_is room (at w valid) w.variable (start + 1) rest_start (omega (arith, rest_starts, seen_at))

pub held_within : (valid : NodeId) (route : SymRoute) (rest : SymRest) (rec : SymMapRec) (n : ℕ) →
    IsJoined valid route rest rec → valid.0 < n → route_end route ≤ n →
    rest_end rest ≤ n → bgp_end rec.bgp ≤ n
held_within valid route rest rec n h valid_in route_in rest_in =
    bgp_within rec n (joined_within valid route rest rec n h valid_in route_in rest_in)

pub held_marks : (room : BgpRoom) (valid : NodeId) (route : SymRoute) (rest : SymRest) (rec : SymMapRec) →
    IsJoined valid route rest rec → HasSeenMarks room route →
    length rest.clusters.nodes.items ≡ length room.clusters → HasMarksOf room rec.bgp
held_marks room valid route rest rec h seen clusters = record {
  numbers = sym (ap length h.seen.path.numbers) ∙ seen.numbers;
  communities = sym (ap length h.seen.communities) ∙ seen.communities;
  clusters = sym (ap length h.rest.clusters) ∙ clusters;
}

pub marks_tracked : (tracked : Tracked) (room : BgpRoom) (s : SymBgp) → IsRoomOf tracked room → HasMarksOf room s →
    HasTracked tracked s
marks_tracked tracked room s is marks = record {
  numbers = marks.numbers ∙ is.1.numbers;
  communities = marks.communities ∙ is.1.communities;
  clusters = marks.clusters ∙ is.1.clusters;
}

pub ruleset open_steps = (grows_grown, held_within, held_marks)
