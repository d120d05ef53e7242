use Rattle.std.proofs.Common.{◌≡◌, ◌∙◌, Option, ap, subst, sym}
use Rattle.std.specs.Prelude.{IfSome, option_map}
use Rattle.std.specs.Option.{option_copied}
use Rattle.route_record.specs.declared.tracked.Tracked.{Tracked}
use Rattle.sym_policy.specs.Held.{bgp_of}
use Rattle.term_store.specs.Reading.{Gives}
use Rattle.bgp_variables.specs.declared.rooms.BgpRoom.{BgpRoom}
use Rattle.bgp_variables.specs.Brought.{speaker_at}
use Rattle.bgp_variables.specs.Rooms.{bgp_room}
use Rattle.bgp_variables.specs.Shapes.{IsRoomOf, bgp_from}
use Rattle.bgp_variables.proofs.RoomSteps.{room_held}
use Rattle.routing_encoder.proofs.routes.open_route.Goals as goal

pub open_bgp-requires : goal.open_bgp-requires
open_bgp-requires c =
    let net = c.args.net.now in
    let p = c.args.p in
    let room : option_copied c.room_at-room.result ≡ bgp_room net.tracked net.files p.router p.len =
    c.room_at-room.ensures
    ∙ ap (λ (full : BgpRoom). option_map (λ process. full) (speaker_at net.files p.router p.len)) c.requires.full in
    subst (λ (t : Tracked). IfSome (option_copied c.room_at-room.result) (IsRoomOf t)) (sym c.tracked.ensures.value)
    (subst (λ (o : Option BgpRoom). IfSome o (IsRoomOf net.tracked)) (sym room)
    (room_held net.tracked net.files p.router p.len))

pub returns-clause-value : goal.returns-clause-value
returns-clause-value c =
    let net = c.args.net.now in
    let p = c.args.p in
    let room : option_copied c.room_at-room.result ≡ bgp_room net.tracked net.files p.router p.len =
    c.room_at-room.ensures
    ∙ ap (λ (full : BgpRoom). option_map (λ process. full) (speaker_at net.files p.router p.len)) c.requires.full in
    subst (λ (o : Option BgpRoom). Gives c.open_bgp.new.terms c.open_bgp.result (λ w r. bgp_of w r
    ≡ bgp_from o w.variable c.args.terms.now.vars)) room c.open_bgp.ensures.value
