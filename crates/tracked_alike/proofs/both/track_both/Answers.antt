use Rattle.std.proofs.Common.{◌≤◌, ap, ◌∙◌, sym, subst, arith, length}
use Rattle.std.proofs.lemmas.Result.{on_ok_weaker}
use Rattle.route_record.specs.declared.tracked.Tracked.{Tracked}
use Rattle.net_interfaces.specs.declared.interfaces.TheConstants.{MOST_FILES}
use Rattle.net_model.specs.Kept.{Network}
use Rattle.net_parts.specs.Tracked.{IsRoomFor, united_tracked}
use Rattle.tracked_alike.specs.United.{AreUnited}
use Rattle.tracked_alike.proofs.Unions.{ascending_of, no_limit_passed, room_again, room_within, united_again}
use Rattle.tracked_alike.proofs.Unions.{united_values}
use Rattle.tracked_alike.proofs.both.track_both.Goals as goal

pub track_more-requires : goal.track_more-requires
track_more-requires c =
    let left = c.args.left.now in
    let right = c.args.right.now in
    let few : length left.tracked.clusters ≤ MOST_FILES =
    omega (arith, c.requires.left_clusters, c.routers-routers.ensures.few) in
    let few_too : length right.tracked.clusters ≤ MOST_FILES =
    omega (arith, c.requires.right_clusters, c.routers-others.ensures.few) in
    record {
      room = subst (IsRoomFor left.tracked) (sym c.tracked.ensures.value)
          (room_within left.tracked right.tracked (no_limit_passed left right c.requires.compared) few few_too);
    }

pub track_more-requires-2 : goal.track_more-requires-2
track_more-requires-2 c =
    let left = c.args.left.now in
    let right = c.args.right.now in
    let few : length left.tracked.clusters ≤ MOST_FILES =
    omega (arith, c.requires.left_clusters, c.routers-routers.ensures.few) in
    let few_too : length right.tracked.clusters ≤ MOST_FILES =
    omega (arith, c.requires.right_clusters, c.routers-others.ensures.few) in
    let room = room_within left.tracked right.tracked (no_limit_passed left right c.requires.compared) few few_too in
    let up = ascending_of left.files left.tracked c.tracked-known.ensures.tracks in
    let too = ascending_of right.files right.tracked c.tracked.ensures.tracks in
    let made = ap (λ (n : Network). n.tracked) c.in_ok-track_more.ensures.tracked
    ∙ ap (united_tracked left.tracked) c.tracked.ensures.value in
    record {
      room = subst (IsRoomFor right.tracked) (sym (c.tracked-2.ensures.value ∙ made))
          (room_again left.tracked right.tracked up too room);
    }

pub returns-clause-right : goal.returns-clause-right
returns-clause-right c =
    let left = c.args.left.now in
    let right = c.args.right.now in
    let up = ascending_of left.files left.tracked c.tracked-known.ensures.tracks in
    let too = ascending_of right.files right.tracked c.tracked.ensures.tracks in
    let made = ap (λ (n : Network). n.tracked) c.in_ok-track_more.ensures.tracked
    ∙ ap (united_tracked left.tracked) c.tracked.ensures.value in
    let known = c.tracked-2.ensures.value ∙ made in
    let same = ap (united_tracked right.tracked) known ∙ united_again left.tracked right.tracked up too ∙ sym made in
    on_ok_weaker c.track_more-2.result
    (λ h. h ∙ ap (λ (t : Tracked). let n : Network = record { files = right.files; tracked = t } in n) same)
    c.track_more-2.ensures.tracked

pub returns-clause-united : goal.returns-clause-united
returns-clause-united c =
    let left = c.args.left.now in
    let right = c.args.right.now in
    let up = ascending_of left.files left.tracked c.tracked-known.ensures.tracks in
    let too = ascending_of right.files right.tracked c.tracked.ensures.tracks in
    let made = ap (λ (n : Network). n.tracked) c.in_ok-track_more.ensures.tracked
    ∙ ap (united_tracked left.tracked) c.tracked.ensures.value in
    on_ok_weaker c.track_more-2.result
    (λ h. subst (AreUnited left.tracked right.tracked) (sym made) (united_values left.tracked right.tracked up too))
    c.track_more-2.ensures.tracked
