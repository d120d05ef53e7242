use Rattle.std.proofs.Common.{subst, sym}
use Rattle.net_parts.specs.Tracked.{IsRoomFor, TracksNet}
use Rattle.net_model.specs.Kept.{Network}
use Rattle.net_model.proofs.Tracking.{tracks_more}
use Rattle.net_model.proofs.network.Net.track_more.Goals as goal

pub invariant_of-self : goal.invariant_of-self
invariant_of-self c =
    let files = c.self.inside.routers in
    let kept = c.self.invariant in
    let room = subst (λ (n : Network). IsRoomFor n.tracked c.args.more.now) (sym c.self.view_is) c.requires.room in
    record {
      network = kept.network;
      few = kept.few;
      joined = kept.joined;
      ospf = kept.ospf;
      tracked = subst (TracksNet files) (sym c.in_ok-tracked.ensures)
          (tracks_more files c.self.inside.parts.tracked c.args.more.now kept.tracked room);
      ids = kept.ids;
    }
