use Rattle.std.proofs.Common.{subst, sym}
use Rattle.net_parts.specs.Tracked.{TracksNet}
use Rattle.net_model.proofs.Tracking.{tracks_files}
use Rattle.net_model.proofs.network.parts_of.Goals as goal

pub returns-clause-kept : goal.returns-clause-kept
returns-clause-kept c =
    let files = c.args.files.now in
    record {
      network = c.requires.network;
      few = c.requires.few;
      joined = c.in_ok-joined.ensures;
      ospf = c.in_ok-ospf.ensures;
      tracked = subst (TracksNet files) (sym c.in_ok-tracked.ensures)
          (tracks_files files c.requires.network.unrefused c.requires.few);
      ids = c.in_ok-ids.ensures;
    }
