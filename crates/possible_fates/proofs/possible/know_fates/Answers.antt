use Rattle.possible_fates.proofs.Walks.{each_possible}
use Rattle.possible_fates.proofs.possible.know_fates.Goals as goal

pub returns : goal.returns
returns c =
    each_possible c.args.net.now.tracked c.args.net.now.files c.tracked-tracked.ensures.tracks c.routers-files.ensures.limits
