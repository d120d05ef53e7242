use Rattle.std.proofs.Common.{◌∙◌}
use Rattle.mw_text.proofs.Lists.{item_there}
use Rattle.walk_finder.proofs.Leading.{some_none}
use Rattle.walk_finder.proofs.following.arrive.Goals as goal

pub unreachable-requires : goal.unreachable-requires
unreachable-requires c =
    let (row, found) = item_there c.args.rows.now c.args.trail.now.router c.requires.within in
    some_none row.end (c.requires.has row found) (c.end_at.ensures row found ∙ c.in-None.is)
