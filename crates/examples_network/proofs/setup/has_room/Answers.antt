use Rattle.std.proofs.Common.{rules}
use Rattle.net_parts.proofs.TrackedUp.{room_by_sizes}
use Rattle.examples_network.proofs.setup.has_room.Goals as goal

pub returns : goal.returns
returns c = λ is. room_by_sizes c.args.tracked.now c.args.more.now (search rules) (search rules) (search rules)
