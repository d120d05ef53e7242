use Rattle.proto_ospf.proofs.Staying.{same_lists}
use Rattle.proto_ospf.proofs.rounds.are_same.Goals as goal

pub returns : goal.returns
returns c = same_lists c.args.a.now c.args.b.now c.eq.result c.eq.ensures
