use Rattle.std.proofs.Common.{◌≡◌, [], drop}
use Rattle.ios_policy_reader.specs.Edges.{read_from}
use Rattle.ios_policy_reader.proofs.tail.read_tail.Given as goal

abbrev pub invariant-loop-at : goal.invariant-loop-at
invariant-loop-at l =
    read_from l.edges l.state l.said l.at (drop l.at l.words) ≡ read_from l.edges l.from [] l.head (drop l.head l.words)
