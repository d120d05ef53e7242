use Rattle.std.proofs.Common.{◌≡◌, drop}
use Rattle.ios_policy_reader.specs.Edges.{way_of}
use Rattle.ios_policy_reader.proofs.edges.find_way.Given as goal

abbrev pub invariant-loop-edge : goal.invariant-loop-edge
invariant-loop-edge l = way_of l.from l.said l.at l.word (drop l.edge-index l.edges)
    ≡ way_of l.from l.said l.at l.word l.edges
