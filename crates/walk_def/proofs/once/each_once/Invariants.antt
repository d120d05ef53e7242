use Rattle.std.proofs.Common.{take}
use Rattle.walk_def.specs.Sending.{AreOnce}
use Rattle.walk_def.proofs.once.each_once.Given as goal

-- the hops so far, each once
abbrev pub invariant-loop-hop : goal.invariant-loop-hop
invariant-loop-hop l = AreOnce l.out (take l.hop-index l.all)
