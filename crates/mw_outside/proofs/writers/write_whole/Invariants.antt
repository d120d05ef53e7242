use Rattle.std.proofs.Common.{◌≤◌, length, take}
use Rattle.mw_outside.specs.Taken.{Takes}
use Rattle.mw_outside.proofs.writers.write_whole.Given as goal

-- so many bytes of the piece are taken
abbrev pub invariant-loop : goal.invariant-loop
invariant-loop g l =
    (l.count ≤ length l.bytes)
    × Takes (g.W.Write.contents l.initial.writer) (g.W.Write.contents l.writer) (take l.count l.bytes)
