use Rattle.std.proofs.Common.{◌≡◌, length}
use Rattle.routing_encoder.proofs.last.last_links.Given as goal

abbrev pub invariant-loop-i : goal.invariant-loop-i
invariant-loop-i l = length l.last ≡ l.i
