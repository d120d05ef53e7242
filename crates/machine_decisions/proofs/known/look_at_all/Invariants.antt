use Rattle.std.proofs.Common.{length}
use Rattle.machine_decisions.proofs.KnownLaws.{AreSeen}
use Rattle.machine_decisions.proofs.known.look_at_all.Given as goal

-- of the places so far what is known is so
abbrev pub invariant-loop-place : goal.invariant-loop-place
invariant-loop-place l = AreSeen l.net.files l.d l.state (length l.fn.known) l.place l.known-inside.items.items
