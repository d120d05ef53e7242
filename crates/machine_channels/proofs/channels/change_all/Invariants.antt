use Rattle.machine_channels.proofs.Changing.{IsChanging}
use Rattle.machine_channels.proofs.channels.change_all.Given as goal

abbrev pub invariant-loop-at : goal.invariant-loop-at
invariant-loop-at g l = IsChanging l.fn.channels l.fn.changes l.at l.channels l.changes-inside.items.items
