use Rattle.std.proofs.Common.{◌≡◌}
use Rattle.mw_gen.specs.Ring.{deny_text}
use Rattle.mw_gen.proofs.deny_text.Given as goal

-- the entries of the ports so far
abbrev pub invariant-loop-port : goal.invariant-loop-port
invariant-loop-port l = l.text-inside.items.items ≡ deny_text l.port
