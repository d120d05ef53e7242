use Rattle.std.proofs.Common.{◌≡◌, map}
use Rattle.std.specs.List.{range_with_len}
use Rattle.proto_ospf.specs.Rounds.{receiver}
use Rattle.proto_ospf.proofs.states.receivers.Given as goal

-- those so far are the first
abbrev pub invariant-loop-router : goal.invariant-loop-router
invariant-loop-router l = l.routers-inside.items.items ≡ map (receiver l.net.files l.failures) (range_with_len 0 l.router)
