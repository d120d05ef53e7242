use Rattle.std.proofs.Common.{◌≡◌, ◌++◌, drop}
use Rattle.net_interfaces.specs.Interfaces.{addressed_from}
use Rattle.net_interfaces.proofs.interfaces.add_router.Given as goal

-- the interfaces so far and those that are left are all of the router
abbrev pub invariant-loop-at : goal.invariant-loop-at
invariant-loop-at l =
    l.out-inside.items.items ++ addressed_from l.router l.at (drop l.at l.interfaces) ≡ l.fn.out
    ++ addressed_from l.router 0 l.interfaces
