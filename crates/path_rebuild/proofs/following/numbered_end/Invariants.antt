use Rattle.std.proofs.Common.{◌≡◌, ◌+◌, ◌^◌}
use Rattle.rebuilt_routes.specs.Following.{numbered_end}
use Rattle.path_rebuild.proofs.Ends.{numbered_from}
use Rattle.path_rebuild.proofs.following.numbered_end.Given as goal

-- no earlier end is the one
abbrev pub invariant-loop-at : goal.invariant-loop-at
invariant-loop-at l =
    numbered_from l.net.files l.router l.a l.at ≡ numbered_end l.net.files l.router (2 ^ 32 + l.a.0)
