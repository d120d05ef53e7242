use Rattle.std.proofs.Common.{◌≡◌, ◌++◌, drop, map}
use Rattle.net_parts.specs.Sessions.{end_of}
use Rattle.net_parts.proofs.sessions.all_ends.Given as goal

-- the ends so far, with those of the lines that are left, are all
abbrev pub invariant-loop-a : goal.invariant-loop-a
invariant-loop-a l =
    l.ends-inside.items.items ++ map (end_of l.addresses l.standing) (drop l.a-index l.standing)
    ≡ map (end_of l.addresses l.standing) l.standing
