use Rattle.std.proofs.Common.{◌≡◌, ◌++◌}
use Rattle.net_parts.specs.Sessions.{ends_of}
use Rattle.path_rebuild.proofs.Announced.{made_of_ends}
use Rattle.path_rebuild.proofs.environment.announced.Given as goal

-- what is there already, and what the ends from here on announce
abbrev pub invariant-loop-at : goal.invariant-loop-at
invariant-loop-at l =
    l.made.items ++ made_of_ends l.net.tracked (ends_of l.net.files) l.at l.rest
    ≡ made_of_ends l.net.tracked (ends_of l.net.files) 0 l.fn.shapes
