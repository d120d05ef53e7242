use Rattle.std.proofs.Common.{◌≡◌, ◌++◌, drop}
use Rattle.path_rebuild.proofs.Announced.{made_from}
use Rattle.path_rebuild.proofs.environment.add_of_end.Given as goal

-- what is there already, and what the shapes from here on give
abbrev pub invariant-loop-len : goal.invariant-loop-len
invariant-loop-len l =
    l.out.items ++ made_from l.tracked l.end l.len (drop l.len l.shapes)
    ≡ l.initial.out.items ++ made_from l.tracked l.end 0 l.shapes
