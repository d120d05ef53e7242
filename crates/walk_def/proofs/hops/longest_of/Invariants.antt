use Rattle.std.proofs.Common.{◌≡◌, ◌-◌}
use Rattle.question_lang.specs.Hops.{longest_below}
use Rattle.walk_def.proofs.hops.longest_of.Given as goal

-- the lengths that are left decide
abbrev pub invariant-loop-shorter : goal.invariant-loop-shorter
invariant-loop-shorter l = longest_below l.tables l.router 33 ≡ longest_below l.tables l.router (33 - l.shorter)
