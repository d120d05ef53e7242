use Rattle.std.proofs.Common.{◌≡◌, drop}
use Rattle.net_refusals.specs.Refusals.{first_from}
use Rattle.net_refusals.proofs.refusals.first_broken.Given as goal

-- the files that are left decide
abbrev pub invariant-loop-at : goal.invariant-loop-at
invariant-loop-at l =
    first_from l.cause l.files 0 l.files ≡ first_from l.cause l.files l.at (drop l.at l.files)
