use Rattle.std.proofs.Common.{◌≡◌, drop}
use Rattle.possible_fates.specs.Putting.{fates_from, put_all}
use Rattle.possible_fates.proofs.possible.put_routers.Given as goal

-- the routers that are left give the rest
abbrev pub invariant-loop-router : goal.invariant-loop-router
invariant-loop-router l =
    put_all l.out (fates_from l.net.files l.router (drop l.router l.files))
    ≡ put_all l.fn.out (fates_from l.net.files 0 l.files)
