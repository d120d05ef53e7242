use Rattle.std.proofs.Common.{◌≡◌, drop}
use Rattle.possible_fates.specs.Putting.{left_at, put_all}
use Rattle.possible_fates.proofs.possible.put_leaving.Given as goal

-- the addresses that are left give the rest
abbrev pub invariant-loop-a : goal.invariant-loop-a
invariant-loop-a l =
    put_all l.out (left_at l.name (drop l.a-index l.addresses)) ≡ put_all l.fn.out (left_at l.name l.addresses)
