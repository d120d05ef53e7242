use Rattle.std.proofs.Common.{◌≡◌, ◌++◌, drop, filter}
use Rattle.machine_laws.specs.Announcing.{is_before}
use Rattle.async_machine.proofs.announcements.add_before.Given as goal

-- those so far, with those that are left, are all
abbrev pub invariant-loop-a : goal.invariant-loop-a
invariant-loop-a l =
    l.out-inside.items.items ++ filter (is_before l.end l.len) (drop l.a-index l.announced)
    ≡ l.fn.out ++ filter (is_before l.end l.len) l.announced
