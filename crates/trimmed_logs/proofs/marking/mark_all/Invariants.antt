use Rattle.std.proofs.Common.{◌≡◌, ◌==◌, ◌||◌, ℕ, take}
use Rattle.std.specs.List.{list_any}
use Rattle.std.specs.Ordering.{nat_cmp}
use Rattle.std.specs.BTreeSet.{contains}
use Rattle.trimmed_logs.proofs.marking.mark_all.Given as goal

-- marked so far
abbrev pub invariant-loop-id : goal.invariant-loop-id
invariant-loop-id l =
    (n : ℕ) → contains nat_cmp l.marks n
    ≡ (list_any (λ other. other == n) (take l.id-index l.chain) || contains nat_cmp l.fn.marks n)
