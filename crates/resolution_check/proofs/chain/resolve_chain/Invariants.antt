use Rattle.std.proofs.Common.{◌≡◌, ◌+◌, List, drop}
use Rattle.resolution_check.specs.declared.log.Lit.{Lit}
use Rattle.resolution_check.specs.Entries.{resolved, resolved_from}
use Rattle.resolution_check.specs.Known.{held_on}
use Rattle.resolution_check.specs.Marked.{Shows}
use Rattle.resolution_check.proofs.chain.resolve_chain.Given as goal

-- what is marked and the rest of the chain give what the whole chain gives
abbrev pub invariant-loop-i : goal.invariant-loop-i
invariant-loop-i l =
    let held = held_on l.shelf in
    (r : List Lit) × Shows l.marks r × (resolved_from held r (l.i + 1) (drop l.i l.others) ≡ resolved held l.fn.chain)
