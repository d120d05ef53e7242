use Rattle.std.proofs.Common.{◌≡◌, drop}
use Rattle.std.specs.List.{find}
use Rattle.mw_text.specs.Text.{same_text}
use Rattle.sym_policy.proofs.named.find_prefixes.Given as goal

abbrev pub invariant-loop-list : goal.invariant-loop-list
invariant-loop-list l =
    find (λ k. same_text k.name l.name) (drop l.list-index l.list-items)
    ≡ find (λ k. same_text k.name l.name) l.policies.prefix_lists
