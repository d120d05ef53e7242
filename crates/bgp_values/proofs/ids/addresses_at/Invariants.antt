use Rattle.std.proofs.Common.{◌≡◌, ◌+◌, ◌-◌, ◌*◌, ◌++◌}
use Rattle.term_store.specs.Terms.{truth}
use Rattle.bgp_variables.specs.Environments.{addresses_from}
use Rattle.bgp_values.proofs.ids.addresses_at.Given as goal

-- what is there already, and what the variables from here on say
abbrev pub invariant-loop-i : goal.invariant-loop-i
invariant-loop-i l =
    l.made.items ++ addresses_from (l.count - l.i) (truth l.values) (l.from + 32 * l.i)
    ≡ addresses_from l.count (truth l.values) l.from
