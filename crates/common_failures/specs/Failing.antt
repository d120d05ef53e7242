-- Failed links of two networks by the pairs of their common links.
use Rattle.std.specs.Prelude.{◌↔◌, ℕ, List, Contains, filter}
use Rattle.paired_nets.specs.declared.links.LinkPair.{LinkPair}
use Rattle.route_record.specs.declared.Failures.{Failures}
use Rattle.ties_beside.specs.Count.{is_own}

-- of these links of the second network those that no pair has
abbrev pub own_failed : List LinkPair → List ℕ → List ℕ
own_failed pairs links = filter (is_own pairs) links

-- of each pair the one link is among the first network's failed ones exactly where the other is among the second's
abbrev pub FailAlike : List LinkPair → Failures → Failures → Type 0
FailAlike pairs one other =
    (pair : LinkPair) → Contains pairs pair → Contains one.links pair.one ↔ Contains other.links pair.other
