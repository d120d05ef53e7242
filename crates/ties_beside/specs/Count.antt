-- Failed links of two networks, a common one counted once.
use Rattle.std.specs.Prelude.{ℕ, suc, ◌==◌, Bool, not, List, [], ◌∷◌, if◌then◌else◌}
use Rattle.std.specs.List.{list_any}
use Rattle.paired_nets.specs.declared.links.LinkPair.{LinkPair}
use Rattle.term_store.specs.declared.NodeId.{NodeId}

-- no pair has the second network's link of that place
abbrev pub is_own : List LinkPair → ℕ → Bool
is_own pairs at = not (list_any (λ pair. pair.other == at) pairs)

-- of the nodes of the second network's links, from that place on, those whose link no pair has
unfoldable pub own_from : List LinkPair → ℕ → List NodeId → List NodeId
own_from pairs at [] = []
own_from pairs at (id ∷ ids) =
    if is_own pairs at then id ∷ own_from pairs (suc at) ids else own_from pairs (suc at) ids
