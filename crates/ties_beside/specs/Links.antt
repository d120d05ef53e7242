-- Links that fail in both of two networks or in neither, as terms.
use Rattle.std.specs.Prelude.{ℕ, Bool, false, not, List, get_or}
use Rattle.joined_terms.specs.Joining.{behind}
use Rattle.paired_nets.specs.declared.links.LinkPair.{LinkPair}
use Rattle.term_arith.specs.Bits.{bits}
use Rattle.term_store.specs.declared.NodeId.{NodeId}
use Rattle.term_store.specs.Terms.{Reading, differ}

-- the link at that place has failed, by these nodes; none has where there is no node
abbrev pub fails : Reading → List NodeId → ℕ → Bool
fails w down at = get_or (bits w down) at false

-- the first link of the pair and the second one, whose nodes stand at these places, have both failed or neither
abbrev pub fail_alike : Reading → List NodeId → List NodeId → List NodeId → LinkPair → Bool
fail_alike w places a b pair = not (differ (fails w a pair.one) (fails (behind places w) b pair.other))
