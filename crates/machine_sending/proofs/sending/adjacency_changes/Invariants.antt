use Rattle.std.proofs.Common.{◌≡◌, map}
use Rattle.std.specs.Prelude.{All}
use Rattle.std.specs.List.{range_with_len}
use Rattle.machine_channels.specs.Changes.{IsSmallChange, sending}
use Rattle.machine_laws.specs.Sending.{adjacency_up_at, offered_at, offers_from}
use Rattle.machine_sending.proofs.sending.adjacency_changes.Given as goal

-- those of the places so far
abbrev pub invariant-loop-at : goal.invariant-loop-at
invariant-loop-at l =
    (l.made-inside.items.items ≡ map (sending (offers_from l.net.files l.router) (adjacency_up_at l.net.files l.state.failures)
    (offered_at l.net.files l.d l.state.tables) l.len) (range_with_len 0 l.at))
    × All (λ x. IsSmallChange x) l.made-inside.items.items
