use Rattle.std.proofs.Common.{◌≡◌, map}
use Rattle.std.specs.Prelude.{All}
use Rattle.std.specs.List.{range_with_len}
use Rattle.machine_channels.specs.Changes.{IsSmallChange, sending}
use Rattle.machine_laws.specs.Sending.{arriving_at, comes_from, session_up_at}
use Rattle.machine_sending.proofs.sending.session_changes.Given as goal

-- those of the places so far
abbrev pub invariant-loop-at : goal.invariant-loop-at
invariant-loop-at l =
    (l.made-inside.items.items ≡ map (sending (comes_from l.net.files l.router) (session_up_at l.net.files l.state.failures)
    (arriving_at l.net.files l.d l.state.environment l.state.tables) l.len) (range_with_len 0 l.at))
    × All (λ x. IsSmallChange x) l.made-inside.items.items
