use Rattle.std.proofs.Common.{◌≡◌, map}
use Rattle.std.specs.Prelude.{All}
use Rattle.std.specs.List.{range_with_len}
use Rattle.machine_channels.specs.Changes.{IsSmallChange, renewal}
use Rattle.machine_laws.specs.Sending.{arriving_at, session_up_at}
use Rattle.machine_sending.proofs.renewing.session_renewals.Given as goal

-- those of the places so far
abbrev pub invariant-loop-at : goal.invariant-loop-at
invariant-loop-at l =
    (l.made-inside.items.items ≡ map (λ k. renewal (session_up_at l.net.files l.state.failures k) (session_up_at l.net.files l.failures k)
    (arriving_at l.net.files l.d l.state.environment l.state.tables k)) (range_with_len 0 l.at))
    × All (λ x. IsSmallChange x) l.made-inside.items.items
