use Rattle.std.proofs.Common.{◌≡◌, ◌-◌, length}
use Rattle.std.specs.Prelude.{position}
use Rattle.std.specs.List.{position_from, range_with_len}
use Rattle.machine_laws.specs.Quiet.{is_unsettled_at}
use Rattle.machine_decisions.proofs.settled.first_unsettled.Given as goal

-- the first of the places that are left is the first of all
abbrev pub invariant-loop-place : goal.invariant-loop-place
invariant-loop-place l =
    position_from (is_unsettled_at l.net.files l.d l.state) l.place
    (range_with_len l.place (length l.state.tables.slots - l.place))
    ≡ position (is_unsettled_at l.net.files l.d l.state) (range_with_len 0 (length l.state.tables.slots))
