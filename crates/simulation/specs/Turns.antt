-- Events that come by themselves, one after another.
use Rattle.std.specs.Prelude.{ℕ, zero, suc, List, Option, Some, None, option_map, Ok, Result}
use Rattle.mw_text.specs.declared.address.Addr.{Addr}
use Rattle.mw_text.specs.Reading.{following}
use Rattle.ios_ast.specs.declared.file.File.{File}
use Rattle.machine_laws.specs.declared.state.EventRefused.{EventRefused}
use Rattle.machine_laws.specs.declared.state.State.{State}
use Rattle.machine_laws.specs.Events.{after}
use Rattle.machine_laws.specs.Quiet.{next_event}

-- what the event that comes next makes of a state. None where none does: the state is quiet
abbrev pub turn : List File → Addr → State → Option (Result State EventRefused)
turn files d s = option_map (after files d s) (next_event files d s)

-- the event that comes next is taken again and again, until so many were taken or none comes
abbrev pub after_turn : (State → Result State EventRefused) → State → Option (Result State EventRefused)
    → Result State EventRefused
after_turn others s None = Ok s
after_turn others s (Some next) = following others next

unfoldable pub turned : List File → Addr → ℕ → State → Result State EventRefused
turned files d zero s = Ok s
turned files d (suc n) s = after_turn (turned files d n) s (turn files d s)
