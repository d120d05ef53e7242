-- What a call that takes an event answers, and the state that it leaves.
use Rattle.std.specs.Prelude.{◌≡◌, ◌≢◌, IfErr, List, OnErr, OnOk, Ok, Err, Result}
use Rattle.mw_text.specs.declared.address.Addr.{Addr}
use Rattle.ios_ast.specs.declared.file.File.{File}
use Rattle.machine_laws.specs.declared.state.Event.{Event}
use Rattle.machine_laws.specs.declared.state.EventRefused.{EventRefused}
use Rattle.machine_laws.specs.declared.state.EventRefused.TheVariants.{Memory}
use Rattle.machine_laws.specs.declared.state.State.{State}
use Rattle.machine_laws.specs.Events.{after}

-- the event is taken, or refused as it must be, or memory is short; after a refusal the state is as it was
pub record Takes (files : List File) (d : Addr) (old : State) (event : Event) (result : Result (Unit {0}) EventRefused)
    (new : State) : Type 0 where
  pub ok : OnOk result (after files d old event ≡ Ok new)
  pub refused : IfErr result (λ why. why ≢ Memory → after files d old event ≡ Err why)
  pub unchanged : OnErr result (new ≡ old)
