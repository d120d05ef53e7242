-- What contracts see of a machine, and what it keeps.
use Rattle.route_candidates.specs.Underlays.{IsUnderlay}
use Rattle.machine_decisions.specs.Touched.{AreKnown}
use Rattle.machine_laws.specs.Events.{IsReached}
use Rattle.async_machine.specs.declared.running.Machine.TheInside.{Inside}

-- some list of events leads to the state, and what the links give and what is known of decisions is kept beside it
pub record IsRunning (m : Inside) : Type 0 where
  pub reached : IsReached m.net.files m.destination m.state
  pub underlay : IsUnderlay m.net.files m.state.failures m.underlay
  pub known : AreKnown m.net.files m.destination m.state m.known
