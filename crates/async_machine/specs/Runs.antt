-- What contracts see of a machine.
use Rattle.mw_text.specs.declared.address.Addr.{Addr}
use Rattle.net_model.specs.Kept.{Network}
use Rattle.machine_laws.specs.declared.state.State.{State}

-- a network, the destination whose prefixes it routes, and the state of its messages
pub record Run : Type 0 where
  pub net : Network
  pub destination : Addr
  pub state : State
