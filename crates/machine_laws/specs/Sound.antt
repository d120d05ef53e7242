-- What holds of every state that events lead to.
use Rattle.std.specs.Prelude.{◌≡◌, ◌*◌, List, length}
use Rattle.mw_text.specs.declared.address.Addr.{Addr}
use Rattle.ios_ast.specs.declared.file.File.{File}
use Rattle.route_record.specs.declared.TheConstants.{LENGTHS}
use Rattle.net_parts.specs.Ospf.{adjacencies}
use Rattle.net_parts.specs.Sessions.{ends_of}
use Rattle.net_parts.specs.World.{IsEnvironment, IsFailureSet}
use Rattle.machine_laws.specs.declared.state.State.{State}
use Rattle.machine_laws.specs.Channels.{AreRight}
use Rattle.machine_laws.specs.Sending.{adjacency_up_at, arriving_at, offered_at, session_up_at}

-- a slot for each router and length; each channel that is up states what its far side sends now, and each that is down
-- has nothing; links that there are have failed, and the peers may make the announcements
pub record IsSound (files : List File) (d : Addr) (s : State) : Type 0 where
  pub slots : length s.tables.slots ≡ LENGTHS * length files
  pub sessions : AreRight (session_up_at files s.failures) (arriving_at files d s.environment s.tables)
      (length (ends_of files)) s.sessions
  pub adjacencies : AreRight (adjacency_up_at files s.failures) (offered_at files d s.tables)
      (length (adjacencies files)) s.adjacencies
  pub failures : IsFailureSet files (length s.failures.links) s.failures
  pub environment : IsEnvironment files s.environment
