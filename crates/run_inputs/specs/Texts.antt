-- The lines that are printed.
use Rattle.std.specs.Prelude.{ℕ, ◌++◌, ◌∷◌, [], List, codes}
use Rattle.std.specs.Fmt.{decimal}
use Rattle.ios_policy_reader.specs.declared.cause.Cause.{Cause}
use Rattle.ios_policy_reader.specs.declared.cause.Cause.TheVariants.{UnknownCommand, BadWord, Repeated}
use Rattle.ios_policy_reader.specs.declared.cause.Cause.TheVariants.{OutOfPlace, Limit, NoHostname, UnknownRouter}
use Rattle.ios_policy_reader.specs.declared.cause.Cause.TheVariants.{UnknownPeer, TooManyQuestions, Undefined, Memory}
use Rattle.ios_policy_reader.specs.declared.cause.Refused.{Refused}
use Rattle.net_refusals.specs.declared.refusals.NetCause.{NetCause}
use Rattle.net_refusals.specs.declared.refusals.NetCause.TheVariants as net
use Rattle.net_refusals.specs.declared.refusals.NetCause.TheVariants.{SameName, SameAddress, SubnetClash}
use Rattle.net_refusals.specs.declared.refusals.NetCause.TheVariants.{NextHopNotConnected, ExternalInternalPeer}
use Rattle.net_refusals.specs.declared.refusals.NetCause.TheVariants.{SecondArea, NetLimit}
use Rattle.cex_json.specs.declared.refused.CexRefused.{CexRefused}
use Rattle.cex_json.specs.declared.refused.CexRefused.TheVariants as cex
use Rattle.cex_json.specs.declared.refused.CexRefused.TheVariants.{NotJson, Field}
use Rattle.machine_laws.specs.declared.state.EventRefused.{EventRefused}
use Rattle.machine_laws.specs.declared.state.EventRefused.TheVariants as event
use Rattle.machine_laws.specs.declared.state.EventRefused.TheVariants.{NothingToDeliver, UnknownName, AlreadySo}
use Rattle.simulation.specs.declared.causes.SimulationCause.{SimulationCause}
use Rattle.simulation.specs.declared.causes.SimulationCause.TheVariants as simulation
use Rattle.simulation.specs.declared.causes.SimulationCause.TheVariants.{Line, Event}
use Rattle.simulation.specs.declared.causes.SimulationRefused.{SimulationRefused}

-- the line feed
abbrev pub newline : List ℕ
newline = 10 ∷ []

-- a cause by its number and its name
abbrev pub cause_text : Cause → List ℕ
cause_text UnknownCommand = codes "1 UnknownCommand"
cause_text (BadWord word) = codes "2 BadWord " ++ decimal word
cause_text Repeated = codes "4 Repeated"
cause_text OutOfPlace = codes "5 OutOfPlace"
cause_text Limit = codes "6 Limit"
cause_text Undefined = codes "7 Undefined"
cause_text UnknownRouter = codes "15 UnknownRouter"
cause_text UnknownPeer = codes "16 UnknownPeer"
cause_text TooManyQuestions = codes "17 TooManyQuestions"
cause_text NoHostname = codes "24 NoHostname"
cause_text Memory = []

-- a rule of networks by its number and its name
abbrev pub net_cause_text : NetCause → List ℕ
net_cause_text net.Undefined = codes "7 Undefined"
net_cause_text SameName = codes "8 SameName"
net_cause_text SameAddress = codes "9 SameAddress"
net_cause_text SubnetClash = codes "10 SubnetClash"
net_cause_text NextHopNotConnected = codes "11 NextHopNotConnected"
net_cause_text ExternalInternalPeer = codes "12 ExternalInternalPeer"
net_cause_text SecondArea = codes "13 SecondArea"
net_cause_text NetLimit = codes "14 NetLimit"
net_cause_text net.Memory = []

-- refused FILE:LINE NUMBER CAUSE
abbrev pub refused_text : List ℕ → ℕ → List ℕ → List ℕ
refused_text name line cause = codes "refused " ++ name ++ codes ":" ++ decimal line ++ codes " " ++ cause ++ newline

-- a file that is refused at a line
abbrev pub refusal : List ℕ → Refused → List ℕ
refusal name refused = refused_text name refused.line (cause_text refused.cause)

-- what is wrong with a counterexample
abbrev pub cex_cause_text : CexRefused → List ℕ
cex_cause_text NotJson = codes "18 NotJson"
cex_cause_text (Field path) = codes "19 Field " ++ path
cex_cause_text cex.Memory = []

-- a counterexample is refused at its first line
abbrev pub cex_refusal : List ℕ → CexRefused → List ℕ
cex_refusal name why = refused_text name 1 (cex_cause_text why)

-- why an event is refused, by its number and its name
abbrev pub event_cause_text : EventRefused → List ℕ
event_cause_text NothingToDeliver = codes "21 NothingToDeliver"
event_cause_text UnknownName = codes "22 UnknownName"
event_cause_text AlreadySo = codes "23 AlreadySo"
event_cause_text event.Memory = []

-- why a line of an events file is
abbrev pub simulation_cause_text : SimulationCause → List ℕ
simulation_cause_text (Line cause) = cause_text cause
simulation_cause_text (Event why) = event_cause_text why
simulation_cause_text simulation.Memory = []

-- an events file is refused at a line
abbrev pub simulation_refusal : List ℕ → SimulationRefused → List ℕ
simulation_refusal name refused = refused_text name refused.line (simulation_cause_text refused.cause)

-- a file with more bytes than its limit
abbrev pub too_long : List ℕ → List ℕ
too_long name = refused_text name 0 (codes "25 TooLong")

-- words that are no command
abbrev pub usage_text : List ℕ
usage_text = codes "usage: mw_cli verify, check, replay, simulate or gen" ++ newline
