-- What a line of an OSPF block does to the process (Cisco IOS command references).
use Rattle.std.specs.Prelude.{true, List, [], ◌∷◌, ◌++◌, is_some, Some, Result, Ok, Err, if◌then◌else◌}
use Rattle.mw_text.specs.declared.words.Line.{Line}
use Rattle.ios_ast.specs.declared.ospf.Ospf.{Ospf}
use Rattle.ios_policy_reader.specs.declared.cause.Cause.{Cause}
use Rattle.ios_policy_reader.specs.declared.cause.Cause.TheVariants.{Repeated}
use Rattle.ios_policy_reader.specs.declared.heads.Row.{Row}
use Rattle.ios_policy_reader.specs.declared.heads.Row.TheVariants.{RouterId, OspfNetwork, Passive, NoPassive}
use Rattle.ios_policy_reader.specs.declared.heads.Row.TheVariants.{ReferenceBandwidth, OspfRedistribute, Originate}
use Rattle.ios_policy_reader.specs.declared.said.Tag.TheVariants.{Name, Number, Every}
use Rattle.ios_policy_reader.specs.declared.said.Said.{Said}
use Rattle.ios_policy_reader.specs.Said.{number_under, has_said}
use Rattle.ios_reader.specs.declared.draft.Seen.{Seen}
use Rattle.mw_text.specs.Reading.{following}
use Rattle.ios_reader.specs.Names.{use_under}
use Rattle.ios_reader.specs.Ospf.{network_of, into_ospf, default_of}

-- a router id has no effect, and is written once
abbrev pub once_router_id : Seen → Result Seen Cause
once_router_id seen = if seen.router_id then Err Repeated else Ok (record seen { router_id = true })

abbrev pub with_network : Line → List Said → Ospf → Ospf
with_network line said ospf = record ospf { networks = ospf.networks ++ network_of line.number said ∷ [] }

-- an interface is passive, or every interface
abbrev pub with_passive : Line → List Said → Ospf → Ospf
with_passive line said ospf =
    if has_said Every said then (record ospf { passive_default = true })
    else (record ospf { passive = ospf.passive ++ use_under Name said line ∷ [] })

-- an interface is active where every interface is passive
abbrev pub with_active : Line → List Said → Ospf → Ospf
with_active line said ospf = record ospf { active = ospf.active ++ use_under Name said line ∷ [] }

-- a reference bandwidth is written once
abbrev pub with_reference : List Said → Ospf → Seen → Result (Ospf × Seen) Cause
with_reference said ospf seen =
    if seen.reference then Err Repeated
    else Ok (record ospf { reference = number_under Number said 0 }, record seen { reference = true })

abbrev pub with_redistribution : Line → List Said → Ospf → Ospf
with_redistribution line said ospf = record ospf { redistribute = ospf.redistribute ++ into_ospf line said ∷ [] }

-- a default origin is written once
abbrev pub with_default : Line → List Said → Ospf → Result Ospf Cause
with_default line said ospf =
    if is_some ospf.default then Err Repeated
    else Ok (record ospf { default = Some (default_of line.number said) })

-- a line of an OSPF block; a row that is ignored changes nothing
abbrev pub ospf_row : Row → Line → List Said → Ospf → Seen → Result (Ospf × Seen) Cause
ospf_row RouterId line said ospf seen = following (λ next. Ok (ospf, next)) (once_router_id seen)
ospf_row OspfNetwork line said ospf seen = Ok (with_network line said ospf, seen)
ospf_row Passive line said ospf seen = Ok (with_passive line said ospf, seen)
ospf_row NoPassive line said ospf seen = Ok (with_active line said ospf, seen)
ospf_row ReferenceBandwidth line said ospf seen = with_reference said ospf seen
ospf_row OspfRedistribute line said ospf seen = Ok (with_redistribution line said ospf, seen)
ospf_row Originate line said ospf seen = following (λ next. Ok (next, seen)) (with_default line said ospf)
ospf_row _ line said ospf seen = Ok (ospf, seen)
