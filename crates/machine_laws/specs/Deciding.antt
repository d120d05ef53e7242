-- What a router decides for one prefix, by its slot and by what it last received.
use Rattle.std.specs.Prelude.{ℕ, Bool, false, List, [], ◌∷◌, Option, Some, None, option_and_then}
use Rattle.std.specs.Prelude.{if◌then◌else◌}
use Rattle.std.specs.List.{list_any}
use Rattle.std.specs.Option.{option_map_or}
use Rattle.mw_text.specs.declared.address.Prefix.{Prefix}
use Rattle.ios_ast.specs.declared.bgp.Bgp.{Bgp}
use Rattle.ios_ast.specs.declared.file.File.{File}
use Rattle.route_record.specs.declared.BgpRec.{BgpRec}
use Rattle.route_record.specs.declared.Failures.{Failures}
use Rattle.route_record.specs.declared.OspfRec.{OspfRec}
use Rattle.route_record.specs.declared.RibEntry.{RibEntry}
use Rattle.route_record.specs.declared.Slot.{Slot}
use Rattle.net_parts.specs.Decisions.{Candidate, candidates_from, survivors}
use Rattle.net_parts.specs.Entries.{entry_with}
use Rattle.net_parts.specs.Origins.{local_routes}
use Rattle.net_parts.specs.OspfRoutes.{held_from, is_own, own_origins}
use Rattle.same_routes.specs.Same.{same_rec}
use Rattle.machine_laws.specs.declared.state.State.{State}
use Rattle.machine_laws.specs.Channels.{heard}

-- the OSPF part: of the router's own origins, by its slot as it stands, and of what it last heard over its adjacencies
abbrev pub decided_ospf : List File → State → ℕ → File → Prefix → Slot → Option OspfRec
decided_ospf files s router file p slot =
    option_and_then (λ process. held_from files s.failures (λ at a. heard s.adjacencies at p.len) router
    (own_origins files s.failures router file process p slot)) file.ospf

-- the candidates for the BGP part: the router's local routes, by its slot as it stands, and what it last received
abbrev pub candidates_heard : List File → State → ℕ → File → Prefix → Slot → Bgp → List Candidate
candidates_heard files s router file p slot process =
    candidates_from files s.failures s.environment.ids (λ at end. heard s.sessions at p.len) router p
    (local_routes files router file process p slot)

abbrev pub first_route : List Candidate → Option BgpRec
first_route [] = None
first_route (c ∷ rest) = Some c.rec

abbrev pub has_route : BgpRec → Candidate → Bool
has_route held c = same_rec c.rec held

-- a route that is held stays where it is that of some candidate that is left; else the first that is left is held
abbrev pub kept : Option BgpRec → List Candidate → Option BgpRec
kept None left = first_route left
kept (Some held) left = if list_any (has_route held) left then Some held else first_route left

-- the BGP part
abbrev pub decided_bgp : List File → State → ℕ → File → Prefix → Slot → Option BgpRec
decided_bgp files s router file p slot =
    option_and_then (λ process. kept slot.bgp (survivors process.always_compare process.compare_routerid
    (candidates_heard files s router file p slot process))) file.bgp

-- the table entry, from these parts; the router's own origins are still those of the slot as it stands
abbrev pub decided_entry : List File → Failures → ℕ → File → Prefix → Slot → Option OspfRec → Option BgpRec
    → Option RibEntry
decided_entry files failures router file p slot ospf bgp =
    entry_with files failures router file p (record { ospf = ospf; bgp = bgp; rib = slot.rib })
    (option_map_or (is_own files failures router file p slot) ospf false)

abbrev pub with_entry : List File → Failures → ℕ → File → Prefix → Slot → Option OspfRec → Option BgpRec → Slot
with_entry files failures router file p slot ospf bgp = record {
  ospf = ospf;
  bgp = bgp;
  rib = decided_entry files failures router file p slot ospf bgp;
}

-- the slot that a router decides in the place of its slot
unfoldable pub decided : List File → State → ℕ → File → Prefix → Slot → Slot
decided files s router file p slot =
    with_entry files s.failures router file p slot (decided_ospf files s router file p slot)
    (decided_bgp files s router file p slot)
