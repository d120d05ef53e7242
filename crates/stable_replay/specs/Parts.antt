-- The parts of a slot as the other slots of the tables want them.
use Rattle.std.specs.Prelude.{◌≡◌, ℕ, List, [], map, MatchOption, Option, Some, None, option_map}
use Rattle.std.specs.Option.{option_map_or, option_to_list}
use Rattle.mw_text.specs.declared.address.Prefix.{Prefix}
use Rattle.ios_ast.specs.declared.bgp.Bgp.{Bgp}
use Rattle.ios_ast.specs.declared.file.File.{File}
use Rattle.route_record.specs.declared.BgpRec.{BgpRec}
use Rattle.route_record.specs.declared.Environment.{Environment}
use Rattle.route_record.specs.declared.Failures.{Failures}
use Rattle.route_record.specs.declared.OspfRec.{OspfRec}
use Rattle.route_record.specs.declared.RibEntry.{RibEntry}
use Rattle.route_record.specs.declared.Slot.{Slot}
use Rattle.route_record.specs.declared.Tables.{Tables}
use Rattle.net_parts.specs.declared.sessions.SessionEnd.{SessionEnd}
use Rattle.net_parts.specs.Decisions.{Candidate, arriving, candidates, learnt_candidate, survivors}
use Rattle.proto_bgp.specs.declared.decision.Candidate.{Candidate as Decided}
use Rattle.proto_bgp.specs.Places.{candidate_at}

-- what arrives over the session of the end at a place, as a candidate
abbrev pub arriving_candidate : List File → Failures → Environment → Tables → Prefix → ℕ × SessionEnd
    → Option Candidate
arriving_candidate files failures environment tables p over =
    learnt_candidate files failures environment.ids p over.0 over.1 (arriving files environment tables p over.0 over.1)

-- ---- slots of one part alone

abbrev pub ospf_slot : Option OspfRec → Slot
ospf_slot held = record { ospf = held; bgp = None; rib = None }

abbrev pub bgp_slot : Option BgpRec → Slot
bgp_slot held = record { ospf = None; bgp = held; rib = None }

abbrev pub rib_slot : Option RibEntry → Slot
rib_slot held = record { ospf = None; bgp = None; rib = held }

-- what an equation wants, as a list of slots of the part: empty where it wants none
abbrev pub ospf_slots : Option OspfRec → List Slot
ospf_slots wanted = map (λ rec. ospf_slot (Some rec)) (option_to_list wanted)

abbrev pub rib_slots : Option RibEntry → List Slot
rib_slots wanted = map (λ entry. rib_slot (Some entry)) (option_to_list wanted)

-- the routes of the candidates that are left, each as often as it comes
abbrev pub bgp_slots : List Candidate → List Slot
bgp_slots left = map (λ c. bgp_slot (Some c.rec)) left

-- that of the candidate at a place
abbrev pub slot_left : List Decided → ℕ → Option Slot
slot_left all at = option_map (λ c. bgp_slot (Some c.rec)) (candidate_at all at)

-- the candidates that the decision process of a router leaves
abbrev pub left_by : List File → Failures → Environment → Tables → ℕ → File → Prefix → Bgp → List Candidate
left_by files failures environment tables router file p process =
    survivors process.always_compare process.compare_routerid
    (candidates files failures environment tables router file process p)

abbrev pub bgp_wanted : List File → Failures → Environment → Tables → ℕ → File → Prefix → List Slot
bgp_wanted files failures environment tables router file p =
    bgp_slots (option_map_or (left_by files failures environment tables router file p) file.bgp [])

-- what the test of an equation answers: nothing where it holds, else what it wants
abbrev pub IsTested : Type 0 → List Slot → Option (List Slot) → Type 0
IsTested Holds wanted found = MatchOption found Holds (λ listed. (Holds → ⊥) × (listed ≡ wanted))
