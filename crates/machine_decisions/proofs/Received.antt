-- What a router holds by what it last received, from lists by place.
use Rattle.std.proofs.Common.{◌≡◌, ◌∙◌, ℕ, Bool, true, false, List, map, Option, Some, None, refl, ap, sym}
use Rattle.std.specs.Prelude.{option_and_then, option_map, slice_get, if◌then◌else◌}
use Rattle.std.proofs.lemmas.Option.{slice_get-map}
use Rattle.mw_text.specs.declared.address.Addr.{Addr}
use Rattle.mw_text.specs.declared.address.Prefix.{Prefix}
use Rattle.ios_ast.specs.declared.bgp.Bgp.{Bgp}
use Rattle.ios_ast.specs.declared.file.File.{File}
use Rattle.ios_ast.specs.declared.ospf.Ospf.{Ospf}
use Rattle.route_record.specs.declared.Failures.{Failures}
use Rattle.route_record.specs.declared.OspfRec.{OspfRec}
use Rattle.route_record.specs.declared.Slot.{Slot}
use Rattle.net_parts.specs.declared.adjacencies.Adjacency.{Adjacency}
use Rattle.net_parts.specs.declared.sessions.SessionEnd.{SessionEnd}
use Rattle.net_parts.specs.Decisions.{Candidate, learnt_candidate}
use Rattle.net_parts.specs.Origins.{local_routes}
use Rattle.net_parts.specs.OspfRoutes.{held_from, own_origins}
use Rattle.net_parts.specs.Resolution.{session_up}
use Rattle.net_parts.proofs.Heard.{same_held}
use Rattle.proto_rib.specs.Taken.{local_routes_at}
use Rattle.route_candidates.specs.Heard.{heard_in}
use Rattle.route_candidates.specs.Origins.{origins_at}
use Rattle.route_candidates.proofs.OspfParts.{origins_of}
use Rattle.machine_laws.specs.declared.state.Channel.{Channel}
use Rattle.machine_laws.specs.declared.state.State.{State}
use Rattle.machine_laws.specs.Channels.{heard, last_received}
use Rattle.machine_laws.specs.Deciding.{decided_ospf}

-- over no session anything is learnt of nothing
pub nothing_learnt : (files : List File) (failures : Failures) (ids : List Addr) (p : Prefix) (at : ℕ) (end : SessionEnd) →
    learnt_candidate files failures ids p at end None ≡ None
nothing_learnt files failures ids p at end = by (session_up files failures end) where
  by : (up : Bool) → ◌≡◌ {A = Option Candidate} (if up then None else None) None
  by true = refl
  by false = refl

-- the local routes of a router by its place are those of its process
pub local_is : (files : List File) (router : ℕ) (file : File) (process : Bgp) (p : Prefix) (slot : Slot) →
    slice_get files router ≡ Some file → file.bgp ≡ Some process →
    local_routes_at files router p slot ≡ local_routes files router file process p slot
local_is files router file process p slot in_file runs = rw in_file (rw runs refl)

by_place : {M : Type 0} (f : Channel M → Option M) (o : Option (Channel M)) →
    option_and_then (λ (m : Option M). m) (option_map f o) ≡ option_and_then f o
by_place f None = refl
by_place f (Some c) = refl

told : (channels : List (Channel OspfRec)) (len at : ℕ) (a : Adjacency) →
    heard_in (map (λ c. last_received c len) channels) at a ≡ heard channels at len
told channels len at a =
    ap (option_and_then (λ (rec : Option OspfRec). rec)) (slice_get-map (λ c. last_received c len) channels at)
    ∙ by_place (λ c. last_received c len) (slice_get channels at)

-- what a router decides of OSPF, by its origins and what it heard as lists
pub ospf_is : (files : List File) (s : State) (router : ℕ) (file : File) (process : Ospf) (p : Prefix) (slot : Slot) →
    slice_get files router ≡ Some file → file.ospf ≡ Some process →
    decided_ospf files s router file p slot
    ≡ held_from files s.failures (heard_in (map (λ c. last_received c p.len) s.adjacencies)) router
    (origins_at files s.failures router p slot)
ospf_is files s router file process p slot in_file runs =
    ap (option_and_then (λ process. held_from files s.failures (λ at a. heard s.adjacencies at p.len) router
    (own_origins files s.failures router file process p slot))) runs
    ∙ (ap (held_from files s.failures (λ at a. heard s.adjacencies at p.len) router)
    (origins_of files s.failures router file process p slot in_file runs)
    ∙ same_held files s.failures (λ at a. heard s.adjacencies at p.len)
    (heard_in (map (λ c. last_received c p.len) s.adjacencies)) router (origins_at files s.failures router p slot)
    (λ at a there up. sym (told s.adjacencies p.len at a)))
