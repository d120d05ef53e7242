-- The decision process of BGP (RFC 4271, section 9.1.2; Cisco IOS, best path selection).
use Rattle.std.specs.Prelude.{◌≡◌, ℕ, ◌+◌, ◌==◌, ◌&&◌, ◌||◌, Bool, true, false, not, List, [], ◌∷◌, ◌++◌, Any, filter}
use Rattle.std.specs.Prelude.{fold, length, map, nat_lt, slice_get, take, Option, None, MatchOption, option_and_then}
use Rattle.std.specs.Prelude.{option_map, unwrap_or, if◌then◌else◌}
use Rattle.std.specs.List.{enumerate_from, filter_map, find, list_any}
use Rattle.std.specs.Option.{option_map_or}
use Rattle.mw_text.specs.declared.address.Addr.{Addr}
use Rattle.mw_text.specs.declared.address.Prefix.{Prefix}
use Rattle.ios_ast.specs.declared.bgp.Bgp.{Bgp}
use Rattle.ios_ast.specs.declared.file.File.{File}
use Rattle.ios_ast.specs.Paths.{first_of}
use Rattle.route_record.specs.declared.BgpMsg.{BgpMsg}
use Rattle.route_record.specs.declared.BgpRec.{BgpRec}
use Rattle.route_record.specs.declared.Environment.{Environment}
use Rattle.route_record.specs.declared.Failures.{Failures}
use Rattle.route_record.specs.declared.Learnt.{Learnt}
use Rattle.route_record.specs.declared.Learnt.TheVariants.{Local, Peer}
use Rattle.route_record.specs.declared.Tables.{Tables}
use Rattle.route_record.specs.Places.{slot_at}
use Rattle.net_parts.specs.declared.sessions.Far.{Far}
use Rattle.net_parts.specs.declared.sessions.Far.TheVariants.{Outside, Inside}
use Rattle.net_parts.specs.declared.sessions.SessionEnd.{SessionEnd}
use Rattle.net_parts.specs.declared.steps.Step.{Step}
use Rattle.net_parts.specs.declared.steps.Step.TheVariants.{Weight, Preference, Origination, PathLength, Origin, Med}
use Rattle.net_parts.specs.declared.steps.Step.TheVariants.{Session, Cost, Identifier, Clusters, Address}
use Rattle.net_parts.specs.Exports.{announced_message, exported, imported, router_id}
use Rattle.route_record.specs.Origins.{origin_code}
use Rattle.net_parts.specs.Origins.{local_routes}
use Rattle.net_parts.specs.Resolution.{resolved, session_up}
use Rattle.net_parts.specs.Sessions.{ends_of, is_outside, neighbour_of}

-- a route that may be held: whether it was learnt over an external session, the cost to its next hop, and the
-- identifier of the peer from which it came, which of a local route is the router's own
pub record Candidate : Type 0 where
  pub rec : BgpRec
  pub external : Bool
  pub cost : ℕ
  pub peer_id : Addr

-- ---- what the steps compare

abbrev pub is_local : Learnt → Bool
is_local Local = true
is_local (Peer a) = false

-- the address of the peer, 0.0.0.0 of a local route
abbrev pub peer_address : Learnt → Addr
peer_address Local = record { 0 = 0 }
peer_address (Peer a) = a

-- the originator identifies a reflected route (RFC 4456, section 9)
abbrev pub identifier : Candidate → Addr
identifier c = unwrap_or c.rec.originator c.peer_id

-- all that the steps compare of a candidate
pub record Key : Type 0 where
  pub weight : ℕ
  pub local_pref : ℕ
  pub local : Bool
  pub len : ℕ
  pub origin : ℕ
  pub first : ℕ
  pub med : ℕ
  pub external : Bool
  pub cost : ℕ
  pub id : ℕ
  pub clusters : ℕ
  pub address : ℕ

-- the neighbouring AS is the first of the path
abbrev pub key_of : Candidate → Key
key_of c = record {
  weight = c.rec.weight;
  local_pref = c.rec.local_pref;
  local = is_local c.rec.from;
  len = length c.rec.path;
  origin = origin_code c.rec.origin;
  first = first_of c.rec.path;
  med = c.rec.med;
  external = c.external;
  cost = c.cost;
  id = (identifier c).0;
  clusters = length c.rec.clusters;
  address = (peer_address c.rec.from).0;
}

-- ---- the steps

-- The second of two removes the first in that step. The MED is compared within one neighbouring AS, or across all where
-- `always` says so.
abbrev pub removes : Bool → Step → Key → Key → Bool
removes always Weight c other = nat_lt c.weight other.weight
removes always Preference c other = nat_lt c.local_pref other.local_pref
removes always Origination c other = not c.local && other.local
removes always PathLength c other = nat_lt other.len c.len
removes always Origin c other = nat_lt other.origin c.origin
removes always Med c other = (always || (c.first == other.first)) && nat_lt other.med c.med
removes always Session c other = not c.external && other.external
removes always Cost c other = nat_lt other.cost c.cost
removes always Identifier c other = nat_lt other.id c.id
removes always Clusters c other = nat_lt other.clusters c.clusters
removes always Address c other = nat_lt other.address c.address

-- the steps up to the cost, and those after it
abbrev pub to_cost : List Step
to_cost = Weight ∷ Preference ∷ Origination ∷ PathLength ∷ Origin ∷ Med ∷ Session ∷ Cost ∷ []

abbrev pub after_cost : List Step
after_cost = Identifier ∷ Clusters ∷ Address ∷ []

-- what a step leaves of things that have keys: those that no other which is left removes
abbrev pub step_by : {X : Type 0} → (X → Key) → Bool → List X → Step → List X
step_by key always left s = filter (λ c. not (list_any (λ other. removes always s (key c) (key other)) left)) left

-- Identifiers are compared where the router says so, or where no external route is left. Else the oldest of these is
-- held, and a routing does not tell which that is.
abbrev pub is_compared_by : {X : Type 0} → (X → Key) → Bool → List X → Bool
is_compared_by key compare_id left = compare_id || not (list_any (λ c. (key c).external) left)

abbrev pub compared_by : {X : Type 0} → (X → Key) → Bool → Bool → List X → List X
compared_by key always compare_id left =
    if is_compared_by key compare_id left then fold (step_by key always) left after_cost else left

-- what all steps leave
abbrev pub survivors_by : {X : Type 0} → (X → Key) → Bool → Bool → List X → List X
survivors_by key always compare_id all = compared_by key always compare_id (fold (step_by key always) all to_cost)

-- the candidates that all steps leave
unfoldable pub survivors : Bool → Bool → List Candidate → List Candidate
survivors always compare_id candidates = survivors_by key_of always compare_id candidates

-- ---- the candidates

-- how many of some ends are towards external peers
abbrev pub external_count : List SessionEnd → ℕ
external_count ends = length (filter (λ end. is_outside end.far) ends)

-- the message that arrives over the session of the end at that place: the announcement of an external peer, or what the
-- far router exports
unfoldable pub arriving : List File → Environment → Tables → Prefix → ℕ → SessionEnd → Option BgpMsg
arriving files environment tables p at end = by_far end.far where
  by_far : Far → Option BgpMsg
  by_far Outside =
      option_and_then (λ neighbour. option_map (announced_message neighbour.addr)
      (find (λ a. (a.end == at) && (a.len == p.len)) environment.announced)) (neighbour_of files end)
  by_far (Inside far_at) =
      option_and_then (λ far. option_and_then (exported files far p)
      (option_and_then (λ slot. slot.bgp) (slot_at tables far.router p.len))) (slice_get (ends_of files) far_at)

-- the identifier of the peer at the far side; those of external peers are given, in the order of their ends
abbrev pub peer_identifier : List File → List Addr → ℕ → SessionEnd → Addr
peer_identifier files ids at end = by_far end.far where
  by_far : Far → Addr
  by_far Outside = unwrap_or (slice_get ids (external_count (take at (ends_of files)))) (record { 0 = 0 })
  by_far (Inside far_at) =
      option_map_or (λ far. router_id files far.router) (slice_get (ends_of files) far_at) (record { 0 = 0 })

-- a route that a router took over the session of an end is a candidate where its next hop is resolved
abbrev pub taken_candidate : List File → Failures → List Addr → ℕ → SessionEnd → BgpRec → Option Candidate
taken_candidate files failures ids at end rec =
    option_map (λ cost. record {
      rec = rec;
      external = not end.internal;
      cost = cost;
      peer_id = peer_identifier files ids at end;
    }) (resolved files failures end.router rec.next_hop)

-- what was received over the session of an end, if anything, is a candidate where moreover the session is up and the
-- router takes it
abbrev pub learnt_candidate : List File → Failures → List Addr → Prefix → ℕ → SessionEnd → Option BgpMsg
    → Option Candidate
learnt_candidate files failures ids p at end received =
    if session_up files failures end
    then option_and_then (taken_candidate files failures ids at end) (option_and_then (imported files end p) received)
    else None

abbrev pub local_candidate : List File → ℕ → BgpRec → Candidate
local_candidate files router rec = record { rec = rec; external = false; cost = 0; peer_id = router_id files router }

-- the candidates of a router for a prefix by what it last received over each of its sessions (its Adj-RIBs-In,
-- RFC 4271, section 3.2): its local routes, and then by session what it learnt
unfoldable pub candidates_from : List File → Failures → List Addr → (ℕ → SessionEnd → Option BgpMsg) → ℕ → Prefix
    → List BgpRec → List Candidate
candidates_from files failures ids received router p local =
    map (local_candidate files router) local
    ++ filter_map (λ e. learnt_candidate files failures ids p e.0 e.1 (received e.0 e.1))
    (filter (λ e. e.1.router == router) (enumerate_from 0 (ends_of files)))

-- those by the tables: the local routes are those of its own slot, and it has received what arrives
unfoldable pub candidates : List File → Failures → Environment → Tables → ℕ → File → Bgp → Prefix → List Candidate
candidates files failures environment tables router file process p =
    candidates_from files failures environment.ids (arriving files environment tables p) router p
    (option_map_or (local_routes files router file process p) (slot_at tables router p.len) [])

-- the router holds the route of some survivor, and none exactly where there is no candidate
abbrev pub IsHeld : List Candidate → List Candidate → Option BgpRec → Type 0
IsHeld candidates left held = MatchOption held (candidates ≡ []) (λ rec. Any (λ c. c.rec ≡ rec) left)

-- it is the route of one that the decision process leaves of these candidates
abbrev pub IsDecidedAmong : Bgp → List Candidate → Option BgpRec → Type 0
IsDecidedAmong process all held = IsHeld all (survivors process.always_compare process.compare_routerid all) held

unfoldable pub DecidedByBgp : List File → Failures → Environment → Tables → ℕ → File → Bgp → Prefix → Option BgpRec
    → Type 0
DecidedByBgp files failures environment tables router file process p held =
    IsDecidedAmong process (candidates files failures environment tables router file process p) held
