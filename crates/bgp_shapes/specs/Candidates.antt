-- The candidates of the decision process by their shapes (RFC 4271, section 9.1.2). A next hop is resolved by its
-- number alone, and local routes look at no BGP route of their slot.
use Rattle.std.specs.Prelude.{ℕ, ◌-◌, ◌^◌, ◌==◌, ◌&&◌, Bool, false, not, List, [], ◌++◌, filter, map}
use Rattle.std.specs.Prelude.{slice_get, Option, None, option_and_then, option_map, if◌then◌else◌}
use Rattle.std.specs.List.{enumerate_from, filter_map, find}
use Rattle.std.specs.Option.{option_map_or}
use Rattle.mw_text.specs.declared.address.Addr.{Addr}
use Rattle.mw_text.specs.declared.address.Prefix.{Prefix}
use Rattle.ios_ast.specs.declared.bgp.Bgp.{Bgp}
use Rattle.ios_ast.specs.declared.file.File.{File}
use Rattle.ios_ast.specs.Deciding.{carries}
use Rattle.route_record.specs.declared.Announcement.{Announcement}
use Rattle.route_record.specs.declared.Environment.{Environment}
use Rattle.route_record.specs.declared.Failures.{Failures}
use Rattle.route_record.specs.declared.OspfRec.{OspfRec}
use Rattle.route_record.specs.declared.RibEntry.{RibEntry}
use Rattle.route_record.specs.declared.Slot.{Slot}
use Rattle.route_record.specs.declared.Tables.{Tables}
use Rattle.route_record.specs.declared.tracked.Tracked.{Tracked}
use Rattle.route_record.specs.Origins.{origin_code}
use Rattle.route_record.specs.Places.{slot_at}
use Rattle.net_parts.specs.declared.sessions.Far.{Far}
use Rattle.net_parts.specs.declared.sessions.Far.TheVariants.{Outside, Inside}
use Rattle.net_parts.specs.declared.sessions.SessionEnd.{SessionEnd}
use Rattle.net_parts.specs.Decisions.{Candidate, Key, peer_identifier}
use Rattle.net_parts.specs.Exports.{router_id}
use Rattle.net_parts.specs.Origins.{local_routes}
use Rattle.net_parts.specs.Resolution.{resolved, session_up}
use Rattle.net_parts.specs.Sessions.{ends_of, neighbour_of}
use Rattle.route_shapes.specs.Bgp.{BgpShape, bgp_shape}
use Rattle.route_shapes.specs.Shapes.{PathShape, path_shape}
use Rattle.bgp_shapes.specs.Exporting.{shape_exported}
use Rattle.bgp_shapes.specs.Importing.{shape_imported}
use Rattle.bgp_shapes.specs.Messages.{lacks_address}

-- ---- candidates

pub record ShapeCandidate : Type 0 where
  pub rec : BgpShape
  pub external : Bool
  pub cost : ℕ
  pub peer_id : ℕ

abbrev pub candidate_shape : Tracked → Candidate → ShapeCandidate
candidate_shape tracked c = record {
  rec = bgp_shape tracked c.rec;
  external = c.external;
  cost = c.cost;
  peer_id = c.peer_id.0;
}

-- an address that may be missing, and another number where it is
abbrev pub address_or : ℕ → ℕ → ℕ
address_or n other = if lacks_address n then other else n - 2 ^ 32

-- what the steps of the decision process compare of a candidate
abbrev pub shape_key : ShapeCandidate → Key
shape_key c = record {
  weight = c.rec.preferences.weight;
  local_pref = c.rec.preferences.local_pref;
  local = lacks_address c.rec.from;
  len = c.rec.path.len;
  origin = c.rec.preferences.origin;
  first = c.rec.path.first;
  med = c.rec.preferences.med;
  external = c.external;
  cost = c.cost;
  id = address_or c.rec.originator c.peer_id;
  clusters = c.rec.cluster_len;
  address = address_or c.rec.from 0;
}

-- ---- slots and environments

-- a slot whose BGP route is known by its shape
pub record ShapeSlot : Type 0 where
  pub ospf : Option OspfRec
  pub bgp : Option BgpShape
  pub rib : Option RibEntry

abbrev pub slot_shape : Tracked → Slot → ShapeSlot
slot_shape tracked slot = record { ospf = slot.ospf; bgp = option_map (bgp_shape tracked) slot.bgp; rib = slot.rib }

-- the slots of all routers for a prefix of that length
abbrev pub slots_shape : Tracked → Tables → ℕ → ℕ → Option ShapeSlot
slots_shape tracked tables len router = option_map (slot_shape tracked) (slot_at tables router len)

-- what an external peer announces, by the shapes of its lists
pub record ShapeAnnouncement : Type 0 where
  pub end : ℕ
  pub len : ℕ
  pub path : PathShape
  pub med : ℕ
  pub origin : ℕ
  pub communities : List Bool

abbrev pub announcement_shape : Tracked → Announcement → ShapeAnnouncement
announcement_shape tracked a = record {
  end = a.end;
  len = a.len;
  path = path_shape tracked.numbers a.path;
  med = a.med;
  origin = origin_code a.origin;
  communities = map (carries a.communities) tracked.communities;
}

-- an environment whose announcements are known so
pub record ShapeEnvironment : Type 0 where
  pub ids : List Addr
  pub announced : List ShapeAnnouncement

abbrev pub environment_shape : Tracked → Environment → ShapeEnvironment
environment_shape tracked environment = record {
  ids = environment.ids;
  announced = map (announcement_shape tracked) environment.announced;
}

-- what an external peer at that address announces, as a message
abbrev pub shape_announced : Tracked → Addr → ShapeAnnouncement → BgpShape
shape_announced tracked peer a = record {
  preferences = record { weight = 0; local_pref = 0; med = a.med; origin = a.origin };
  path = a.path;
  communities = a.communities;
  next_hop = peer.0;
  originator = 0;
  from = 0;
  cluster_len = 0;
  clusters = map (λ a. false) tracked.clusters;
}

-- ---- the candidates of a router, where each router has that slot for the prefix

-- the message that arrives over the session of the end at that place
unfoldable pub shape_arriving : Tracked → List File → ShapeEnvironment → (ℕ → Option ShapeSlot) → Prefix → ℕ →
    SessionEnd → Option BgpShape
shape_arriving tracked files environment slots p at end = by_far end.far where
  by_far : Far → Option BgpShape
  by_far Outside =
      option_and_then (λ neighbour. option_map (shape_announced tracked neighbour.addr)
      (find (λ a. (a.end == at) && (a.len == p.len)) environment.announced)) (neighbour_of files end)
  by_far (Inside far_at) =
      option_and_then (λ far. option_and_then (shape_exported tracked files far p)
      (option_and_then (λ slot. slot.bgp) (slots far.router))) (slice_get (ends_of files) far_at)

-- the candidate of a message that arrived over the session of the end at that place
abbrev pub shape_learnt : Tracked → List File → Failures → List Addr → Prefix → ℕ → SessionEnd → Option BgpShape →
    Option ShapeCandidate
shape_learnt tracked files failures ids p at end message =
    if session_up files failures end
    then option_and_then (λ rec. option_map (λ cost. record {
      rec = rec;
      external = not end.internal;
      cost = cost;
      peer_id = (peer_identifier files ids at end).0;
    }) (resolved files failures end.router (record { 0 = rec.next_hop })))
    (option_and_then (shape_imported tracked files end p) message)
    else None

abbrev pub shape_local : List File → ℕ → BgpShape → ShapeCandidate
shape_local files router rec = record { rec = rec; external = false; cost = 0; peer_id = (router_id files router).0 }

-- the local routes of a slot, which rest on its OSPF route and its entry
abbrev pub shape_local_routes : Tracked → List File → ℕ → File → Bgp → Prefix → ShapeSlot → List BgpShape
shape_local_routes tracked files router file process p slot =
    map (bgp_shape tracked)
    (local_routes files router file process p (record { ospf = slot.ospf; bgp = None; rib = slot.rib }))

-- the candidates of some local routes and of the messages that arrived at the ends
abbrev pub shape_candidates_of : Tracked → List File → Failures → List Addr → ℕ → Prefix → List BgpShape →
    (ℕ → SessionEnd → Option BgpShape) → List ShapeCandidate
shape_candidates_of tracked files failures ids router p own arrived =
    map (shape_local files router) own
    ++ filter_map (λ (e : ℕ × SessionEnd). shape_learnt tracked files failures ids p e.0 e.1 (arrived e.0 e.1))
    (filter (λ e. e.1.router == router) (enumerate_from 0 (ends_of files)))

unfoldable pub shape_candidates : Tracked → List File → Failures → ShapeEnvironment → (ℕ → Option ShapeSlot) → ℕ →
    File → Bgp → Prefix → List ShapeCandidate
shape_candidates tracked files failures environment slots router file process p =
    shape_candidates_of tracked files failures environment.ids router p
    (option_map_or (shape_local_routes tracked files router file process p) (slots router) [])
    (shape_arriving tracked files environment slots p)
