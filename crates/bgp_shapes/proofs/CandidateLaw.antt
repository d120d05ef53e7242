-- The shapes of a router's candidates are the candidates by shapes.
use Rattle.std.proofs.Common.{◌≡◌, ℕ, ◌==◌, ◌&&◌, Bool, true, false, not, if◌then◌else◌, List, [], ◌∷◌, ◌++◌}
use Rattle.std.proofs.Common.{Option, Some, None, map, filter, refl, sym, ap, ◌∙◌}
use Rattle.std.specs.Prelude.{slice_get}
use Rattle.std.specs.List.{cons_option, enumerate_from, filter_map, find}
use Rattle.std.specs.Option.{option_and_then, option_map, option_map_or}
use Rattle.std.proofs.lemmas.List.{map-append}
use Rattle.mw_text.specs.declared.address.Addr.{Addr}
use Rattle.mw_text.specs.declared.address.Prefix.{Prefix}
use Rattle.ios_ast.specs.declared.bgp.Bgp.{Bgp}
use Rattle.ios_ast.specs.declared.bgp.Neighbour.{Neighbour}
use Rattle.ios_ast.specs.declared.file.File.{File}
use Rattle.route_record.specs.declared.Announcement.{Announcement}
use Rattle.route_record.specs.declared.BgpMsg.{BgpMsg}
use Rattle.route_record.specs.declared.BgpRec.{BgpRec}
use Rattle.route_record.specs.declared.Environment.{Environment}
use Rattle.route_record.specs.declared.Failures.{Failures}
use Rattle.route_record.specs.declared.Slot.{Slot}
use Rattle.route_record.specs.declared.Tables.{Tables}
use Rattle.route_record.specs.declared.tracked.Tracked.{Tracked}
use Rattle.route_record.specs.Places.{slot_at}
use Rattle.route_record.proofs.Saturated.{saturated-none}
use Rattle.net_parts.specs.declared.sessions.Far.{Far}
use Rattle.net_parts.specs.declared.sessions.Far.TheVariants.{Outside, Inside}
use Rattle.net_parts.specs.declared.sessions.SessionEnd.{SessionEnd}
use Rattle.net_parts.specs.Decisions.{Candidate, arriving, candidates, candidates_from, learnt_candidate}
use Rattle.net_parts.specs.Decisions.{local_candidate}
use Rattle.net_parts.specs.Decisions.{peer_identifier}
use Rattle.net_parts.specs.Exports.{announced_message, exported, imported}
use Rattle.net_parts.specs.Origins.{local_routes}
use Rattle.net_parts.specs.Resolution.{resolved, session_up}
use Rattle.net_parts.specs.Sessions.{ends_of, neighbour_of}
use Rattle.route_shapes.specs.Bgp.{bgp_shape}
use Rattle.bgp_shapes.specs.Candidates.{ShapeAnnouncement, announcement_shape}
use Rattle.bgp_shapes.specs.Candidates.{candidate_shape, environment_shape, shape_announced, shape_arriving}
use Rattle.bgp_shapes.specs.Candidates.{shape_candidates, shape_learnt, shape_local, shape_local_routes, slot_shape}
use Rattle.bgp_shapes.specs.Candidates.{slots_shape}
use Rattle.bgp_shapes.specs.Exporting.{shape_exported}
use Rattle.bgp_shapes.specs.Importing.{shape_imported}
use Rattle.bgp_shapes.specs.Messages.{message_shape}
use Rattle.bgp_shapes.specs.Tracking.{TracksTests}
use Rattle.bgp_shapes.proofs.ExportLaw.{exported_shape}
use Rattle.bgp_shapes.proofs.ImportLaw.{imported_shape}

-- ---- local routes

-- local routes look at no BGP route of their slot
local_unread : (files : List File) (router : ℕ) (file : File) (process : Bgp) (p : Prefix) (slot : Slot) →
    local_routes files router file process p slot
    ≡ local_routes files router file process p (record { ospf = slot.ospf; bgp = None; rib = slot.rib })
unfolding local_routes
local_unread files router file process p slot = refl

own_routes : (tracked : Tracked) (files : List File) (router : ℕ) (file : File) (process : Bgp) (p : Prefix)
    (o : Option Slot) → map (bgp_shape tracked) (option_map_or (local_routes files router file process p) o [])
    ≡ option_map_or (shape_local_routes tracked files router file process p) (option_map (slot_shape tracked) o) []
own_routes tracked files router file process p None = refl
own_routes tracked files router file process p (Some slot) =
    ap (map (bgp_shape tracked)) (local_unread files router file process p slot)

own_candidates : (tracked : Tracked) (files : List File) (router : ℕ) (own : List BgpRec) →
    map (candidate_shape tracked) (map (local_candidate files router) own)
    ≡ map (shape_local files router) (map (bgp_shape tracked) own)
own_candidates tracked files router [] = refl
own_candidates tracked files router (rec ∷ own) =
    ap (λ cs. shape_local files router (bgp_shape tracked rec) ∷ cs) (own_candidates tracked files router own)

-- ---- the message that arrives

-- the message of an announcement has the shape that the announcement's gives
pub announced_shape : (tracked : Tracked) (peer : Addr) (a : Announcement) →
    message_shape tracked (announced_message peer a) ≡ shape_announced tracked peer (announcement_shape tracked a)
announced_shape tracked peer a =
    ap (λ n. record (shape_announced tracked peer (announcement_shape tracked a)) { cluster_len = n }) saturated-none

found_shape : (tracked : Tracked) (peer : Addr) (at len : ℕ) (announced : List Announcement) →
    option_map (message_shape tracked)
    (option_map (announced_message peer) (find (λ a. (a.end == at) && (a.len == len)) announced))
    ≡ option_map (shape_announced tracked peer)
    (find (λ a. (a.end == at) && (a.len == len)) (map (announcement_shape tracked) announced))
found_shape tracked peer at len [] = refl
found_shape tracked peer at len (a ∷ rest) =
    by_test ((a.end == at) && (a.len == len)) (found_shape tracked peer at len rest)
  where
    test : ShapeAnnouncement → Bool
    test x = (x.end == at) && (x.len == len)

    here : Announcement → Bool
    here x = (x.end == at) && (x.len == len)

    by_test : (b : Bool) →
        option_map (message_shape tracked) (option_map (announced_message peer) (find here rest))
        ≡ option_map (shape_announced tracked peer) (find test (map (announcement_shape tracked) rest)) →
        option_map (message_shape tracked)
        (option_map (announced_message peer) (if b then Some a else find here rest))
        ≡ option_map (shape_announced tracked peer)
        (if b then Some (announcement_shape tracked a) else find test (map (announcement_shape tracked) rest))
    by_test true deeper = ap Some (announced_shape tracked peer a)
    by_test false deeper = deeper

from_outside : (tracked : Tracked) (at len : ℕ) (announced : List Announcement) (o : Option Neighbour) →
    option_map (message_shape tracked) (option_and_then (λ neighbour. option_map (announced_message neighbour.addr)
    (find (λ a. (a.end == at) && (a.len == len)) announced)) o)
    ≡ option_and_then (λ neighbour. option_map (shape_announced tracked neighbour.addr)
    (find (λ a. (a.end == at) && (a.len == len)) (map (announcement_shape tracked) announced))) o
from_outside tracked at len announced None = refl
from_outside tracked at len announced (Some neighbour) = found_shape tracked neighbour.addr at len announced

from_slot : (tracked : Tracked) (files : List File) (p : Prefix) (far : SessionEnd) (o : Option Slot) →
    TracksTests files tracked →
    option_map (message_shape tracked)
    (option_and_then (exported files far p) (option_and_then (λ slot. slot.bgp) o))
    ≡ option_and_then (shape_exported tracked files far p)
    (option_and_then (λ slot. slot.bgp) (option_map (slot_shape tracked) o))
from_slot tracked files p far None tracks = refl
from_slot tracked files p far (Some slot) tracks = by_route slot.bgp
  where
    by_route : (held : Option BgpRec) →
        option_map (message_shape tracked) (option_and_then (exported files far p) held)
        ≡ option_and_then (shape_exported tracked files far p) (option_map (bgp_shape tracked) held)
    by_route None = refl
    by_route (Some held) = sym (exported_shape tracked files far p held tracks)

from_inside : (tracked : Tracked) (files : List File) (tables : Tables) (p : Prefix) (o : Option SessionEnd) →
    TracksTests files tracked →
    option_map (message_shape tracked) (option_and_then (λ far. option_and_then (exported files far p)
    (option_and_then (λ slot. slot.bgp) (slot_at tables far.router p.len))) o)
    ≡ option_and_then (λ far. option_and_then (shape_exported tracked files far p)
    (option_and_then (λ slot. slot.bgp) (slots_shape tracked tables p.len far.router))) o
from_inside tracked files tables p None tracks = refl
from_inside tracked files tables p (Some far) tracks =
    from_slot tracked files p far (slot_at tables far.router p.len) tracks

-- at an end with that far side
arriving_from : (tracked : Tracked) (files : List File) (environment : Environment) (tables : Tables) (p : Prefix)
    (at : ℕ) (end : SessionEnd) → TracksTests files tracked → (far : Far) →
    option_map (message_shape tracked) (arriving files environment tables p at (record end { far = far }))
    ≡ shape_arriving tracked files (environment_shape tracked environment) (slots_shape tracked tables p.len) p at
    (record end { far = far })
unfolding arriving shape_arriving
arriving_from tracked files environment tables p at end tracks Outside =
    from_outside tracked at p.len environment.announced (neighbour_of files end)
arriving_from tracked files environment tables p at end tracks (Inside far_at) =
    from_inside tracked files tables p (slice_get (ends_of files) far_at) tracks

pub arriving_shape : (tracked : Tracked) (files : List File) (environment : Environment) (tables : Tables) (p : Prefix)
    (at : ℕ) (end : SessionEnd) → TracksTests files tracked →
    option_map (message_shape tracked) (arriving files environment tables p at end)
    ≡ shape_arriving tracked files (environment_shape tracked environment) (slots_shape tracked tables p.len) p at end
arriving_shape tracked files environment tables p at end tracks =
    arriving_from tracked files environment tables p at end tracks end.far

-- ---- what is learnt

taken_shape : (tracked : Tracked) (files : List File) (end : SessionEnd) (p : Prefix) (o : Option BgpMsg) →
    TracksTests files tracked →
    option_and_then (shape_imported tracked files end p) (option_map (message_shape tracked) o)
    ≡ option_map (bgp_shape tracked) (option_and_then (imported files end p) o)
taken_shape tracked files end p None tracks = refl
taken_shape tracked files end p (Some m) tracks = imported_shape tracked files end p m tracks

resolved_shape : (tracked : Tracked) (external : Bool) (id : Addr) (costs : Addr → Option ℕ) (o : Option BgpRec) →
    option_map (candidate_shape tracked) (option_and_then (λ rec. option_map (λ cost. record {
      rec = rec;
      external = external;
      cost = cost;
      peer_id = id;
    }) (costs rec.next_hop)) o)
    ≡ option_and_then (λ s. option_map (λ cost. record {
      rec = s;
      external = external;
      cost = cost;
      peer_id = id.0;
    }) (costs (record { 0 = s.next_hop }))) (option_map (bgp_shape tracked) o)
resolved_shape tracked external id costs None = refl
resolved_shape tracked external id costs (Some rec) = by_cost (costs rec.next_hop)
  where
    by_cost : (o : Option ℕ) → option_map (candidate_shape tracked) (option_map (λ cost. record {
      rec = rec;
      external = external;
      cost = cost;
      peer_id = id;
    }) o) ≡ option_map (λ cost. record {
      rec = bgp_shape tracked rec;
      external = external;
      cost = cost;
      peer_id = id.0;
    }) o
    by_cost None = refl
    by_cost (Some cost) = refl

where_up : {X Y : Type 0} (f : X → Y) (b : Bool) (o : Option X) (s : Option Y) → option_map f o ≡ s →
    option_map f (if b then o else None) ≡ (if b then s else None)
where_up f true o s same = same
where_up f false o s same = refl

-- the shape of what was received decides
learnt_shape : (tracked : Tracked) (files : List File) (failures : Failures) (ids : List Addr) (p : Prefix) (at : ℕ)
    (end : SessionEnd) (received : Option BgpMsg) → TracksTests files tracked →
    option_map (candidate_shape tracked) (learnt_candidate files failures ids p at end received)
    ≡ shape_learnt tracked files failures ids p at end (option_map (message_shape tracked) received)
learnt_shape tracked files failures ids p at end received tracks =
    let id = peer_identifier files ids at end in
    let costs = resolved files failures end.router in
    where_up (candidate_shape tracked) (session_up files failures end) _ _
    (resolved_shape tracked (not end.internal) id costs (option_and_then (imported files end p) received)
    ∙ ap (option_and_then (λ s. option_map (λ cost. record {
      rec = s;
      external = not end.internal;
      cost = cost;
      peer_id = id.0;
    }) (costs (record { 0 = s.next_hop }))))
    (sym (taken_shape tracked files end p received tracks)))

-- what a call gives of items, each of which a function takes to what another call gives
kept_shape : {X Y Z : Type 0} (f : Y → Z) (g : X → Option Y) (h : X → Option Z) →
    ((x : X) → option_map f (g x) ≡ h x) → (xs : List X) → map f (filter_map g xs) ≡ filter_map h xs
kept_shape f g h same [] = refl
kept_shape f g h same (x ∷ xs) = by_item (g x) (kept_shape f g h same xs)
    ∙ ap (λ o. cons_option o (filter_map h xs)) (same x)
  where
    by_item : (o : Option _) → map f (filter_map g xs) ≡ filter_map h xs →
        map f (cons_option o (filter_map g xs)) ≡ cons_option (option_map f o) (filter_map h xs)
    by_item None rest = rest
    by_item (Some y) rest = ap (λ ys. f y ∷ ys) rest

-- the candidates by the shapes of slots and of the environment
pub candidates_shape : (tracked : Tracked) (files : List File) (failures : Failures) (environment : Environment)
    (tables : Tables) (router : ℕ) (file : File) (process : Bgp) (p : Prefix) → TracksTests files tracked →
    map (candidate_shape tracked) (candidates files failures environment tables router file process p)
    ≡ shape_candidates tracked files failures (environment_shape tracked environment)
    (slots_shape tracked tables p.len) router file process p
unfolding candidates candidates_from shape_candidates
candidates_shape tracked files failures environment tables router file process p tracks =
    let own = option_map_or (local_routes files router file process p) (slot_at tables router p.len) [] in
    let ends = filter (λ e. e.1.router == router) (enumerate_from 0 (ends_of files)) in
    let received = arriving files environment tables p in
    let learnt : ℕ × SessionEnd → Option Candidate =
    λ e. learnt_candidate files failures environment.ids p e.0 e.1 (received e.0 e.1) in
    let arrived = shape_arriving tracked files (environment_shape tracked environment)
    (slots_shape tracked tables p.len) p in
    map-append (candidate_shape tracked) (map (local_candidate files router) own) (filter_map learnt ends)
    ∙ ap (λ cs. cs ++ map (candidate_shape tracked) (filter_map learnt ends))
    (own_candidates tracked files router own
    ∙ ap (map (shape_local files router))
    (own_routes tracked files router file process p (slot_at tables router p.len)))
    ∙ ap (λ cs. map (shape_local files router) (option_map_or (shape_local_routes tracked files router file process p)
    (slots_shape tracked tables p.len router) []) ++ cs)
    (kept_shape (candidate_shape tracked) learnt
    (λ (e : ℕ × SessionEnd). shape_learnt tracked files failures environment.ids p e.0 e.1 (arrived e.0 e.1))
    (λ e. learnt_shape tracked files failures environment.ids p e.0 e.1 (received e.0 e.1) tracks
    ∙ ap (shape_learnt tracked files failures environment.ids p e.0 e.1)
    (arriving_shape tracked files environment tables p e.0 e.1 tracks)) ends)
