-- The candidate that is learnt over a session, from its route and from what it has beside it.
use Rattle.std.proofs.Common.{◌≡◌, ℕ, ◌&&◌, Bool, true, false, not, List, length, Option, Some, None, if◌then◌else◌}
use Rattle.std.proofs.Common.{refl, sym, ap, ◌∙◌, slice_get}
use Rattle.std.specs.Prelude.{IfSome, nat_le, option_and_then, option_map}
use Rattle.std.proofs.lemmas.Option.{same_Some}
use Rattle.std.proofs.lemmas.Map.Keys.{any_passes_from_place}
use Rattle.mw_text.specs.declared.address.Addr.{Addr}
use Rattle.mw_text.specs.declared.address.Prefix.{Prefix}
use Rattle.mw_text.proofs.Found.{mapped}
use Rattle.ios_ast.specs.declared.bgp.Neighbour.{Neighbour}
use Rattle.ios_ast.specs.declared.file.File.{File}
use Rattle.route_record.specs.declared.Failures.{Failures}
use Rattle.route_record.specs.declared.OspfRec.{OspfRec}
use Rattle.route_record.specs.declared.tracked.Tracked.{Tracked}
use Rattle.net_interfaces.proofs.Options.{chained, if_is}
use Rattle.net_parts.specs.declared.sessions.Far.{Far}
use Rattle.net_parts.specs.declared.sessions.Far.TheVariants.{Outside, Inside}
use Rattle.net_parts.specs.declared.sessions.SessionEnd.{SessionEnd}
use Rattle.net_parts.specs.Decisions.{peer_identifier}
use Rattle.net_parts.specs.Ospf.{is_up_at}
use Rattle.net_parts.specs.Resolution.{resolved, session_up}
use Rattle.net_parts.specs.Sessions.{ends_of, is_outside, neighbour_of}
use Rattle.route_shapes.specs.Bgp.{BgpShape}
use Rattle.bgp_shapes.specs.Candidates.{ShapeCandidate, ShapeEnvironment, ShapeSlot, shape_announced, shape_arriving}
use Rattle.bgp_shapes.specs.Candidates.{shape_learnt}
use Rattle.bgp_shapes.specs.Importing.{shape_if_short, shape_imported, shape_is_acceptable, shape_mapped_in}
use Rattle.bgp_shapes.specs.Importing.{shape_received, shape_taken_in}
use Rattle.bgp_shapes.specs.Messages.{seen_by_maps, with_seen}
use Rattle.bgp_shapes.proofs.LengthLaw.{if_then}
use Rattle.ios_ast.specs.declared.bgp.Bgp.{Bgp}
use Rattle.net_parts.specs.Exports.{most_numbers, passes_prefixes}
use Rattle.route_shapes.specs.Shapes.{RouteShape, shape_passes_paths, shape_through_map}
use Rattle.rebuilt_routes.proofs.Options.{if_true}
use Rattle.sym_policy.specs.declared.records.SymBgp.{SymBgp}
use Rattle.sym_policy.specs.Held.{internal_route}
use Rattle.sym_policy.specs.MapRecs.{HasTracked}
use Rattle.bgp_equations.specs.Equations.{has_inner}
use Rattle.bgp_equations.proofs.ExternalCost.{external_cost}

-- ---- the next hop of what an external peer announces is its address

hop_kept : (tracked : Tracked) (files : List File) (end : SessionEnd) (p : Prefix) (m : BgpShape) →
    IfSome (shape_imported tracked files end p m) (λ s. s.next_hop ≡ m.next_hop)
unfolding shape_imported
hop_kept tracked files end p m =
    if_then kept (λ file. option_and_then (λ process. option_and_then (λ neighbour.
    shape_taken_in tracked files file process neighbour end p m) (neighbour_of files end)) file.bgp)
    (λ file. if_then kept (λ process. option_and_then (λ neighbour.
    shape_taken_in tracked files file process neighbour end p m) (neighbour_of files end))
    (λ process. if_then kept (λ neighbour. shape_taken_in tracked files file process neighbour end p m)
    (λ neighbour. taken file process neighbour) (neighbour_of files end)) file.bgp) (slice_get files end.router)
  where
    kept : BgpShape → Type 0
    kept s = s.next_hop ≡ m.next_hop

    left : (neighbour : Neighbour) (r : RouteShape) →
        IfSome (shape_if_short (with_seen (shape_received neighbour end m) r)) kept
    left neighbour r =
        if_true kept (nat_le (with_seen (shape_received neighbour end m) r).path.len most_numbers)
        (Some (with_seen (shape_received neighbour end m) r)) (λ short. refl)

    taken : (file : File) (process : Bgp) (neighbour : Neighbour) →
        IfSome (shape_taken_in tracked files file process neighbour end p m) kept
    taken file process neighbour =
        if_true kept (shape_is_acceptable tracked files end.router process m
        && (passes_prefixes file.policies neighbour.prefix_in p
        && shape_passes_paths tracked file.policies neighbour.filter_in m.path))
        (shape_mapped_in tracked file neighbour end p (shape_received neighbour end m)) (λ takes.
        if_then kept (λ r. shape_if_short (with_seen (shape_received neighbour end m) r)) (left neighbour)
        (shape_through_map tracked file.policies neighbour.map_in p (not end.internal)
        (seen_by_maps (shape_received neighbour end m))))

hop_announced : (tracked : Tracked) (files : List File) (environment : ShapeEnvironment) (slots : ℕ → Option ShapeSlot)
    (p : Prefix) (at : ℕ) (end : SessionEnd) (m : BgpShape) → is_outside end.far ≡ true →
    shape_arriving tracked files environment slots p at end ≡ Some m →
    (n : Neighbour) × (neighbour_of files end ≡ Some n) × (m.next_hop ≡ n.addr.0)
unfolding shape_arriving
hop_announced tracked files environment slots p at end m outer is = by_far end.far refl outer where
  by_far : (far : Far) → end.far ≡ far → is_outside far ≡ true →
      (n : Neighbour) × (neighbour_of files end ≡ Some n) × (m.next_hop ≡ n.addr.0)
  by_far Outside far out =
      let one = chained _ (neighbour_of files end) m
      (ap (λ f. shape_arriving tracked files environment slots p at (record end { far = f })) (sym far) ∙ is) in
      let two = mapped (shape_announced tracked one.0.addr) _ m one.2 in
      (one.0, one.1, sym (ap (λ (s : BgpShape). s.next_hop) two.2))
  by_far (Inside k) far out = absurd cc

-- ---- over an external session

pub outer_with : (files : List File) (failures : Failures) (end : SessionEnd) (there valid external : Bool)
    (s : BgpShape) (cost peer : ℕ) → is_outside end.far ≡ true →
    there ≡ (valid && is_up_at files failures end.own) → cost ≡ 0 →
    ◌≡◌ {A = Option ShapeCandidate}
    (if there then Some (record { rec = s; external = external; cost = cost; peer_id = peer }) else None)
    (if session_up files failures end
    then option_map (λ s. record { rec = s; external = external; cost = 0; peer_id = peer })
    (if valid then Some s else None) else None)
unfolding session_up
outer_with files failures end there valid external s cost peer outer there_is cost_is =
    (λ i. if there_is i then Some (record { rec = s; external = external; cost = cost_is i; peer_id = peer }) else None)
    ∙ by valid (is_up_at files failures end.own)
    ∙ ap (λ b. if b then option_map (λ s. record { rec = s; external = external; cost = 0; peer_id = peer })
    (if valid then Some s else None) else None) (sym (by_far end.far refl outer))
  where
    by : (v b : Bool) → ◌≡◌ {A = Option ShapeCandidate}
        (if v && b then Some (record { rec = s; external = external; cost = 0; peer_id = peer }) else None)
        (if b then option_map (λ s. record { rec = s; external = external; cost = 0; peer_id = peer })
        (if v then Some s else None) else None)
    by true true = refl
    by true false = refl
    by false true = refl
    by false false = refl

    by_far : (far : Far) → end.far ≡ far → is_outside far ≡ true →
        session_up files failures end ≡ is_up_at files failures end.own
    by_far Outside far out = ap (λ f. session_up files failures (record end { far = f })) far
    by_far (Inside k) far out = absurd cc

-- what is learnt costs nothing
pub outer_learnt : (tracked : Tracked) (files : List File) (failures : Failures) (ids : List Addr)
    (environment : ShapeEnvironment) (slots : ℕ → Option ShapeSlot) (p : Prefix) (at : ℕ) (end : SessionEnd)
    (o : Option BgpShape) → slice_get (ends_of files) at ≡ Some end → is_outside end.far ≡ true →
    o ≡ option_and_then (shape_imported tracked files end p)
    (shape_arriving tracked files environment slots p at end) →
    ◌≡◌ {A = Option ShapeCandidate}
    (if session_up files failures end then option_map (λ s. record {
      rec = s;
      external = not end.internal;
      cost = 0;
      peer_id = (peer_identifier files ids at end).0;
    }) o else None)
    (shape_learnt tracked files failures ids p at end (shape_arriving tracked files environment slots p at end))
outer_learnt tracked files failures ids environment slots p at end o there outer is =
    ap (λ x. if session_up files failures end then option_map free x else None) is
    ∙ by_up (session_up files failures end) refl
  where
    free : BgpShape → ShapeCandidate
    free s = record {
      rec = s;
      external = not end.internal;
      cost = 0;
      peer_id = (peer_identifier files ids at end).0;
    }

    costing : BgpShape → Option ShapeCandidate
    costing s = option_map (λ cost. record {
      rec = s;
      external = not end.internal;
      cost = cost;
      peer_id = (peer_identifier files ids at end).0;
    }) (resolved files failures end.router (record { 0 = s.next_hop }))

    message : Option BgpShape
    message = shape_arriving tracked files environment slots p at end

    costs : (m s : BgpShape) → session_up files failures end ≡ true → message ≡ Some m →
        shape_imported tracked files end p m ≡ Some s → Some (free s) ≡ costing s
    costs m s up sent took =
        let from = hop_announced tracked files environment slots p at end m outer sent in
        let hop : s.next_hop ≡ from.0.addr.0 =
        if_is (λ s. s.next_hop ≡ m.next_hop) (shape_imported tracked files end p m) s
        (hop_kept tracked files end p m) took ∙ from.2 in
        sym (ap (option_map (λ cost. record {
          rec = s;
          external = not end.internal;
          cost = cost;
          peer_id = (peer_identifier files ids at end).0;
        })) (ap (λ n. resolved files failures end.router (record { 0 = n })) hop
        ∙ external_cost files failures at end from.0 there outer from.1 up))

    by_taken : session_up files failures end ≡ true → (m : BgpShape) → message ≡ Some m → (t : Option BgpShape) →
        shape_imported tracked files end p m ≡ t → option_map free t ≡ option_and_then costing t
    by_taken up m sent None took = refl
    by_taken up m sent (Some s) took = costs m s up sent took

    by_sent : session_up files failures end ≡ true → (m : Option BgpShape) → message ≡ m →
        option_map free (option_and_then (shape_imported tracked files end p) m)
        ≡ option_and_then costing (option_and_then (shape_imported tracked files end p) m)
    by_sent up None sent = refl
    by_sent up (Some m) sent = by_taken up m sent (shape_imported tracked files end p m) refl

    by_up : (b : Bool) → session_up files failures end ≡ b →
        (if b then option_map free (option_and_then (shape_imported tracked files end p) message) else None)
        ≡ (if b then option_and_then costing (option_and_then (shape_imported tracked files end p) message) else None)
    by_up true up = by_sent up message refl
    by_up false up = refl

-- ---- over a session between two routers

pub inner_with : (files : List File) (failures : Failures) (end : SessionEnd) (up there reached valid way external : Bool)
    (s : BgpShape) (r : OspfRec) (peer : ℕ) → there ≡ (valid && reached) → reached ≡ (up && way) →
    up ≡ session_up files failures end →
    (if way then Some r else None)
    ≡ option_map internal_route (resolved files failures end.router (record { 0 = s.next_hop })) →
    ◌≡◌ {A = Option ShapeCandidate}
    (if there then Some (record { rec = s; external = external; cost = r.cost; peer_id = peer }) else None)
    (if session_up files failures end then option_and_then (λ s. option_map (λ cost. record {
      rec = s;
      external = external;
      cost = cost;
      peer_id = peer;
    }) (resolved files failures end.router (record { 0 = s.next_hop }))) (if valid then Some s else None) else None)
inner_with files failures end up there reached valid way external s r peer there_is reached_is up_is way_is =
    ap (λ b. if b then made r.cost else None)
    (there_is ∙ ap (λ b. valid && b) (reached_is ∙ ap (λ b. b && way) up_is))
    ∙ by valid (session_up files failures end)
    (by_way way (resolved files failures end.router (record { 0 = s.next_hop })) way_is)
  where
    made : ℕ → Option ShapeCandidate
    made cost = Some (record { rec = s; external = external; cost = cost; peer_id = peer })

    by_way : (b : Bool) (o : Option ℕ) → (if b then Some r else None) ≡ option_map internal_route o →
        (if b then made r.cost else None)
        ≡ option_map (λ cost. record { rec = s; external = external; cost = cost; peer_id = peer }) o
    by_way true None is = absurd cc
    by_way true (Some n) is = ap (λ (x : OspfRec). made x.cost) (same_Some r (internal_route n) is)
    by_way false None is = refl
    by_way false (Some n) is = absurd cc

    by : (v b : Bool) → (if way then made r.cost else None) ≡ option_map (λ cost. record {
      rec = s;
      external = external;
      cost = cost;
      peer_id = peer;
    }) (resolved files failures end.router (record { 0 = s.next_hop })) →
        (if v && (b && way) then made r.cost else None)
        ≡ (if b then option_and_then (λ s. option_map (λ cost. record {
          rec = s;
          external = external;
          cost = cost;
          peer_id = peer;
        }) (resolved files failures end.router (record { 0 = s.next_hop }))) (if v then Some s else None) else None)
    by true true is = is
    by true false is = refl
    by false true is = refl
    by false false is = refl

pub inner_learnt : (tracked : Tracked) (files : List File) (failures : Failures) (ids : List Addr) (p : Prefix)
    (at : ℕ) (end : SessionEnd) (message o : Option BgpShape) →
    o ≡ option_and_then (shape_imported tracked files end p) message →
    ◌≡◌ {A = Option ShapeCandidate}
    (if session_up files failures end then option_and_then (λ s. option_map (λ cost. record {
      rec = s;
      external = not end.internal;
      cost = cost;
      peer_id = (peer_identifier files ids at end).0;
    }) (resolved files failures end.router (record { 0 = s.next_hop }))) o else None)
    (shape_learnt tracked files failures ids p at end message)
inner_learnt tracked files failures ids p at end message o is =
    (λ i. if session_up files failures end then option_and_then (λ s. option_map (λ cost. record {
      rec = s;
      external = not end.internal;
      cost = cost;
      peer_id = (peer_identifier files ids at end).0;
    }) (resolved files failures end.router (record { 0 = s.next_hop }))) (is i) else None)

-- such a session joins two routers
pub inner_there : (files : List File) (at k : ℕ) (end : SessionEnd) → slice_get (ends_of files) at ≡ Some end →
    end.far ≡ Inside k → has_inner files ≡ true
inner_there files at k end there far =
    any_passes_from_place (λ (e : SessionEnd). not (is_outside e.far)) (ends_of files) at end there
    (ap (λ f. not (is_outside f)) far)

-- ---- both

-- a route of which it is said elsewhere whether it is there keeps its rows
pub remarked : (tracked : Tracked) (a b : SymBgp) → b.numbers ≡ a.numbers → b.communities ≡ a.communities →
    b.clusters ≡ a.clusters → HasTracked tracked a → HasTracked tracked b
remarked tracked a b numbers communities clusters has = record {
  numbers = ap (λ (n : _). length n.nodes.items) numbers ∙ has.numbers;
  communities = ap (λ (n : _). length n.nodes.items) communities ∙ has.communities;
  clusters = ap (λ (n : _). length n.nodes.items) clusters ∙ has.clusters;
}
