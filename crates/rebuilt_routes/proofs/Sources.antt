-- Where candidates come from: each is a local route, or what the router made of what arrived over the session of one of
-- its ends; of routes and of shapes.
use Rattle.std.proofs.Common.{◌≡◌, ℕ, zero, suc, ◌+◌, ◌==◌, ◌⊎◌, inl, inr, Bool, true, false, not, List, []}
use Rattle.std.proofs.Common.{◌∷◌, Option, Some, None, map, filter, fold, if◌then◌else◌, refl, sym, ap, ◌∙◌}
use Rattle.std.proofs.Common.{arith}
use Rattle.std.specs.Prelude.{All, IfSome, option_and_then, option_map, slice_get}
use Rattle.std.specs.List.{enumerate_from, filter_map}
use Rattle.std.specs.Option.{option_map_or}
use Rattle.std.proofs.lemmas.Bool.{eqb-true}
use Rattle.std.proofs.lemmas.List.Elements.{All-append, All-cons, All-filter, All-map, All-nil}
use Rattle.std.proofs.lemmas.List.Elements.{All-weaker, filter_passes}
use Rattle.mw_text.specs.Members.{In}
use Rattle.mw_text.specs.declared.address.Prefix.{Prefix}
use Rattle.ios_ast.specs.declared.bgp.Bgp.{Bgp}
use Rattle.ios_ast.specs.declared.file.File.{File}
use Rattle.route_record.specs.declared.BgpMsg.{BgpMsg}
use Rattle.route_record.specs.declared.BgpRec.{BgpRec}
use Rattle.route_record.specs.declared.Environment.{Environment}
use Rattle.route_record.specs.declared.Failures.{Failures}
use Rattle.route_record.specs.declared.Tables.{Tables}
use Rattle.route_record.specs.declared.tracked.Tracked.{Tracked}
use Rattle.route_record.specs.Places.{slot_at}
use Rattle.net_parts.specs.declared.sessions.Far.{Far}
use Rattle.net_parts.specs.declared.sessions.Far.TheVariants.{Outside, Inside}
use Rattle.net_parts.specs.declared.sessions.SessionEnd.{SessionEnd}
use Rattle.net_parts.specs.Decisions.{Candidate, Key, after_cost, arriving, candidates, candidates_from}
use Rattle.net_parts.specs.Decisions.{is_compared_by, learnt_candidate, local_candidate, peer_identifier}
use Rattle.net_parts.specs.Decisions.{step_by, survivors_by, taken_candidate, to_cost}
use Rattle.net_parts.specs.Exports.{imported}
use Rattle.net_parts.specs.Origins.{local_routes}
use Rattle.net_parts.specs.Resolution.{resolved, session_up}
use Rattle.net_parts.specs.Sessions.{ends_of}
use Rattle.route_shapes.specs.Bgp.{BgpShape}
use Rattle.bgp_shapes.specs.Candidates.{ShapeCandidate, ShapeEnvironment, ShapeSlot, shape_arriving, shape_candidates}
use Rattle.bgp_shapes.specs.Candidates.{shape_learnt, shape_local, shape_local_routes}
use Rattle.bgp_shapes.specs.Importing.{shape_imported}
use Rattle.bgp_shapes.proofs.LengthLaw.{all_kept, steps_all}
use Rattle.rebuilt_routes.specs.Following.{arriving_of}
use Rattle.rebuilt_routes.proofs.Options.{if_true}

-- ---- lists

-- each item is a member
pub all_in : {X : Type 0} (xs : List X) → All (λ x. In x xs) xs
all_in [] = All-nil (λ x. In x [])
all_in {X = X} (x ∷ xs) =
    All-cons (λ y. In y (x ∷ xs)) x xs (inl refl)
    (All-weaker (λ y. In y xs) (λ y. In y (x ∷ xs)) (λ y there. inr there) xs (all_in xs))

-- each stands at its number
all_numbered : {X : Type 0} (n : ℕ) (xs : List X) →
    All (λ (e : ℕ × X). (k : ℕ) × (e.0 ≡ n + k) × (slice_get xs k ≡ Some e.1)) (enumerate_from n xs)
all_numbered {X = X} n [] = All-nil (λ (e : ℕ × X). (k : ℕ) × (e.0 ≡ n + k) × (slice_get [] k ≡ Some e.1))
all_numbered {X = X} n (x ∷ xs) =
    All-cons (λ (e : ℕ × X). (k : ℕ) × (e.0 ≡ n + k) × (slice_get (x ∷ xs) k ≡ Some e.1)) (n, x)
    (enumerate_from (n + 1) xs) (zero, omega arith, refl)
    (All-weaker (λ (e : ℕ × X). (k : ℕ) × (e.0 ≡ n + 1 + k) × (slice_get xs k ≡ Some e.1))
    (λ (e : ℕ × X). (k : ℕ) × (e.0 ≡ n + k) × (slice_get (x ∷ xs) k ≡ Some e.1)) later
    (enumerate_from (n + 1) xs) (all_numbered (n + 1) xs))
  where
    later : (e : ℕ × X) → (k : ℕ) × (e.0 ≡ n + 1 + k) × (slice_get xs k ≡ Some e.1) →
        (k : ℕ) × (e.0 ≡ n + k) × (slice_get (x ∷ xs) k ≡ Some e.1)
    later e (k, place, there) = (suc k, omega (arith, place), there)

-- the ends of a router, each at its place
pub record IsEnd (files : List File) (router : ℕ) (e : ℕ × SessionEnd) : Type 0 where
  pub there : slice_get (ends_of files) e.0 ≡ Some e.1
  pub own : e.1.router ≡ router

own_ends : (files : List File) (router : ℕ) →
    All (IsEnd files router) (filter (λ e. e.1.router == router) (enumerate_from 0 (ends_of files)))
own_ends files router k d within =
    let own : ℕ × SessionEnd → Bool = λ e. e.1.router == router in
    let all = enumerate_from 0 (ends_of files) in
    let found = All-filter own (λ (e : ℕ × SessionEnd). (j : ℕ) × (e.0 ≡ 0 + j)
    × (slice_get (ends_of files) j ≡ Some e.1)) all (all_numbered 0 (ends_of files)) k d within in
    record {
      there = ap (slice_get (ends_of files)) (let place = found.1 in omega (arith, place)) ∙ found.2;
      own = eqb-true _ router (filter_passes own all k d within);
    }

-- ---- survivors

-- what survives is a candidate
pub survivors_all : {X : Type 0} (P : X → Type 0) (key : X → Key) (always compare_id : Bool) (xs : List X) → All P xs →
    All P (survivors_by key always compare_id xs)
survivors_all {X = X} P key always compare_id xs all =
    let left = fold (step_by key always) xs to_cost in
    by (is_compared_by key compare_id left) left (steps_all P key always to_cost xs all)
  where
    by : (b : Bool) (left : List X) → All P left →
        All P (if b then fold (step_by key always) left after_cost else left)
    by true left all = steps_all P key always after_cost left all
    by false left all = all

-- ---- of shapes

module _ (tracked : Tracked) (files : List File) (failures : Failures) (environment : ShapeEnvironment)
    (slots : ℕ → Option ShapeSlot) (p : Prefix) where
  pub record IsLearntShape (router : ℕ) (c : ShapeCandidate) : Type 0 where
    pub at : ℕ
    pub end : SessionEnd
    pub is : IsEnd files router (at, end)
    pub message : BgpShape
    pub arrived : shape_arriving tracked files environment slots p at end ≡ Some message
    pub taken : shape_imported tracked files end p message ≡ Some c.rec

  -- a local candidate, or one that was learnt
  abbrev pub IsShapeFrom : ℕ → List BgpShape → ShapeCandidate → Type 0
  IsShapeFrom router own c = In c.rec own ⊎ IsLearntShape router c

  abbrev learnt_at : ℕ × SessionEnd → Option ShapeCandidate
  learnt_at e =
      shape_learnt tracked files failures environment.ids p e.0 e.1
      (shape_arriving tracked files environment slots p e.0 e.1)

  shape_learnt_from : (router : ℕ) (own : List BgpShape) (e : ℕ × SessionEnd) → IsEnd files router e →
      IfSome (learnt_at e) (IsShapeFrom router own)
  shape_learnt_from router own (at, end) is =
      if_true (IsShapeFrom router own) (session_up files failures end) _ (λ up.
      by_route (shape_arriving tracked files environment slots p at end) refl)
    where
      made : BgpShape → ℕ → ShapeCandidate
      made rec cost = record {
        rec = rec;
        external = not end.internal;
        cost = cost;
        peer_id = (peer_identifier files environment.ids at end).0;
      }

      by_cost : (rec : BgpShape) → IsLearntShape router (made rec 0) → (o : Option ℕ) →
          IfSome (option_map (made rec) o) (IsShapeFrom router own)
      by_cost rec learnt None = tt
      by_cost rec learnt (Some cost) = inr (record {
        at = learnt.at;
        end = learnt.end;
        is = learnt.is;
        message = learnt.message;
        arrived = learnt.arrived;
        taken = learnt.taken;
      })

      by_taken : (message : BgpShape) → shape_arriving tracked files environment slots p at end ≡ Some message →
          (o : Option BgpShape) → shape_imported tracked files end p message ≡ o →
          IfSome (option_and_then (λ rec. option_map (made rec)
          (resolved files failures end.router (record { 0 = rec.next_hop }))) o) (IsShapeFrom router own)
      by_taken message arrived None taken = tt
      by_taken message arrived (Some rec) taken =
          by_cost rec (record {
            at = at;
            end = end;
            is = is;
            message = message;
            arrived = arrived;
            taken = taken;
          }) (resolved files failures end.router (record { 0 = rec.next_hop }))

      by_route : (o : Option BgpShape) → shape_arriving tracked files environment slots p at end ≡ o →
          IfSome (option_and_then (λ rec. option_map (made rec)
          (resolved files failures end.router (record { 0 = rec.next_hop })))
          (option_and_then (shape_imported tracked files end p) o)) (IsShapeFrom router own)
      by_route None arrived = tt
      by_route (Some message) arrived =
          by_taken message arrived (shape_imported tracked files end p message) refl

  pub shapes_from : (router : ℕ) (file : File) (process : Bgp) →
      All (IsShapeFrom router (option_map_or (shape_local_routes tracked files router file process p) (slots router) []))
      (shape_candidates tracked files failures environment slots router file process p)
  unfolding shape_candidates
  shapes_from router file process =
      let own = option_map_or (shape_local_routes tracked files router file process p) (slots router) [] in
      let P = IsShapeFrom router own in
      let ends = filter (λ (e : ℕ × SessionEnd). e.1.router == router) (enumerate_from 0 (ends_of files)) in
      All-append P (map (shape_local files router) own) (filter_map learnt_at ends)
      (All-map P (shape_local files router) own
      (All-weaker (λ s. In s own) (λ s. P (shape_local files router s)) (λ s there. inl there) own (all_in own)))
      (all_kept (IsEnd files router) P learnt_at (shape_learnt_from router own) ends (own_ends files router))

-- ---- of routes

-- the routes that tables hold for a prefix
abbrev pub routes_in : Tables → Prefix → ℕ → Option BgpRec
routes_in tables p router = option_and_then (λ slot. slot.bgp) (slot_at tables router p.len)

pub arriving_in : (files : List File) (environment : Environment) (tables : Tables) (p : Prefix) (at : ℕ)
    (end : SessionEnd) →
    arriving files environment tables p at end ≡ arriving_of files environment (routes_in tables p) p at end
unfolding arriving arriving_of
arriving_in files environment tables p at end = by end.far refl
  where
    by : (far : Far) → end.far ≡ far →
        arriving files environment tables p at end ≡ arriving_of files environment (routes_in tables p) p at end
    by Outside is =
        ap (λ f. arriving files environment tables p at (record end { far = f })) is
        ∙ sym (ap (λ f. arriving_of files environment (routes_in tables p) p at (record end { far = f })) is)
    by (Inside far_at) is =
        ap (λ f. arriving files environment tables p at (record end { far = f })) is
        ∙ sym (ap (λ f. arriving_of files environment (routes_in tables p) p at (record end { far = f })) is)

module _ (files : List File) (failures : Failures) (environment : Environment) (tables : Tables) (p : Prefix) where
  -- a route that a router made of what arrived over the session of one of its ends
  pub record IsLearntRoute (router : ℕ) (rec : BgpRec) : Type 0 where
    pub at : ℕ
    pub end : SessionEnd
    pub is : IsEnd files router (at, end)
    pub message : BgpMsg
    pub arrived : arriving files environment tables p at end ≡ Some message
    pub taken : imported files end p message ≡ Some rec

  -- a local candidate, or one that was learnt
  abbrev pub IsCandidateFrom : ℕ → List BgpRec → Candidate → Type 0
  IsCandidateFrom router own c =
      (In c.rec own × (c ≡ local_candidate files router c.rec)) ⊎ IsLearntRoute router c.rec

  abbrev candidate_at : ℕ × SessionEnd → Option Candidate
  candidate_at e =
      learnt_candidate files failures environment.ids p e.0 e.1 (arriving files environment tables p e.0 e.1)

  learnt_from : (router : ℕ) (own : List BgpRec) (e : ℕ × SessionEnd) → IsEnd files router e →
      IfSome (candidate_at e) (IsCandidateFrom router own)
  learnt_from router own (at, end) is =
      if_true (IsCandidateFrom router own) (session_up files failures end) _ (λ up.
      by_route (arriving files environment tables p at end) refl)
    where
      made : BgpRec → ℕ → Candidate
      made rec cost = record {
        rec = rec;
        external = not end.internal;
        cost = cost;
        peer_id = peer_identifier files environment.ids at end;
      }

      by_cost : (rec : BgpRec) → IsLearntRoute router rec → (o : Option ℕ) →
          IfSome (option_map (made rec) o) (IsCandidateFrom router own)
      by_cost rec learnt None = tt
      by_cost rec learnt (Some cost) = inr learnt

      by_taken : (message : BgpMsg) → arriving files environment tables p at end ≡ Some message →
          (o : Option BgpRec) → imported files end p message ≡ o →
          IfSome (option_and_then (taken_candidate files failures environment.ids at end) o)
          (IsCandidateFrom router own)
      by_taken message arrived None taken = tt
      by_taken message arrived (Some rec) taken =
          by_cost rec (record {
            at = at;
            end = end;
            is = is;
            message = message;
            arrived = arrived;
            taken = taken;
          }) (resolved files failures end.router rec.next_hop)

      by_route : (o : Option BgpMsg) → arriving files environment tables p at end ≡ o →
          IfSome (option_and_then (taken_candidate files failures environment.ids at end)
          (option_and_then (imported files end p) o)) (IsCandidateFrom router own)
      by_route None arrived = tt
      by_route (Some message) arrived = by_taken message arrived (imported files end p message) refl

  pub candidates_have_sources : (router : ℕ) (file : File) (process : Bgp) →
      All (IsCandidateFrom router
      (option_map_or (local_routes files router file process p) (slot_at tables router p.len) []))
      (candidates files failures environment tables router file process p)
  unfolding candidates candidates_from
  candidates_have_sources router file process =
      let own = option_map_or (local_routes files router file process p) (slot_at tables router p.len) [] in
      let P = IsCandidateFrom router own in
      let ends = filter (λ (e : ℕ × SessionEnd). e.1.router == router) (enumerate_from 0 (ends_of files)) in
      All-append P (map (local_candidate files router) own) (filter_map candidate_at ends)
      (All-map P (local_candidate files router) own
      (All-weaker (λ r. In r own) (λ r. P (local_candidate files router r)) (λ r there. inl (there, refl)) own
      (all_in own)))
      (all_kept (IsEnd files router) P candidate_at (learnt_from router own) ends (own_ends files router))
