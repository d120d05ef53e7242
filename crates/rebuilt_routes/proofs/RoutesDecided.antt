-- The routes that are followed back from decided shapes are decided.
use Rattle.std.proofs.Common.{◌≡◌, ℕ, ◌+◌, ◌^◌, ◌==◌, ◌⊎◌, inl, inr, true, false, not, List, []}
use Rattle.std.proofs.Common.{◌∷◌, length, map, Option, Some, None, refl, sym, ap, ◌∙◌, subst, arith}
use Rattle.std.proofs.Common.{if◌then◌else◌, is_some}
use Rattle.std.specs.Prelude.{All, Any, IfSome, MatchOption, filter, option_and_then, option_map, slice_get, unwrap_or}
use Rattle.std.specs.List.{enumerate_from, filter_map, find, list_all}
use Rattle.std.specs.Option.{option_map_or}
use Rattle.std.proofs.lemmas.List.Elements.{All-contains, All-nil, All-weaker}
use Rattle.mw_text.specs.Members.{In}
use Rattle.mw_text.specs.declared.address.Addr.{Addr}
use Rattle.mw_text.specs.declared.address.Prefix.{Prefix}
use Rattle.mw_text.proofs.Found.{mapped, no_value}
use Rattle.ios_ast.specs.declared.bgp.Bgp.{Bgp}
use Rattle.ios_ast.specs.declared.file.File.{File}
use Rattle.ios_ast.specs.Limits.{keeps_limits}
use Rattle.ios_ast.specs.Paths.{first_of}
use Rattle.route_record.specs.declared.BgpRec.{BgpRec}
use Rattle.route_record.specs.declared.Environment.{Environment}
use Rattle.route_record.specs.declared.Failures.{Failures}
use Rattle.route_record.specs.declared.Slot.{Slot}
use Rattle.route_record.specs.declared.Tables.{Tables}
use Rattle.route_record.specs.declared.tracked.Tracked.{Tracked}
use Rattle.route_record.specs.Places.{slot_at}
use Rattle.net_interfaces.proofs.Members.{in-find}
use Rattle.net_interfaces.proofs.Options.{if_is, not_some}
use Rattle.net_parts.specs.declared.sessions.SessionEnd.{SessionEnd}
use Rattle.net_parts.specs.Decisions.{Candidate, DecidedByBgp, IsHeld, Key, arriving, candidates, candidates_from}
use Rattle.net_parts.specs.Decisions.{is_local, key_of, learnt_candidate, local_candidate, peer_address, survivors}
use Rattle.net_parts.specs.Exports.{imported, router_id}
use Rattle.net_parts.specs.Origins.{local_routes}
use Rattle.net_parts.specs.Sessions.{ends_of}
use Rattle.net_parts.specs.Stable.{IsDecided}
use Rattle.net_parts.specs.Tracked.{TracksNet}
use Rattle.net_parts.proofs.LeastWalks.{contains-in, in-contains, in-left}
use Rattle.route_shapes.specs.Bgp.{BgpShape, bgp_shape, learnt_number}
use Rattle.bgp_shapes.specs.Candidates.{ShapeSlot, candidate_shape, environment_shape, shape_candidates, slots_shape}
use Rattle.bgp_shapes.specs.Candidates.{slot_shape}
use Rattle.bgp_shapes.specs.Held.{HasMarks, IsHeldByShape, held_shape, same_shape}
use Rattle.bgp_shapes.specs.Lengths.{IsShort}
use Rattle.bgp_shapes.specs.Messages.{lacks_address}
use Rattle.bgp_shapes.specs.Tracking.{TracksTests}
use Rattle.bgp_shapes.proofs.CandidateLaw.{candidates_shape}
use Rattle.bgp_shapes.proofs.HeldLaw.{held_sound}
use Rattle.bgp_shapes.proofs.TrackedLaw.{tests_tracked}
use Rattle.rebuilt_routes.specs.Deciding.{AreDecided, AreDecidedShapes, HaveRealRoutes}
use Rattle.rebuilt_routes.specs.Following.{AllFollow, AreReal, arriving_of, followed, held_at, numbered_end, own_routes}
use Rattle.rebuilt_routes.specs.Following.{real_routes, slot_with}
use Rattle.rebuilt_routes.proofs.EndsApart.{end_again}
use Rattle.rebuilt_routes.proofs.Followed.{are_real}
use Rattle.rebuilt_routes.proofs.Numbered.{has_address, IsNumbered}
use Rattle.rebuilt_routes.proofs.Plain.{IsPlain, locals_plain}
use Rattle.rebuilt_routes.proofs.ReflectorsOnce.{IsRouteTaken, IsUnlooped, all_unlooped, heard_unlooped, once_named}
use Rattle.rebuilt_routes.proofs.ReflectorsOnce.{route_taken_parts}
use Rattle.rebuilt_routes.proofs.RealSources.{all_members, plain_source}
use Rattle.rebuilt_routes.proofs.SameKeys.{same_survives}
use Rattle.rebuilt_routes.proofs.ShapesFollow.{all_follow, own_there}
use Rattle.rebuilt_routes.proofs.Sources.{IsCandidateFrom, IsLearntRoute, arriving_in, candidates_have_sources}
use Rattle.rebuilt_routes.proofs.Sources.{routes_in, survivors_all}
use Rattle.rebuilt_routes.proofs.Supported.{IsHeardRoute, arrived_from, taken_parts}

-- ---- members

map-in : {X Y : Type 0} (f : X → Y) (x : X) (xs : List X) → In x xs → In (f x) (map f xs)
map-in f x [] there = absurd there
map-in f x (y ∷ ys) (inl same) = inl (ap f same)
map-in f x (y ∷ ys) (inr later) = inr (map-in f x ys later)

any_member : {X : Type 0} (P : X → Type 0) (xs : List X) (x : X) → In x xs → P x → Any P xs
any_member P xs x there holds = let at = in-contains x xs there in (at.0, x, at.1, at.2, holds)

-- ---- the key of a local candidate, by its shape

local_key : Addr → BgpShape → Key
local_key id s = record {
  weight = s.preferences.weight;
  local_pref = s.preferences.local_pref;
  local = true;
  len = length {A = ℕ} [];
  origin = s.preferences.origin;
  first = first_of [];
  med = s.preferences.med;
  external = false;
  cost = 0;
  id = id.0;
  clusters = length {A = Addr} [];
  address = 0;
}

key_is : (tracked : Tracked) (files : List File) (router : ℕ) (r : BgpRec) (s : BgpShape) → IsPlain r →
    bgp_shape tracked r ≡ s → key_of (local_candidate files router r) ≡ local_key (router_id files router) s
unfolding local_key
key_is tracked files router r s plain same =
    let local = ap is_local plain.from in
    let len = ap length plain.path in
    let first = ap first_of plain.path in
    let id = ap (λ (o : Option Addr). (unwrap_or o (router_id files router)).0) plain.originator in
    let clusters = ap length plain.clusters in
    let address = ap (λ l. (peer_address l).0) plain.from in
    λ i. record {
      weight = (same i).preferences.weight;
      local_pref = (same i).preferences.local_pref;
      local = local i;
      len = len i;
      origin = (same i).preferences.origin;
      first = first i;
      med = (same i).preferences.med;
      external = false;
      cost = 0;
      id = id i;
      clusters = clusters i;
      address = address i;
    }

-- local routes look at no BGP route of their slot
local_unread : (files : List File) (router : ℕ) (file : File) (process : Bgp) (p : Prefix) (route : Option BgpRec)
    (slot : ShapeSlot) →
    local_routes files router file process p (slot_with route slot)
    ≡ local_routes files router file process p (slot_with None slot)
unfolding local_routes
local_unread files router file process p route slot = refl

module _ (tracked : Tracked) (files : List File) (failures : Failures) (environment : Environment)
    (slots : ℕ → Option ShapeSlot) (p : Prefix) (net : TracksNet files tracked)
    (limits : list_all keeps_limits files ≡ true)
    (shapes : AreDecidedShapes tracked files failures (environment_shape tracked environment) slots p)
    (tables : Tables) (have : HaveRealRoutes tracked files environment slots p tables) where
  tests : TracksTests files tracked
  tests = tests_tracked files tracked net

  follow : AllFollow tracked files environment slots p
  follow = all_follow tracked files failures environment slots p net limits shapes

  abbrev routes : ℕ → Option BgpRec
  routes = real_routes tracked files environment slots p

  real : AreReal tracked files environment slots p routes
  real = are_real tracked files environment slots p net follow

  -- ---- the tables

  slot_same : (router : ℕ) → slots_shape tracked tables p.len router ≡ slots router
  slot_same router = ap (option_map (slot_shape tracked)) (have router) ∙ by (slots router) refl
    where
      by : (o : Option ShapeSlot) → slots router ≡ o →
          option_map (slot_shape tracked) (option_map (slot_with (routes router)) o) ≡ o
      by None there = refl
      by (Some slot) there =
          let shape = real.shaped router ∙ ap (option_and_then (λ (x : ShapeSlot). x.bgp)) there in
          λ i. Some (record { ospf = slot.ospf; bgp = shape i; rib = slot.rib })

  none_held : (router : ℕ) → held_at slots router ≡ None → routes router ≡ None
  none_held router none = no_value (bgp_shape tracked) (routes router) (real.shaped router ∙ none)

  route_same : (router : ℕ) → routes_in tables p router ≡ routes router
  route_same router = ap (option_and_then (λ (slot : Slot). slot.bgp)) (have router) ∙ by (slots router) refl
    where
      by : (o : Option ShapeSlot) → slots router ≡ o →
          option_and_then (λ (slot : Slot). slot.bgp) (option_map (slot_with (routes router)) o) ≡ routes router
      by None there = sym (none_held router (ap (option_and_then (λ (x : ShapeSlot). x.bgp)) there))
      by (Some slot) there = refl

  arriving_same : (at : ℕ) (end : SessionEnd) →
      arriving files environment tables p at end ≡ arriving_of files environment routes p at end
  arriving_same at end =
      arriving_in files environment tables p at end
      ∙ (λ i. arriving_of files environment (λ router. route_same router i) p at end)

  -- ---- where routes come from

  sourced : (router : ℕ) (rec : BgpRec) → routes router ≡ Some rec →
      IsPlain rec ⊎ IsHeardRoute files environment p routes router rec
  sourced = plain_source tracked files environment slots p net follow

  unlooped : (router : ℕ) (rec : BgpRec) → routes router ≡ Some rec → IsUnlooped tracked files router rec
  unlooped = all_unlooped files environment p tracked net limits routes sourced

  -- ---- 32 bits count the lists of the candidates

  abbrev own : ℕ → File → Bgp → List BgpRec
  own router file process =
      option_map_or (local_routes files router file process p) (slot_at tables router p.len) []

  own_all_plain : (router : ℕ) (file : File) (process : Bgp) → All IsPlain (own router file process)
  own_all_plain router file process = by (slot_at tables router p.len)
    where
      by : (o : Option Slot) → All IsPlain (option_map_or (local_routes files router file process p) o [])
      by None = All-nil IsPlain
      by (Some slot) = locals_plain files router file process p slot

  heard_from : (router : ℕ) (rec : BgpRec) → IsLearntRoute files failures environment tables p router rec →
      IsHeardRoute files environment p routes router rec
  heard_from router rec learnt = record {
    at = learnt.at;
    end = learnt.end;
    is = learnt.is;
    message = learnt.message;
    arrived = sym (arriving_same learnt.at learnt.end) ∙ learnt.arrived;
    taken = learnt.taken;
  }

  short_from : (router : ℕ) (file : File) (process : Bgp) (c : Candidate) →
      IsCandidateFrom files failures environment tables p router (own router file process) c → IsShort c
  short_from router file process c (inl (there, is)) =
      let plain = all_members IsPlain (own router file process) (own_all_plain router file process) c.rec there in
      let path = ap length plain.path in
      let clusters = ap length plain.clusters in
      record { path = omega (arith, path); clusters = omega (arith, clusters) }
  short_from router file process c (inr learnt) =
      let heard = heard_from router c.rec learnt in
      let once = once_named tracked files router c.rec
      (heard_unlooped files environment p tracked net routes unlooped router c.rec heard
      (arrived_from files environment p routes heard.at heard.end heard.message heard.arrived)) in
      let few = once.few in
      let most = net.few_clusters in
      let path = (if_is (IsRouteTaken files heard.end heard.message) (imported files heard.end p heard.message) c.rec
      (route_taken_parts files heard.end p heard.message) heard.taken).few in
      record { path = omega (arith, path); clusters = omega (arith, few, most) }

  abbrev all : ℕ → File → Bgp → List Candidate
  all router file process = candidates files failures environment tables router file process p

  all_short : (router : ℕ) (file : File) (process : Bgp) → All IsShort (all router file process)
  all_short router file process =
      All-weaker (IsCandidateFrom files failures environment tables p router (own router file process)) IsShort
      (short_from router file process) (all router file process)
      (candidates_have_sources files failures environment tables p router file process)

  -- ---- what is held

  -- the survivor of the held shape that was learnt is the route that is followed
  learnt_is : (router : ℕ) (s : BgpShape) (rec : BgpRec) (c : Candidate) → bgp_shape tracked c.rec ≡ s →
      routes router ≡ Some rec → held_at slots router ≡ Some s →
      IsLearntRoute files failures environment tables p router c.rec → c.rec ≡ rec
  learnt_is router s rec c same holds shape learnt =
      let heard = heard_from router c.rec learnt in
      let taken = taken_parts files environment p tracked net heard.end heard.message c.rec heard.taken in
      let number : s.from ≡ 2 ^ 32 + taken.neighbour.addr.0 = ap (λ (t : BgpShape). t.from) (sym same) ∙ taken.from in
      let numbered : IsNumbered files router s.from heard.end = record {
        own = heard.is.own;
        neighbour = taken.neighbour;
        named = taken.named;
        number = sym number;
      } in
      let there = has_address files router s.from heard.end numbered in
      let found = ap (numbered_end files router) number
      ∙ end_again files limits router heard.at heard.end taken.neighbour heard.is.there heard.is.own taken.named in
      let gives : routes router ≡ Some c.rec =
      real.again router ∙ ap (option_and_then (followed tracked files environment slots p routes router)) shape
      ∙ ap (λ b. if b
      then find (λ r. same_shape (bgp_shape tracked r) s) (own_routes files slots p router)
      else option_and_then (λ (e : ℕ × SessionEnd). option_and_then (imported files e.1 p)
      (arriving_of files environment routes p e.0 e.1)) (numbered_end files router s.from)) there
      ∙ ap (option_and_then (λ (e : ℕ × SessionEnd). option_and_then (imported files e.1 p)
      (arriving_of files environment routes p e.0 e.1))) found
      ∙ ap (option_and_then (imported files heard.end p)) heard.arrived ∙ heard.taken in
      let equal : Some c.rec ≡ Some rec = sym gives ∙ holds in
      cc

  -- the first local route of the held shape survives where another does
  own_same : (router : ℕ) (file : File) (process : Bgp) → slice_get files router ≡ Some file →
      file.bgp ≡ Some process → own_routes files slots p router ≡ own router file process
  own_same router file process found runs =
      own_there files slots p router file process found runs ∙ by (slots router)
      ∙ ap (λ o. option_map_or (local_routes files router file process p) o []) (sym (have router))
    where
      by : (o : Option ShapeSlot) →
          option_map_or (λ slot. local_routes files router file process p (slot_with None slot)) o []
          ≡ option_map_or (local_routes files router file process p) (option_map (slot_with (routes router)) o) []
      by None = refl
      by (Some slot) = sym (local_unread files router file process p (routes router) slot)

  candidate_there : (router : ℕ) (file : File) (process : Bgp) (r : BgpRec) → In r (own router file process) →
      In (local_candidate files router r) (all router file process)
  unfolding candidates candidates_from
  candidate_there router file process r there =
      in-left (local_candidate files router r) (map (local_candidate files router) (own router file process))
      (filter_map (λ (e : ℕ × SessionEnd). learnt_candidate files failures environment.ids p e.0 e.1
      (arriving files environment tables p e.0 e.1))
      (filter (λ (e : ℕ × SessionEnd). e.1.router == router) (enumerate_from 0 (ends_of files))))
      (map-in (local_candidate files router) r (own router file process) there)

  local_stays : (router : ℕ) (file : File) (process : Bgp) → slice_get files router ≡ Some file →
      file.bgp ≡ Some process → (s : BgpShape) (rec : BgpRec) (c : Candidate) → bgp_shape tracked c.rec ≡ s →
      routes router ≡ Some rec → held_at slots router ≡ Some s → In c.rec (own router file process) →
      c ≡ local_candidate files router c.rec →
      In c (survivors process.always_compare process.compare_routerid (all router file process)) →
      In (local_candidate files router rec)
      (survivors process.always_compare process.compare_routerid (all router file process))
  unfolding survivors
  local_stays router file process found runs s rec c same holds shape there is stays =
      let plain = all_members IsPlain (own router file process) (own_all_plain router file process) c.rec there in
      let local : lacks_address s.from ≡ true =
      ap (λ (t : BgpShape). lacks_address t.from) (sym same) ∙ ap (λ l. lacks_address (learnt_number l)) plain.from in
      let gives : find (λ r. same_shape (bgp_shape tracked r) s) (own_routes files slots p router) ≡ Some rec =
      sym (real.again router ∙ ap (option_and_then (followed tracked files environment slots p routes router)) shape
      ∙ ap (λ b. if b
      then find (λ r. same_shape (bgp_shape tracked r) s) (own_routes files slots p router)
      else option_and_then (λ (e : ℕ × SessionEnd). option_and_then (imported files e.1 p)
      (arriving_of files environment routes p e.0 e.1)) (numbered_end files router s.from)) local) ∙ holds in
      let here = subst (In rec) (own_same router file process found runs)
      (in-find (λ r. same_shape (bgp_shape tracked r) s) (own_routes files slots p router) rec gives) in
      let own_plain_rec = all_members IsPlain (own router file process) (own_all_plain router file process) rec here in
      let shape_rec : bgp_shape tracked rec ≡ s =
      shape_of rec (sym (ap (option_map (bgp_shape tracked)) holds) ∙ real.shaped router ∙ shape) in
      same_survives key_of process.always_compare process.compare_routerid (all router file process)
      (local_candidate files router rec) c
      (key_is tracked files router rec s own_plain_rec shape_rec
      ∙ sym (ap key_of is ∙ key_is tracked files router c.rec s plain same))
      (candidate_there router file process rec here) stays
    where
      shape_of : (r : BgpRec) → Some (bgp_shape tracked r) ≡ Some s → bgp_shape tracked r ≡ s
      shape_of r equal = cc

  shapes_same : (router : ℕ) (file : File) (process : Bgp) →
      map (candidate_shape tracked) (all router file process)
      ≡ shape_candidates tracked files failures (environment_shape tracked environment) slots router file process p
  shapes_same router file process =
      candidates_shape tracked files failures environment tables router file process p tests
      ∙ (λ i. shape_candidates tracked files failures (environment_shape tracked environment)
      (λ r. slot_same r i) router file process p)

  left_from : (router : ℕ) (file : File) (process : Bgp) →
      All (IsCandidateFrom files failures environment tables p router (own router file process))
      (survivors process.always_compare process.compare_routerid (all router file process))
  unfolding survivors
  left_from router file process =
      survivors_all (IsCandidateFrom files failures environment tables p router (own router file process)) key_of
      process.always_compare process.compare_routerid (all router file process)
      (candidates_have_sources files failures environment tables p router file process)

  decided_some : (router : ℕ) (file : File) (process : Bgp) → slice_get files router ≡ Some file →
      file.bgp ≡ Some process → (o : Option BgpShape) → held_at slots router ≡ o →
      IsHeldByShape tracked (all router file process)
      (survivors process.always_compare process.compare_routerid (all router file process)) o →
      DecidedByBgp files failures environment tables router file process p (routes router)
  unfolding DecidedByBgp
  decided_some router file process found runs None shape none =
      subst (IsHeld (all router file process)
      (survivors process.always_compare process.compare_routerid (all router file process)))
      (sym (none_held router shape)) none
  decided_some router file process found runs (Some s) shape (k, c, within, is, same) =
      let route = mapped (bgp_shape tracked) (routes router) s (real.shaped router ∙ shape) in
      let left = survivors process.always_compare process.compare_routerid (all router file process) in
      let there = contains-in c left (k, within, is) in
      subst (IsHeld (all router file process) left) (sym route.1)
      (by route.0 route.1 there
      (All-contains (IsCandidateFrom files failures environment tables p router (own router file process)) left c
      (left_from router file process) (k, within, is)))
    where
      by : (rec : BgpRec) → routes router ≡ Some rec →
          In c (survivors process.always_compare process.compare_routerid (all router file process)) →
          IsCandidateFrom files failures environment tables p router (own router file process) c →
          Any (λ d. d.rec ≡ rec) (survivors process.always_compare process.compare_routerid (all router file process))
      by rec holds there (inl (own_there, own_is)) =
          any_member (λ d. d.rec ≡ rec)
          (survivors process.always_compare process.compare_routerid (all router file process))
          (local_candidate files router rec)
          (local_stays router file process found runs s rec c same holds shape own_there own_is there) refl
      by rec holds there (inr learnt) =
          any_member (λ d. d.rec ≡ rec)
          (survivors process.always_compare process.compare_routerid (all router file process)) c there
          (learnt_is router s rec c same holds shape learnt)

  decided_at : (router : ℕ) (file : File) → slice_get files router ≡ Some file → (shape : ShapeSlot) →
      slots router ≡ Some shape → IsDecided files failures environment tables router file p (routes router)
  decided_at router file found shape there =
      by file.bgp refl (shapes.decided router file shape found there)
    where
      holds : held_at slots router ≡ shape.bgp
      holds = ap (option_and_then (λ (x : ShapeSlot). x.bgp)) there

      marks : (o : Option BgpShape) → shape.bgp ≡ o → IfSome o (HasMarks tracked)
      marks None is = tt
      marks (Some s) is = shapes.marks router s (holds ∙ is)

      by : (o : Option Bgp) → file.bgp ≡ o →
          option_map_or (λ (process : Bgp). held_shape process.always_compare process.compare_routerid
          (shape_candidates tracked files failures (environment_shape tracked environment) slots router file process p)
          shape.bgp) o (not (is_some shape.bgp)) ≡ true →
          MatchOption o (routes router ≡ None)
          (λ process. DecidedByBgp files failures environment tables router file process p (routes router))
      by None runs decided = none_held router (holds ∙ not_some shape.bgp decided)
      by (Some process) runs decided =
          decided_some router file process found runs shape.bgp holds
          (held_sound tracked process.always_compare process.compare_routerid (all router file process) shape.bgp
          (all_short router file process) (marks shape.bgp refl)
          (ap (λ cs. held_shape process.always_compare process.compare_routerid cs shape.bgp)
          (shapes_same router file process) ∙ decided))

  decided : (router : ℕ) (file : File) (slot : Slot) → slice_get files router ≡ Some file →
      slot_at tables router p.len ≡ Some slot → IsDecided files failures environment tables router file p slot.bgp
  decided router file slot found there =
      let shape = mapped (slot_with (routes router)) (slots router) slot (sym (have router) ∙ there) in
      subst (IsDecided files failures environment tables router file p) (ap (λ (x : Slot). x.bgp) shape.2)
      (decided_at router file found shape.0 shape.1)

  pub are_decided : AreDecided tracked files failures environment slots p tables
  are_decided = record { shaped = slot_same; decided = decided }
