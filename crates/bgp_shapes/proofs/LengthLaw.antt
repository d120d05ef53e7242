-- In a stable routing 32 bits count the lists of every candidate. A path that was imported has at most 255 numbers. A
-- cluster list that is not empty was made by a reflector whose own route has one cluster less, so that a list of n
-- clusters comes with routes of n - 1, n - 2 and so on down to none, each held by another router.
use Rattle.std.proofs.Common.{◌≡◌, ℕ, zero, suc, ◌+◌, ◌*◌, ◌^◌, ◌<◌, ◌≤◌, ◌⊎◌, inl, inr, ◌==◌, ◌||◌, not}
use Rattle.std.proofs.Common.{Bool, true, false, List, [], ◌∷◌, length, map, filter, fold, if◌then◌else◌}
use Rattle.std.proofs.Common.{Option, Some, None, refl, sym, ap, ◌∙◌, subst, arith, eqb}
use Rattle.std.specs.Prelude.{All, IfSome, MatchOption, nat_le, option_and_then, option_map, slice_get, unwrap_or}
use Rattle.std.specs.List.{cons_option, enumerate_from, filter_map, list_all, list_any, range_with_len}
use Rattle.std.specs.Option.{option_map_or}
use Rattle.std.proofs.lemmas.Bool.{eq-eqb, eqb-true, false≢true, leb-true, or_left, or_right}
use Rattle.std.proofs.lemmas.List.{length-map}
use Rattle.std.proofs.lemmas.List.Elements.{All-append, All-cons, All-contains, All-filter, All-head, All-map, All-nil}
use Rattle.std.proofs.lemmas.List.Elements.{All-tail, All-weaker, filter_passes}
use Rattle.std.proofs.lemmas.Map.Steps.{le-length_from_below}
use Rattle.std.proofs.lemmas.Option.{same_Some, slice_get_within}
use Rattle.mw_text.proofs.Lists.{all_at, all_found, item_there}
use Rattle.mw_text.specs.declared.address.Addr.{Addr}
use Rattle.mw_text.specs.declared.address.Prefix.{Prefix}
use Rattle.mw_text.specs.Address.{prefix_at, same_prefix}
use Rattle.ios_ast.specs.declared.bgp.Bgp.{Bgp}
use Rattle.ios_ast.specs.declared.bgp.Neighbour.{Neighbour}
use Rattle.ios_ast.specs.declared.file.File.{File}
use Rattle.ios_ast.specs.declared.file.Use.{Use}
use Rattle.ios_ast.specs.declared.policies.SetAct.{SetAct}
use Rattle.ios_ast.specs.declared.policies.SetAct.TheVariants.{LocalPref, Metric, Weight, NoCommunity, Community}
use Rattle.ios_ast.specs.declared.policies.SetAct.TheVariants.{Origin, Prepend, Type1}
use Rattle.ios_ast.specs.Setting.{Attributes, set_one}
use Rattle.route_record.specs.declared.BgpMsg.{BgpMsg}
use Rattle.route_record.specs.declared.BgpRec.{BgpRec}
use Rattle.route_record.specs.declared.Environment.{Environment}
use Rattle.route_record.specs.declared.Failures.{Failures}
use Rattle.route_record.specs.declared.Learnt.TheVariants.{Peer}
use Rattle.route_record.specs.declared.Origin.{Origin as OriginOf}
use Rattle.route_record.specs.declared.Origin.TheVariants.{Igp, Incomplete}
use Rattle.route_record.specs.declared.Slot.{Slot}
use Rattle.route_record.specs.declared.Tables.{Tables}
use Rattle.route_record.specs.declared.TheConstants.{LENGTHS}
use Rattle.route_record.specs.Places.{slot_at}
use Rattle.net_parts.specs.declared.sessions.Far.{Far}
use Rattle.net_parts.specs.declared.sessions.Far.TheVariants.{Outside, Inside}
use Rattle.net_parts.specs.declared.sessions.SessionEnd.{SessionEnd}
use Rattle.net_parts.specs.declared.steps.Step.{Step}
use Rattle.net_parts.specs.Decisions.{Candidate, DecidedByBgp, Key, after_cost, arriving, candidates}
use Rattle.net_parts.specs.Decisions.{candidates_from}
use Rattle.net_parts.specs.Decisions.{is_compared_by, key_of, learnt_candidate, local_candidate}
use Rattle.net_parts.specs.Decisions.{peer_identifier, removes, step_by, survivors, to_cost}
use Rattle.net_parts.specs.Exports as exports
use Rattle.ios_ast.specs.Maps.{through_map}
use Rattle.net_parts.specs.Mapping.{attributes_of, with_attributes}
use Rattle.net_parts.specs.Origins.{by_network, entry_metric, into_bgp, is_default, local_route, local_routes}
use Rattle.net_parts.specs.Origins.{local_through}
use Rattle.net_parts.specs.Origins.{taken_metric}
use Rattle.net_parts.specs.Resolution.{resolved, session_up}
use Rattle.net_parts.specs.Sessions.{ends_of, neighbour_of}
use Rattle.net_parts.specs.Stable.{IsDecided, Stable}
use Rattle.ios_ast.specs.Limits.{keeps_limits}
use Rattle.bgp_shapes.specs.Lengths.{IsShort}
use Rattle.bgp_shapes.proofs.Once.{NamesOnce, names_once}
use Rattle.bgp_shapes.proofs.EndLaw.{IsAlike, ends_alike, towards_alike}
use Rattle.bgp_shapes.proofs.PolicyLaw.{through_keeps}

-- ---- what holds of all that a call gives

-- what holds of all that the two calls give
pub if_then : {X Y : Type 0} (P : Y → Type 0) (f : X → Option Y) → ((x : X) → IfSome (f x) P) → (o : Option X) →
    IfSome (option_and_then f o) P
if_then P f each None = tt
if_then P f each (Some x) = each x

if_true : {X : Type 0} (P : X → Type 0) (b : Bool) (o : Option X) → IfSome o P → IfSome (if b then o else None) P
if_true P true o holds = holds
if_true P false o holds = tt

-- all that is given of items which have Q
pub all_kept : {X Y : Type 0} (Q : X → Type 0) (P : Y → Type 0) (h : X → Option Y) → ((x : X) → Q x → IfSome (h x) P) →
    (xs : List X) → All Q xs → All P (filter_map h xs)
all_kept Q P h gives [] all = All-nil P
all_kept Q P h gives (x ∷ xs) all =
    by_item (h x) (gives x (All-head Q x xs all)) (all_kept Q P h gives xs (All-tail Q x xs all))
  where
    by_item : (o : Option _) → IfSome o P → All P (filter_map h xs) → All P (cons_option o (filter_map h xs))
    by_item None holds rest = rest
    by_item (Some y) holds rest = All-cons P y (filter_map h xs) holds rest

all_such : {X : Type 0} (xs : List X) → All (λ x. Unit {0}) xs
all_such xs k d within = tt

-- ---- what survives is a candidate

pub steps_all : {X : Type 0} (P : X → Type 0) (key : X → Key) (always : Bool) (steps : List Step) (xs : List X) →
    All P xs → All P (fold (step_by key always) xs steps)
steps_all P key always [] xs all = all
steps_all P key always (s ∷ steps) xs all =
    steps_all P key always steps (step_by key always xs s)
    (All-filter (λ c. not (list_any (λ other. removes always s (key c) (key other)) xs)) P xs all)

survivors_all : (P : Candidate → Type 0) (always compare_id : Bool) (xs : List Candidate) → All P xs →
    All P (survivors always compare_id xs)
unfolding survivors
survivors_all P always compare_id xs all =
    let left = fold (step_by key_of always) xs to_cost in
    by_test (is_compared_by key_of compare_id left) left (steps_all P key_of always to_cost xs all)
  where
    by_test : (b : Bool) (left : List Candidate) → All P left →
        All P (if b then fold (step_by key_of always) left after_cost else left)
    by_test true left all = steps_all P key_of always after_cost left all
    by_test false left all = all

-- ---- local routes have no lists

pub record IsBare (rec : BgpRec) : Type 0 where
  pub path : rec.path ≡ []
  pub clusters : rec.clusters ≡ []
  pub originator : rec.originator ≡ None

local_bare : (file : File) (used : Option Use) (p : Prefix) (rec : BgpRec) → IsBare rec →
    IfSome (local_through file used p rec) IsBare
local_bare file used p rec bare =
    by_map (through_map file.policies used p false (attributes_of rec))
    (through_keeps (λ r. r.path ≡ []) false (λ r line is. by_line r line is) file.policies used p (attributes_of rec)
    bare.path)
  where
    by_line : (r : Attributes) (line : SetAct) → r.path ≡ [] → (set_one false r line).path ≡ []
    by_line r (LocalPref n) is = is
    by_line r (Metric n) is = is
    by_line r (Weight n) is = is
    by_line r NoCommunity is = is
    by_line r (Community values additive) is = is
    by_line r (Origin igp) is = is
    by_line r (Prepend numbers) is = is
    by_line r (Type1 type1) is = is

    by_map : (o : Option Attributes) → IfSome o (λ r. r.path ≡ []) → IfSome (option_map (with_attributes rec) o) IsBare
    by_map None h = tt
    by_map (Some r) h = record { path = h; clusters = bare.clusters; originator = bare.originator }

nothing_bare : (origin : OriginOf) (med : ℕ) → IsBare (local_route origin med)
nothing_bare origin med = record { path = refl; clusters = refl; originator = refl }

locals_bare : (files : List File) (router : ℕ) (file : File) (process : Bgp) (p : Prefix) (slot : Slot) →
    All IsBare (local_routes files router file process p slot)
unfolding local_routes
locals_bare files router file process p slot =
    All-append IsBare (filter_map (by_network file p slot) process.networks)
    (filter_map (into_bgp files router file p slot) process.redistribute)
    (all_kept (λ x. Unit {0}) IsBare (by_network file p slot) (λ line yes.
    if_then IsBare _ (λ entry. if_then IsBare _ (λ med.
    if_true IsBare (same_prefix line.prefix p) _ (local_bare file line.map p (local_route Igp med) (nothing_bare Igp med)))
    (entry_metric slot entry.source)) slot.rib) process.networks (all_such process.networks))
    (all_kept (λ x. Unit {0}) IsBare (into_bgp files router file p slot) (λ line yes.
    if_then IsBare _ (λ entry. if_then IsBare _ (λ metric.
    by_default (is_default p) _
    (local_bare file line.map p (local_route Incomplete (unwrap_or line.metric metric))
    (nothing_bare Incomplete (unwrap_or line.metric metric))))
    (taken_metric files router p slot line entry.source)) slot.rib) process.redistribute
    (all_such process.redistribute))
  where
    by_default : (b : Bool) (o : Option BgpRec) → IfSome o IsBare → IfSome (if b then None else o) IsBare
    by_default true o holds = tt
    by_default false o holds = holds

-- ---- what is imported

pub record IsTaken (files : List File) (end : SessionEnd) (message : BgpMsg) (rec : BgpRec) : Type 0 where
  pub clusters : rec.clusters ≡ message.clusters
  pub originator : rec.originator ≡ message.originator
  pub few : length rec.path ≤ 255
  pub neighbour : Neighbour
  pub named : neighbour_of files end ≡ Some neighbour
  pub from : rec.from ≡ Peer neighbour.addr

taken_parts : (files : List File) (end : SessionEnd) (p : Prefix) (message : BgpMsg) →
    IfSome (exports.imported files end p message) (IsTaken files end message)
unfolding exports.imported
taken_parts files end p message =
    if_then (IsTaken files end message) _ (λ file. if_then (IsTaken files end message) _ (λ process.
    by_neighbour file process (neighbour_of files end) refl) file.bgp) (slice_get files end.router)
  where
    by_length : (neighbour : Neighbour) → neighbour_of files end ≡ Some neighbour → (r : Attributes) →
        IfSome (exports.if_short (with_attributes (exports.received neighbour end message) r))
        (IsTaken files end message)
    by_length neighbour named r = by_test (nat_le (length r.path) exports.most_numbers) refl
      where
        rec : BgpRec
        rec = with_attributes (exports.received neighbour end message) r

        by_test : (b : Bool) → nat_le (length r.path) exports.most_numbers ≡ b →
            IfSome (if b then Some rec else None) (IsTaken files end message)
        by_test true is = record {
          clusters = refl;
          originator = refl;
          few = leb-true (length r.path) exports.most_numbers is;
          neighbour = neighbour;
          named = named;
          from = refl;
        }
        by_test false is = tt

    by_neighbour : (file : File) (process : Bgp) (o : Option Neighbour) → neighbour_of files end ≡ o →
        IfSome (option_and_then (λ neighbour. exports.taken_in files file process neighbour end p message) o)
        (IsTaken files end message)
    by_neighbour file process None named = tt
    by_neighbour file process (Some neighbour) named =
        if_true (IsTaken files end message) _ _ (if_then (IsTaken files end message) _ (by_length neighbour named)
        (through_map file.policies neighbour.map_in p (not end.internal)
        (attributes_of (exports.received neighbour end message))))

-- ---- what is sent

-- a message of a route that no router has reflected
abbrev IsPlain : BgpMsg → Type 0
IsPlain message = (message.clusters ≡ []) × (message.originator ≡ None)

-- such is a message over an external session, and one over an internal session has the clusters of a reflected route
abbrev IsSent : List File → SessionEnd → BgpRec → BgpMsg → Type 0
IsSent files end held message =
    IsPlain message ⊎ ((end.internal ≡ true)
    × (message.clusters
    ≡ exports.reflected_clusters files end.router held (exports.learnt_over files end.router held.from)))

sent_parts : (files : List File) (end : SessionEnd) (p : Prefix) (held : BgpRec) →
    IfSome (exports.exported files end p held) (IsSent files end held)
unfolding exports.exported
sent_parts files end p held =
    if_then (IsSent files end held) _ (λ file. if_then (IsSent files end held) _ (λ process.
    if_then (IsSent files end held) _ (λ neighbour.
    if_true (IsSent files end held) _ _ (by_map file process neighbour
    (through_map file.policies neighbour.map_out p (not end.internal) (attributes_of held))))
    (neighbour_of files end)) file.bgp) (slice_get files end.router)
  where
    by_kind : (b : Bool) → end.internal ≡ b → (m n : BgpMsg) →
        m.clusters ≡ exports.reflected_clusters files end.router held (exports.learnt_over files end.router held.from) →
        IsPlain n → IsSent files end held (if b then m else n)
    by_kind true is m n one none = inr (is, one)
    by_kind false is m n one none = inl none

    by_map : (file : File) (process : Bgp) (neighbour : Neighbour) (o : Option Attributes) →
        IfSome (option_map (λ r. if end.internal
        then exports.internal_message files end.router neighbour (exports.own_address files end) held r
        else exports.external_message process neighbour (exports.own_address files end)
        ((length held.path == 0) || exports.sets_metric file.policies neighbour.map_out p (attributes_of held))
        held r) o)
        (IsSent files end held)
    by_map file process neighbour None = tt
    by_map file process neighbour (Some r) = by_kind end.internal refl _ _ refl (refl, refl)

-- ---- the candidates of a router over given tables

module _ (files : List File) (failures : Failures) (environment : Environment) (tables : Tables) (p : Prefix) where
  -- the route that a router holds for the prefix
  abbrev held : ℕ → Option BgpRec
  held router = option_and_then (λ slot. slot.bgp) (slot_at tables router p.len)

  -- an end of the router, by its place
  record IsEnd (router : ℕ) (e : ℕ × SessionEnd) : Type 0 where
    k : ℕ
    there : slice_get (ends_of files) k ≡ Some e.1
    own : e.1.router ≡ router

  -- the route was learnt over an end of the router
  record IsLearnt (router : ℕ) (rec : BgpRec) : Type 0 where
    at : ℕ
    end : SessionEnd
    is : IsEnd router (at, end)
    message : BgpMsg
    arrived : arriving files environment tables p at end ≡ Some message
    taken : IsTaken files end message rec

  -- a candidate is a local route without lists, or was learnt
  abbrev IsFrom : ℕ → BgpRec → Type 0
  IsFrom router rec = IsBare rec ⊎ IsLearnt router rec

  all_numbered : (first : ℕ) (ends : List SessionEnd) →
      All (λ (e : ℕ × SessionEnd). (k : ℕ) × (slice_get ends k ≡ Some e.1)) (enumerate_from first ends)
  all_numbered first [] = All-nil (λ (e : ℕ × SessionEnd). (k : ℕ) × (slice_get [] k ≡ Some e.1))
  all_numbered first (end ∷ rest) =
      All-cons (λ (e : ℕ × SessionEnd). (k : ℕ) × (slice_get (end ∷ rest) k ≡ Some e.1)) (first, end)
      (enumerate_from (first + 1) rest) (zero, refl)
      (All-weaker (λ (e : ℕ × SessionEnd). (k : ℕ) × (slice_get rest k ≡ Some e.1))
      (λ (e : ℕ × SessionEnd). (k : ℕ) × (slice_get (end ∷ rest) k ≡ Some e.1)) (λ e is. (suc is.0, is.1))
      (enumerate_from (first + 1) rest) (all_numbered (first + 1) rest))

  own_ends : (router : ℕ) → All (IsEnd router) (filter (λ e. e.1.router == router) (enumerate_from 0 (ends_of files)))
  own_ends router k d within =
      let own : ℕ × SessionEnd → Bool = λ e. e.1.router == router in
      let all = enumerate_from 0 (ends_of files) in
      let there =
      All-filter own (λ (e : ℕ × SessionEnd). (j : ℕ) × (slice_get (ends_of files) j ≡ Some e.1)) all
      (all_numbered 0 (ends_of files)) k d within in
      record {
        k = there.0;
        there = there.1;
        own = eqb-true _ router (filter_passes own all k d within);
      }

  -- what arrives over the session of an end, as a candidate
  abbrev learnt : ℕ × SessionEnd → Option Candidate
  learnt e =
      learnt_candidate files failures environment.ids p e.0 e.1 (arriving files environment tables p e.0 e.1)

  learnt_from : (router : ℕ) (e : ℕ × SessionEnd) → IsEnd router e →
      IfSome (learnt e) (λ c. IsFrom router c.rec)
  learnt_from router (at, end) is =
      if_true P (session_up files failures end) _ (by_route (arriving files environment tables p at end) refl)
    where
      P : Candidate → Type 0
      P c = IsFrom router c.rec

      by_cost : (rec : BgpRec) → IsLearnt router rec → (o : Option ℕ) → IfSome (option_map (λ cost. record {
        rec = rec;
        external = not end.internal;
        cost = cost;
        peer_id = peer_identifier files environment.ids at end;
      }) o) P
      by_cost rec learnt None = tt
      by_cost rec learnt (Some cost) = inr learnt

      by_taken : (message : BgpMsg) → arriving files environment tables p at end ≡ Some message →
          (o : Option BgpRec) → IfSome o (IsTaken files end message) →
          IfSome (option_and_then (λ rec. option_map (λ cost. record {
            rec = rec;
            external = not end.internal;
            cost = cost;
            peer_id = peer_identifier files environment.ids at end;
          }) (resolved files failures end.router rec.next_hop)) o) P
      by_taken message arrived None taken = tt
      by_taken message arrived (Some rec) taken =
          by_cost rec (record {
            at = at;
            end = end;
            is = is;
            message = message;
            arrived = arrived;
            taken = taken;
          }) (resolved files failures end.router rec.next_hop)

      by_route : (o : Option BgpMsg) → arriving files environment tables p at end ≡ o →
          IfSome (option_and_then (λ rec. option_map (λ cost. record {
            rec = rec;
            external = not end.internal;
            cost = cost;
            peer_id = peer_identifier files environment.ids at end;
          }) (resolved files failures end.router rec.next_hop)) (option_and_then (exports.imported files end p) o)) P
      by_route None arrived = tt
      by_route (Some message) arrived =
          by_taken message arrived (exports.imported files end p message) (taken_parts files end p message)

  all_from : (router : ℕ) (file : File) (process : Bgp) →
      All (λ c. IsFrom router c.rec) (candidates files failures environment tables router file process p)
  unfolding candidates candidates_from
  all_from router file process =
      let P : Candidate → Type 0 = λ c. IsFrom router c.rec in
      let own = option_map_or (local_routes files router file process p) (slot_at tables router p.len) [] in
      let ends = filter (λ (e : ℕ × SessionEnd). e.1.router == router) (enumerate_from 0 (ends_of files)) in
      All-append P (map (local_candidate files router) own) (filter_map learnt ends)
      (All-map P (local_candidate files router) own
      (All-weaker IsBare (λ rec. P (local_candidate files router rec)) (λ rec bare. inl bare) own
      (by_slot (slot_at tables router p.len))))
      (all_kept (IsEnd router) P learnt (learnt_from router) ends (own_ends router))
    where
      by_slot : (o : Option Slot) → All IsBare (option_map_or (local_routes files router file process p) o [])
      by_slot None = All-nil IsBare
      by_slot (Some slot) = locals_bare files router file process p slot

  -- a route that is held is a candidate's
  decided_from : (router : ℕ) (file : File) (rec : BgpRec) →
      IsDecided files failures environment tables router file p (Some rec) → IsFrom router rec
  unfolding DecidedByBgp
  decided_from router file rec decided = by_process file.bgp decided
    where
      by_process : (o : Option Bgp) → MatchOption o (Some rec ≡ None)
          (λ process. DecidedByBgp files failures environment tables router file process p (Some rec)) →
          IsFrom router rec
      by_process None none = cc
      by_process (Some process) (k, c, within, is, same) =
          let all = candidates files failures environment tables router file process p in
          let left = survivors process.always_compare process.compare_routerid all in
          let from = survivors_all (λ x. IsFrom router x.rec) process.always_compare process.compare_routerid all
          (all_from router file process) in
          subst (IsFrom router) same (All-contains (λ x. IsFrom router x.rec) left c from (k, within, is))

  -- what a far router sent of a route that it holds arrived at the end
  record IsHeardFrom (end : SessionEnd) (message : BgpMsg) : Type 0 where
    at : ℕ
    far : SessionEnd
    reached : end.far ≡ Inside at
    there : slice_get (ends_of files) at ≡ Some far
    route : BgpRec
    holds : held far.router ≡ Some route
    sent : IsSent files far route message

  -- what arrives was never reflected, or a far router sent it
  heard_from : (at : ℕ) (end : SessionEnd) (message : BgpMsg) →
      arriving files environment tables p at end ≡ Some message →
      IsPlain message ⊎ IsHeardFrom end message
  unfolding arriving
  heard_from at end message arrived = by_far end.far refl arrived
    where
      some_then : {X Y : Type 0} (f : X → Option Y) (o : Option X) (y : Y) → option_and_then f o ≡ Some y →
          (x : X) × (o ≡ Some x) × (f x ≡ Some y)
      some_then f None y is = cc
      some_then f (Some x) y is = (x, refl, is)

      some_from : {X Y : Type 0} (f : X → Y) (o : Option X) (y : Y) → option_map f o ≡ Some y →
          (x : X) × (o ≡ Some x) × (f x ≡ y)
      some_from f None y is = cc
      some_from f (Some x) y is = (x, refl, same_Some (f x) y is)

      by_far : (far : Far) → end.far ≡ far → arriving files environment tables p at (record end { far = far })
          ≡ Some message → IsPlain message ⊎ IsHeardFrom end message
      by_far Outside is arrived =
          let line = some_then _ (neighbour_of files end) message arrived in
          let said = some_from _ _ message line.2 in
          inl (ap (λ m. m.clusters) (sym said.2), ap (λ m. m.originator) (sym said.2))
      by_far (Inside far_at) is arrived =
          let far = some_then _ (slice_get (ends_of files) far_at) message arrived in
          let route = some_then (exports.exported files far.0 p) _ message far.2 in
          let sent = sent_parts files far.0 p route.0 in
          inr (record {
            at = far_at;
            far = far.0;
            reached = is;
            there = far.1;
            route = route.0;
            holds = route.1;
            sent = subst (λ o. IfSome o (IsSent files far.0 route.0)) route.2 sent;
          })

  -- ---- what no router has reflected

  -- no path is too long
  short_path : (router : ℕ) (rec : BgpRec) → IsFrom router rec → length rec.path ≤ 255
  short_path router rec (inl bare) = let none = ap length bare.path in omega (arith, none)
  short_path router rec (inr learnt) = learnt.taken.few

  -- where each session is external no route has clusters or an originator
  plain_from : list_all (λ end. not end.internal) (ends_of files) ≡ true → (router : ℕ) (rec : BgpRec) →
      IsFrom router rec → (rec.clusters ≡ []) × (rec.originator ≡ None)
  plain_from external router rec (inl bare) = (bare.clusters, bare.originator)
  plain_from external router rec (inr learnt) =
      by_message (heard_from learnt.at learnt.end learnt.message learnt.arrived)
    where
      inside : (end : SessionEnd) (at : ℕ) → slice_get (ends_of files) at ≡ Some end → end.internal ≡ true → ⊥
      inside end at there internal =
          let outer : not end.internal ≡ true = all_at (λ (e : SessionEnd). not e.internal)
          (ends_of files) at end external there in
          false≢true (sym (ap not internal) ∙ outer)

      whole : IsPlain learnt.message → (rec.clusters ≡ []) × (rec.originator ≡ None)
      whole plain = (learnt.taken.clusters ∙ plain.0, learnt.taken.originator ∙ plain.1)

      by_sent : (heard : IsHeardFrom learnt.end learnt.message) → IsSent files heard.far heard.route learnt.message →
          IsPlain learnt.message
      by_sent heard (inl plain) = plain
      by_sent heard (inr (internal, clusters)) = absurd (inside heard.far heard.at heard.there internal)

      by_message : IsPlain learnt.message ⊎ IsHeardFrom learnt.end learnt.message →
          (rec.clusters ≡ []) × (rec.originator ≡ None)
      by_message (inl plain) = whole plain
      by_message (inr heard) = whole (by_sent heard heard.sent)

  -- ---- clusters one by one

  module _ (once : NamesOnce files) (from : (router : ℕ) (rec : BgpRec) → held router ≡ Some rec → IsFrom router rec)
    where
      -- a route with a cluster was heard over an internal session
      record IsReflected (router : ℕ) (rec : BgpRec) : Type 0 where
        learnt : IsLearnt router rec
        heard : IsHeardFrom learnt.end learnt.message
        internal : heard.far.internal ≡ true
        clusters : rec.clusters
            ≡ exports.reflected_clusters files heard.far.router heard.route
            (exports.learnt_over files heard.far.router heard.route.from)

      none_not : (xs : List Addr) (k : ℕ) → xs ≡ [] → length xs ≡ suc k → ⊥
      none_not xs k none long = let none_long = ap length none in omega (arith, none_long, long)

      reflected_from : (router : ℕ) (rec : BgpRec) (k : ℕ) → IsFrom router rec → length rec.clusters ≡ suc k →
          IsReflected router rec
      reflected_from router rec k (inl bare) long = absurd (none_not rec.clusters k bare.clusters long)
      reflected_from router rec k (inr learnt) long =
          by_message (heard_from learnt.at learnt.end learnt.message learnt.arrived)
        where
          same : rec.clusters ≡ learnt.message.clusters
          same = learnt.taken.clusters

          by_sent : (heard : IsHeardFrom learnt.end learnt.message) →
              IsSent files heard.far heard.route learnt.message →
              IsReflected router rec
          by_sent heard (inl plain) = absurd (none_not rec.clusters k (same ∙ plain.0) long)
          by_sent heard (inr (internal, clusters)) = record {
            learnt = learnt;
            heard = heard;
            internal = internal;
            clusters = same ∙ clusters;
          }

          by_message : IsPlain learnt.message ⊎ IsHeardFrom learnt.end learnt.message → IsReflected router rec
          by_message (inl plain) = absurd (none_not rec.clusters k (same ∙ plain.0) long)
          by_message (inr heard) = by_sent heard heard.sent

      -- and the end over which it was learnt is internal
      learnt_internal : (router : ℕ) (rec : BgpRec) → IsReflected router rec →
          (found : SessionEnd) × (exports.learnt_over files router rec.from ≡ Some found) × (found.internal ≡ true)
      learnt_internal router rec reflected =
          let learnt = reflected.learnt in
          let heard = reflected.heard in
          let end = learnt.end in
          let taken = learnt.taken in
          let is = learnt.is in
          let alike = all_found (IsAlike files) (ends_of files) is.k end (ends_alike files) is.there in
          let found = towards_alike files once is.k end taken.neighbour is.there alike taken.named in
          let internal : end.internal ≡ true =
          alike.far heard.at heard.far heard.reached heard.there ∙ reflected.internal in (
            found.0,
            ap (exports.learnt_over files router) taken.from
                ∙ ap (λ r. exports.end_towards files r taken.neighbour.addr) (sym is.own) ∙ found.1,
            found.2 ∙ internal,
          )

      -- a router holds a route with so many clusters
      abbrev Holds : ℕ → Type 0
      Holds n = (router : ℕ) × (rec : BgpRec) × (held router ≡ Some rec) × (length rec.clusters ≡ n)

      one_less : (k : ℕ) → Holds (suc k) → Holds k
      one_less k (router, rec, holds, long) =
          let reflected = reflected_from router rec k (from router rec holds) long in
          by_end reflected (exports.learnt_over files reflected.heard.far.router reflected.heard.route.from) refl
        where
          -- no route has as many clusters as one that a reflector made of it
          unmade : (reflected : IsReflected router rec) → reflected.heard.route.clusters ≡ rec.clusters →
              IfSome (exports.learnt_over files reflected.heard.far.router reflected.heard.route.from)
              (λ end. end.internal ≡ false) → ⊥
          unmade reflected same outside =
              let heard = reflected.heard in
              let far = heard.far.router in
              let again = reflected_from far heard.route k (from far heard.route heard.holds) (ap length same ∙ long) in
              let end = learnt_internal far heard.route again in
              let no : end.0.internal ≡ false = subst (λ o. IfSome o (λ e. e.internal ≡ false)) end.1 outside in
              let yes = end.2 in
              cc

          by_kind : (reflected : IsReflected router rec) (end : SessionEnd) → (b : Bool) → end.internal ≡ b →
              exports.learnt_over files reflected.heard.far.router reflected.heard.route.from ≡ Some end → Holds k
          by_kind reflected end true internal is =
              let heard = reflected.heard in
              let id = exports.router_id files heard.far.router in
              let made : rec.clusters ≡ id ∷ heard.route.clusters =
              reflected.clusters ∙ ap (exports.reflected_clusters files heard.far.router heard.route) is
              ∙ ap (λ b. if b then id ∷ heard.route.clusters else heard.route.clusters) internal in
              let count = ap length made in
              (heard.far.router, heard.route, heard.holds, omega (arith, count, long))
          by_kind reflected end false external is =
              let heard = reflected.heard in
              let id = exports.router_id files heard.far.router in
              let kept : rec.clusters ≡ heard.route.clusters =
              reflected.clusters ∙ ap (exports.reflected_clusters files heard.far.router heard.route) is
              ∙ ap (λ b. if b then id ∷ heard.route.clusters else heard.route.clusters) external in
              absurd (unmade reflected (sym kept) (subst (λ o. IfSome o (λ e. e.internal ≡ false)) (sym is) external))

          by_end : (reflected : IsReflected router rec) (o : Option SessionEnd) →
              exports.learnt_over files reflected.heard.far.router reflected.heard.route.from ≡ o → Holds k
          by_end reflected None is =
              let heard = reflected.heard in
              let kept : rec.clusters ≡ heard.route.clusters =
              reflected.clusters ∙ ap (exports.reflected_clusters files heard.far.router heard.route) is in
              absurd (unmade reflected (sym kept) (subst (λ o. IfSome o (λ e. e.internal ≡ false)) (sym is) tt))
          by_end reflected (Some end) is = by_kind reflected end end.internal refl is

      all_fewer : (n q : ℕ) → q ≤ n → Holds n → Holds q
      all_fewer zero q below holds =
          let same : zero ≡ q = omega arith in subst Holds same holds
      all_fewer (suc n) q below holds =
          by_order (cases_last q n below) (λ less. all_fewer n q less (one_less n holds))
        where
          cases_last : (q n : ℕ) → q ≤ suc n → (q ≤ n) ⊎ (suc n ≡ q)
          cases_last q n below = grind arith

          by_order : (q ≤ n) ⊎ (suc n ≡ q) → (q ≤ n → Holds q) → Holds q
          by_order (inl less) deeper = deeper less
          by_order (inr same) deeper = subst Holds same holds

      -- ---- so there are fewer clusters than routers

      module _ (routers : ℕ) (within : (router : ℕ) (rec : BgpRec) → held router ≡ Some rec → router < routers) where
        abbrev count : ℕ → ℕ
        count router = option_map_or (λ rec. length rec.clusters) (held router) 0

        any_count : (q router first n : ℕ) → first ≤ router → router < first + n → count router ≡ q →
            list_any (eqb q) (map count (range_with_len first n)) ≡ true
        any_count q router first zero low high is = absurd (omega arith)
        any_count q router first (suc n) low high is =
            by_order (cases_first first router low)
            (λ later. any_count q router (first + 1) n later (omega (arith, high)) is)
          where
            cases_first : (a b : ℕ) → a ≤ b → (a ≡ b) ⊎ (a + 1 ≤ b)
            cases_first a b low = grind arith

            rest : Bool
            rest = list_any (eqb q) (map count (range_with_len (first + 1) n))

            by_order : (first ≡ router) ⊎ (first + 1 ≤ router) → (first + 1 ≤ router → rest ≡ true) →
                (eqb q (count first) || rest) ≡ true
            by_order (inl same) deeper =
                or_left (eqb q (count first)) rest (eq-eqb q (count first) (sym is ∙ ap count (sym same)))
            by_order (inr later) deeper = or_right (eqb q (count first)) rest (deeper later)

        fewer : (router : ℕ) (rec : BgpRec) → held router ≡ Some rec → length rec.clusters < routers
        fewer router rec holds =
            let n = length rec.clusters in
            let long = le-length_from_below (map count (range_with_len 0 routers)) (suc n) (λ q below.
            let less = all_fewer n q (omega (arith, below)) (router, rec, holds, refl) in
            any_count q less.0 0 routers (omega arith) (omega (arith, within less.0 less.1 less.2))
            (ap (λ o. option_map_or (λ r. length r.clusters) o 0) less.2 ∙ less.3)) in
            let count_is = length-map (range_with_len 0 routers) count in
            let routers_is = range_long routers 0 in
            omega (arith, long, count_is, routers_is)
          where
            range_long : (n a : ℕ) → length (range_with_len a n) ≡ n
            range_long zero a = refl
            range_long (suc n) a = let rest = range_long n (a + 1) in omega (arith, rest)

        -- and no more in what a candidate has
        few_clusters : (router : ℕ) (rec : BgpRec) → IsFrom router rec → length rec.clusters ≤ routers
        few_clusters router rec (inl bare) = let none = ap length bare.clusters in omega (arith, none)
        few_clusters router rec (inr learnt) =
            by_message (heard_from learnt.at learnt.end learnt.message learnt.arrived)
          where
            same : rec.clusters ≡ learnt.message.clusters
            same = learnt.taken.clusters

            one_more : (end : SessionEnd) (o : Option SessionEnd) (route : BgpRec) →
                length (exports.reflected_clusters files end.router route o) ≤ length route.clusters + 1
            one_more end None route = omega arith
            one_more end (Some from) route = by_kind from.internal
              where
                by_kind : (b : Bool) →
                    length (if b then exports.router_id files end.router ∷ route.clusters else route.clusters)
                    ≤ length route.clusters + 1
                by_kind true = omega arith
                by_kind false = omega arith

            by_sent : (heard : IsHeardFrom learnt.end learnt.message) →
                IsSent files heard.far heard.route learnt.message → length rec.clusters ≤ routers
            by_sent heard (inl plain) = let long = ap length (same ∙ plain.0) in omega (arith, long)
            by_sent heard (inr (internal, clusters)) =
                let long = ap length (same ∙ clusters) in
                let over = exports.learnt_over files heard.far.router heard.route.from in
                let more = one_more heard.far over heard.route in
                let less = fewer heard.far.router heard.route heard.holds in
                omega (arith, long, more, less)

            by_message : IsPlain learnt.message ⊎ IsHeardFrom learnt.end learnt.message →
                length rec.clusters ≤ routers
            by_message (inl plain) = let long = ap length (same ∙ plain.0) in omega (arith, long)
            by_message (inr heard) = by_sent heard heard.sent

        short : routers < 2 ^ 32 → (router : ℕ) (c : Candidate) → IsFrom router c.rec → IsShort c
        short few router c is = record {
          path = short_path is;
          clusters = let count = few_clusters router c.rec is in omega (arith, count, few);
        }
          where
            short_path : IsFrom router c.rec → length c.rec.path < 2 ^ 32
            short_path (inl bare) = let none = ap length bare.path in omega (arith, none)
            short_path (inr learnt) = let few = learnt.taken.few in omega (arith, few)

-- ---- stable routings

module _ (files : List File) (destination : Addr) (failures : Failures) (environment : Environment) (tables : Tables)
    (stable : Stable files destination failures environment tables) (len : ℕ) (below : len < LENGTHS) where
  abbrev p : Prefix
  p = prefix_at destination len

  -- the slot of a router that holds a route
  slot_of : (r : ℕ) (rec : BgpRec) (o : Option Slot) → slot_at tables r len ≡ o →
      option_and_then (λ slot. slot.bgp) o ≡ Some rec →
      (slot : Slot) × (slot_at tables r len ≡ Some slot) × (slot.bgp ≡ Some rec)
  slot_of r rec None there holds = cc
  slot_of r rec (Some slot) there holds = (slot, there, holds)

  is_router : (r : ℕ) (rec : BgpRec) → held files failures environment tables p r ≡ Some rec → r < length files
  is_router r rec holds =
      let slot = slot_of r rec (slot_at tables r len) refl holds in
      let place = slice_get_within tables.slots (LENGTHS * r + len) slot.0 slot.1 in
      let size = stable.size in
      omega (arith, place, size)

  held_from : (r : ℕ) (rec : BgpRec) → held files failures environment tables p r ≡ Some rec →
      IsFrom files failures environment tables p r rec
  held_from r rec holds =
      let slot = slot_of r rec (slot_at tables r len) refl holds in
      let named = item_there files r (is_router r rec holds) in
      let equations = stable.equations r len named.0 slot.0 named.1 below slot.1 in
      decided_from files failures environment tables p r named.0 rec
      (subst (IsDecided files failures environment tables r named.0 p) slot.2 equations.bgp)

-- in a stable routing a held route has fewer clusters than there are routers
pub stable_fewer : (files : List File) (destination : Addr) (failures : Failures) (environment : Environment)
    (tables : Tables) → list_all keeps_limits files ≡ true →
    Stable files destination failures environment tables → (router len : ℕ) (slot : Slot) (rec : BgpRec) →
    len < LENGTHS → slot_at tables router len ≡ Some slot → slot.bgp ≡ Some rec →
    length rec.clusters < length files
stable_fewer files destination failures environment tables limits stable router len slot rec below there holds =
    fewer files failures environment tables (prefix_at destination len) (names_once files limits)
    (held_from files destination failures environment tables stable len below) (length files)
    (is_router files destination failures environment tables stable len below) router rec
    (ap (option_and_then (λ (s : Slot). s.bgp)) there ∙ holds)

-- and 32 bits count the lists of its candidates
pub stable_short : (files : List File) (destination : Addr) (failures : Failures) (environment : Environment)
    (tables : Tables) → list_all keeps_limits files ≡ true → length files < 2 ^ 32 →
    Stable files destination failures environment tables → (router len : ℕ) (file : File) (process : Bgp) →
    len < LENGTHS →
    All IsShort (candidates files failures environment tables router file process (prefix_at destination len))
stable_short files destination failures environment tables limits few stable router len file process below =
    let p = prefix_at destination len in
    All-weaker (λ c. IsFrom files failures environment tables p router c.rec) IsShort
    (short files failures environment tables p (names_once files limits)
    (held_from files destination failures environment tables stable len below) (length files)
    (is_router files destination failures environment tables stable len below) few router)
    (candidates files failures environment tables router file process p)
    (all_from files failures environment tables p router file process)

-- in a stable routing the path of a held route has at most 255 numbers, and where each session is external it has neither
-- clusters nor an originator
pub stable_plain : (files : List File) (destination : Addr) (failures : Failures) (environment : Environment)
    (tables : Tables) → Stable files destination failures environment tables → (router len : ℕ) (slot : Slot)
    (rec : BgpRec) → len < LENGTHS → slot_at tables router len ≡ Some slot → slot.bgp ≡ Some rec →
    (length rec.path ≤ 255) × (list_all (λ end. not end.internal) (ends_of files) ≡ true →
    (rec.clusters ≡ []) × (rec.originator ≡ None))
stable_plain files destination failures environment tables stable router len slot rec below there holds =
    let p = prefix_at destination len in
    let from = held_from files destination failures environment tables stable len below router rec
    (ap (option_and_then (λ (s : Slot). s.bgp)) there ∙ holds) in (
      short_path files failures environment tables p router rec from,
      λ external. plain_from files failures environment tables p external router rec from,
    )
