-- Where no line gives anything, no router holds anything and nobody announces anything, empty slots are stable.
use Rattle.std.proofs.Common.{◌≡◌, ℕ, Bool, true, false, List, [], ◌∷◌, ◌++◌}
use Rattle.std.proofs.Common.{Option, Some, None, refl, sym, ap, ◌∙◌}
use Rattle.std.specs.Prelude.{◌&&◌, ◌==◌, filter, map, slice_get, option_map, option_and_then}
use Rattle.std.specs.Prelude.{MatchOption, if◌then◌else◌, ◌||◌}
use Rattle.std.specs.List.{cons_option, enumerate_from, filter_map}
use Rattle.std.specs.Option.{option_map_or, option_to_list}
use Rattle.mw_text.specs.declared.address.Prefix.{Prefix}
use Rattle.ios_ast.specs.declared.bgp.Bgp.{Bgp}
use Rattle.ios_ast.specs.declared.file.File.{File}
use Rattle.ios_ast.specs.declared.ospf.Ospf.{Ospf}
use Rattle.ios_ast.specs.declared.file.StaticRoute.{StaticRoute}
use Rattle.route_record.specs.declared.BgpRec.{BgpRec}
use Rattle.route_record.specs.declared.Environment.{Environment}
use Rattle.route_record.specs.declared.Failures.{Failures}
use Rattle.route_record.specs.declared.OspfKind.TheVariants.{Internal}
use Rattle.route_record.specs.declared.RibSource.TheVariants.{Connected, Static}
use Rattle.route_record.specs.declared.Slot.{Slot}
use Rattle.route_record.specs.declared.Tables.{Tables}
use Rattle.route_record.specs.Places.{slot_at}
use Rattle.net_parts.specs.declared.adjacencies.Adjacency.{Adjacency}
use Rattle.net_parts.specs.declared.ospf.OspfInterface.{OspfInterface}
use Rattle.net_parts.specs.declared.sessions.Far.{Far}
use Rattle.net_parts.specs.declared.sessions.Far.TheVariants.{Outside, Inside}
use Rattle.net_parts.specs.declared.sessions.SessionEnd.{SessionEnd}
use Rattle.net_parts.specs.Decisions.{DecidedByBgp, arriving, candidates, candidates_from}
use Rattle.net_parts.specs.Decisions.{learnt_candidate, local_candidate, taken_candidate}
use Rattle.net_parts.specs.Entries.{entry_with, table_entry}
use Rattle.net_parts.specs.Exports.{announced_message, exported, imported}
use Rattle.net_parts.specs.Origins.{by_network, external_record, into_bgp, into_ospf, local_routes, redistributed}
use Rattle.net_parts.specs.Origins.{originated_default}
use Rattle.net_parts.specs.Ospf.{adjacencies, receives}
use Rattle.net_parts.specs.OspfRoutes.{extended, far_record, first_best, held_by_ospf, held_from, offer_heard}
use Rattle.net_parts.specs.OspfRoutes.{own_origins}
use Rattle.net_parts.specs.Resolution.{session_up}
use Rattle.net_parts.specs.Routing.{least_distance, up_interfaces}
use Rattle.net_parts.specs.Sessions.{ends_of, neighbour_of}
use Rattle.net_parts.specs.Stable.{IsDecided, IsStableSlot, held_ospf}
use Rattle.plan_places.specs.Tables.{empty_slot}
use Rattle.alike_prefixes.specs.Alike.{IsBare}
use Rattle.alike_prefixes.specs.Moving.{IsEmptyAt}

pub and_then_none : {A B : Type 0} (f : A → Option B) (o : Option A) → ((x : A) → o ≡ Some x → f x ≡ None) →
    option_and_then f o ≡ None
and_then_none f None none = refl
and_then_none f (Some x) none = none x refl

pub filter_map_none : {A B : Type 0} (f : A → Option B) (xs : List A) → ((x : A) → f x ≡ None) → filter_map f xs ≡ []
filter_map_none f [] none = refl
filter_map_none f (x ∷ xs) none = λ i. cons_option (none x i) (filter_map_none f xs none i)

-- an empty slot gives BGP nothing
pub none_local : (files : List File) (p : Prefix) (router : ℕ) (file : File) (process : Bgp) →
    local_routes files router file process p empty_slot ≡ []
unfolding local_routes
none_local files p router file process =
    let networks = filter_map_none (by_network file p empty_slot) process.networks (λ line. refl) in
    let lines = filter_map_none (into_bgp files router file p empty_slot) process.redistribute (λ line. refl) in
    λ i. networks i ++ lines i

module _ (files : List File) (failures : Failures) (environment : Environment) (tables : Tables) (p : Prefix)
    (bare : IsBare files p) (empty : IsEmptyAt environment tables p.len) where
  no_part : {A : Type 0} (part : Slot → Option A) → part empty_slot ≡ None → (router : ℕ) →
      option_and_then part (slot_at tables router p.len) ≡ None
  no_part part none router = and_then_none part (slot_at tables router p.len)
      (λ slot here. ap part (empty.slots router slot here) ∙ none)

  own_none : (router : ℕ) (file : File) (process : Ospf) → slice_get files router ≡ Some file →
      own_origins files failures router file process p empty_slot ≡ []
  unfolding own_origins redistributed
  own_none router file process at =
      let lines = filter_map_none (into_ospf file p empty_slot) process.redistribute (λ line. refl) in
      let default = and_then_none (originated_default p empty_slot) process.default (λ line there.
      λ i. if bare.not_default i && (line.always || false)
      then Some (external_record line.type1 line.metric) else None) in
      λ i. map (λ (x : OspfInterface). record { kind = Internal; metric = 0; cost = x.cost })
      (bare.origins failures router i) ++ (lines i ++ option_to_list (default i))

  none_own : {A : Type 0} (f : Slot → List A) → f empty_slot ≡ [] → (router : ℕ) →
      option_map_or f (slot_at tables router p.len) [] ≡ []
  none_own f none router = by (slot_at tables router p.len) (λ slot. empty.slots router slot) where
    by : (o : Option Slot) → ((slot : Slot) → o ≡ Some slot → slot ≡ empty_slot) → option_map_or f o [] ≡ []
    by None all = refl
    by (Some slot) all = ap f (all slot refl) ∙ none

  none_held : (router : ℕ) (file : File) → slice_get files router ≡ Some file →
      held_ospf files failures tables router file p ≡ None
  unfolding held_by_ospf held_from
  none_held router file at = and_then_none _ file.ospf (λ process runs.
      λ i. first_best (none_own (own_origins files failures router file process p) (own_none router file process at)
      router i
      ++ filter_map_none (offer_heard (λ over a. far_record tables p a))
      (filter (λ over. receives files failures router over.1) (enumerate_from 0 (adjacencies files))) none_offered i))
    where
      none_offered : (over : ℕ × Adjacency) → offer_heard (λ at' a. far_record tables p a) over ≡ None
      none_offered over = λ i. option_and_then (extended over.1.cost)
          (no_part (λ slot. slot.ospf) refl over.1.to.router i)

  none_arrives : (at : ℕ) (end : SessionEnd) → arriving files environment tables p at end ≡ None
  unfolding arriving
  none_arrives at end = by_far end.far where
    by_far : (far : Far) → arriving files environment tables p at (record end { far = far }) ≡ None
    by_far Outside = and_then_none _ (neighbour_of files end) (λ neighbour there.
        ap (option_map (announced_message neighbour.addr)) (empty.announced at))
    by_far (Inside far_at) = and_then_none _ (slice_get (ends_of files) far_at) (λ far there.
        ap (option_and_then (exported files far p)) (no_part (λ slot. slot.bgp) refl far.router))

  none_learnt : (at : ℕ) (end : SessionEnd) →
      learnt_candidate files failures environment.ids p at end (arriving files environment tables p at end) ≡ None
  none_learnt at end = λ i. if_none (session_up files failures end)
      (λ j. option_and_then (taken_candidate files failures environment.ids at end)
      (option_and_then (imported files end p) (none_arrives at end j))) i
    where
      if_none : {A : Type 0} (b : Bool) {o : Option A} → o ≡ None → (if b then o else None) ≡ None
      if_none true none = none
      if_none false none = refl

  none_candidate : (router : ℕ) (file : File) (process : Bgp) →
      candidates files failures environment tables router file process p ≡ []
  unfolding candidates candidates_from
  none_candidate router file process =
      λ i. map (local_candidate files router)
      (none_own (local_routes files router file process p) (none_local files p router file process) router i)
      ++ filter_map_none (λ e. learnt_candidate files failures environment.ids p e.0 e.1
      (arriving files environment tables p e.0 e.1))
      (filter (λ e. e.1.router == router) (enumerate_from 0 (ends_of files))) (λ e. none_learnt e.0 e.1) i

  none_decided : (router : ℕ) (file : File) → IsDecided files failures environment tables router file p None
  unfolding DecidedByBgp
  none_decided router file = by_process file.bgp where
    no_route : Option BgpRec
    no_route = None

    by_process : (o : Option Bgp) →
        MatchOption o (no_route ≡ None)
        (λ process. DecidedByBgp files failures environment tables router file process p no_route)
    by_process None = refl
    by_process (Some process) = none_candidate router file process

  none_entry : (router : ℕ) (file : File) → slice_get files router ≡ Some file →
      table_entry files failures router file p empty_slot ≡ None
  unfolding entry_with
  none_entry router file at =
      let up = up_interfaces files failures router in
      let direct = bare.direct failures router in
      let statics = bare.statics router file up at in
      λ i. least_distance (((if direct i then record { source = Connected; distance = 0 } ∷ [] else [])
      ++ map (λ (route : StaticRoute). record { source = Static; distance = route.distance }) (statics i)) ++ [] ++ [])

  -- nothing at all is stable there
  pub empty_stable : (router : ℕ) (file : File) → slice_get files router ≡ Some file →
      IsStableSlot files failures environment tables router file p empty_slot
  empty_stable router file at = record {
    ospf = sym (none_held router file at);
    bgp = none_decided router file;
    rib = sym (none_entry router file at);
  }
