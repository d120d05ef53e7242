-- What is said of one prefix in the definition of a stable routing is said of every prefix that is alike.
use Rattle.std.proofs.Common.{◌≡◌, ℕ, Bool, false, List, [], ◌∷◌, ◌++◌, length, Option, Some}
use Rattle.std.proofs.Common.{None, refl, sym, ap, subst, ◌∙◌}
use Rattle.std.specs.Prelude.{All, filter, map, not, ◌&&◌, ◌||◌, ◌==◌, slice_get, option_map, option_and_then}
use Rattle.std.specs.Prelude.{unwrap_or}
use Rattle.std.specs.Prelude.{if◌then◌else◌, MatchOption}
use Rattle.std.specs.List.{cons_option, enumerate_from, filter_map, find, list_any}
use Rattle.std.specs.Option.{option_map_or, option_to_list}
use Rattle.std.proofs.lemmas.List.Elements.{All-head, All-tail}
use Rattle.mw_text.specs.declared.address.Addr.{Addr}
use Rattle.mw_text.specs.declared.address.Prefix.{Prefix}
use Rattle.ios_ast.specs.declared.bgp.Bgp.{Bgp}
use Rattle.ios_ast.specs.declared.bgp.BgpNet.{BgpNet}
use Rattle.ios_ast.specs.declared.bgp.Neighbour.{Neighbour}
use Rattle.ios_ast.specs.declared.file.File.{File}
use Rattle.ios_ast.specs.declared.file.StaticRoute.{StaticRoute}
use Rattle.ios_ast.specs.declared.file.Use.{Use}
use Rattle.ios_ast.specs.declared.ospf.DefaultOrigin.{DefaultOrigin}
use Rattle.ios_ast.specs.declared.ospf.Ospf.{Ospf}
use Rattle.ios_ast.specs.declared.ospf.Redist.{Redist}
use Rattle.ios_ast.specs.declared.ospf.Source.{Source}
use Rattle.ios_ast.specs.declared.ospf.Source.TheVariants as source
use Rattle.ios_ast.specs.declared.policies.MapEntry.{MapEntry}
use Rattle.ios_ast.specs.Maps.{through_map}
use Rattle.ios_ast.specs.Setting.{Attributes, set_all}
use Rattle.route_record.specs.declared.BgpMsg.{BgpMsg}
use Rattle.route_record.specs.declared.BgpRec.{BgpRec}
use Rattle.route_record.specs.declared.Environment.{Environment}
use Rattle.route_record.specs.declared.Failures.{Failures}
use Rattle.route_record.specs.declared.OspfKind.TheVariants.{Internal}
use Rattle.route_record.specs.declared.Origin.TheVariants.{Igp, Incomplete}
use Rattle.route_record.specs.declared.RibSource.{RibSource}
use Rattle.route_record.specs.declared.RibSource.TheVariants.{Connected, Static, Ebgp, Ospf as OspfEntry, Ibgp}
use Rattle.route_record.specs.declared.Slot.{Slot}
use Rattle.route_record.specs.declared.Tables.{Tables}
use Rattle.route_record.specs.Places.{slot_at}
use Rattle.net_parts.specs.declared.adjacencies.Adjacency.{Adjacency}
use Rattle.net_parts.specs.declared.ospf.OspfInterface.{OspfInterface}
use Rattle.net_parts.specs.declared.sessions.Far.{Far}
use Rattle.net_parts.specs.declared.sessions.Far.TheVariants.{Outside, Inside}
use Rattle.net_parts.specs.declared.sessions.SessionEnd.{SessionEnd}
use Rattle.net_parts.specs.Decisions.{DecidedByBgp, IsDecidedAmong, arriving, candidates, candidates_from}
use Rattle.net_parts.specs.Decisions.{learnt_candidate, local_candidate, taken_candidate}
use Rattle.net_parts.specs.Entries.{bgp_entry, entry_with, own_is_as_good, ospf_entry, table_entry}
use Rattle.net_parts.specs.Exports.{announced_message, exported, imported, passes_prefixes, passes_paths, sent}
use Rattle.net_parts.specs.Exports.{external_message, internal_message, is_acceptable, may_go, own_address, received}
use Rattle.net_parts.specs.Exports.{if_short, is_metric, sets_metric}
use Rattle.net_parts.specs.Mapping.{attributes_of, with_attributes}
use Rattle.net_parts.specs.Origins.{by_network, external_record, into_bgp, into_ospf, is_classful, is_default, is_from}
use Rattle.net_parts.specs.Origins.{is_ospf_subnet, is_taken, local_route, local_routes, local_through, redistributed}
use Rattle.net_parts.specs.Origins.{originated_default, redistributed_route, taken_metric, entry_metric, is_ospf_entry}
use Rattle.net_parts.specs.OspfRoutes.{far_record, held_by_ospf, held_from, is_as_good, own_origins}
use Rattle.net_parts.specs.Resolution.{session_up}
use Rattle.net_parts.specs.Routing.{least_distance, up_interfaces}
use Rattle.net_parts.specs.Sessions.{ends_of, neighbour_of}
use Rattle.net_parts.specs.Stable.{IsDecided, IsStableSlot, held_ospf}
use Rattle.alike_prefixes.specs.Alike.{AlikePrefixes, IsBare, NamesAlike, SamePolicies, TakesClassAlike}

pub same_policies : (files : List File) (p : Prefix) → SamePolicies files p p
same_policies files p = record {
  lists = λ router file named at. refl;
  maps = λ router file named r at. refl;
  classes = λ router file process at runs. λ k d within. refl;
}

pub alike_itself : (files : List File) (p : Prefix) → AlikePrefixes files p p
alike_itself files p = record {
  default = refl;
  direct = λ failures router. refl;
  statics = λ router file up at. refl;
  origins = λ failures router. refl;
  networks = λ router file process at runs. λ k d within. refl;
  subnet = λ router. refl;
  policies = same_policies files p;
}

pub alike_bare : (files : List File) (p q : Prefix) → IsBare files p → IsBare files q → SamePolicies files p q →
    AlikePrefixes files p q
alike_bare files p q a b same = record {
  default = a.not_default ∙ sym b.not_default;
  direct = λ failures router. a.direct failures router ∙ sym (b.direct failures router);
  statics = λ router file up at. a.statics router file up at ∙ sym (b.statics router file up at);
  origins = λ failures router. a.origins failures router ∙ sym (b.origins failures router);
  networks = λ router file process at runs. λ k d within.
      a.networks router file process at runs k d within ∙ sym (b.networks router file process at runs k d within);
  subnet = λ router. a.no_subnet router ∙ sym (b.no_subnet router);
  policies = same;
}

-- ---- small lemmas

and_then_alike : {A B : Type 0} (f g : A → Option B) (o : Option A) → ((x : A) → o ≡ Some x → f x ≡ g x) →
    option_and_then f o ≡ option_and_then g o
and_then_alike f g None same = refl
and_then_alike f g (Some x) same = same x refl

map_or_alike : {A B : Type 0} (f g : A → B) (o : Option A) (d : B) → ((x : A) → o ≡ Some x → f x ≡ g x) →
    option_map_or f o d ≡ option_map_or g o d
map_or_alike f g None d same = refl
map_or_alike f g (Some x) d same = same x refl

filter_map_alike : {A B : Type 0} (f g : A → Option B) (xs : List A) → All (λ x. f x ≡ g x) xs →
    filter_map f xs ≡ filter_map g xs
filter_map_alike f g [] all = refl
filter_map_alike f g (x ∷ xs) all =
    let here : f x ≡ g x = All-head (λ y. f y ≡ g y) x xs all in
    let rest = filter_map_alike f g xs (All-tail (λ y. f y ≡ g y) x xs all) in
    simp (here, rest)

module _ (files : List File) (p q : Prefix) (alike : AlikePrefixes files p q) where
  default_alike : is_default p ≡ is_default q
  default_alike = alike.default

  -- ---- route maps and lists

  through_alike : (router : ℕ) (file : File) (used : Option Use) (external : Bool) (r : Attributes) →
      slice_get files router ≡ Some file →
      through_map file.policies used p external r ≡ through_map file.policies used q external r
  through_alike router file None external r at = refl
  through_alike router file (Some named) external r at =
      λ i. option_and_then (λ e. if e.permit then Some (set_all external r e.sets) else None)
      (alike.policies.maps router file named r at i)

  prefixes_alike : (router : ℕ) (file : File) (used : Option Use) → slice_get files router ≡ Some file →
      passes_prefixes file.policies used p ≡ passes_prefixes file.policies used q
  prefixes_alike router file None at = refl
  prefixes_alike router file (Some named) at = alike.policies.lists router file named at

  metric_alike : (router : ℕ) (file : File) (used : Option Use) (r : Attributes) → slice_get files router ≡ Some file →
      sets_metric file.policies used p r ≡ sets_metric file.policies used q r
  metric_alike router file None r at = refl
  metric_alike router file (Some named) r at =
      ap (λ o. option_map_or (λ (e : MapEntry). list_any is_metric e.sets) o false)
      (alike.policies.maps router file named r at)

  -- ---- OSPF

  taken_alike : (line : Redist) (source : RibSource) →
      (line.subnets || is_classful p) ≡ (line.subnets || is_classful q) → is_taken line p source
      ≡ is_taken line q source
  taken_alike line source same =
      λ i. is_from line.source source && (not (default_alike i) && same i)

  into_alike : (router : ℕ) (file : File) (slot : Slot) (line : Redist) → slice_get files router ≡ Some file →
      (line.subnets || is_classful p) ≡ (line.subnets || is_classful q) →
      into_ospf file p slot line ≡ into_ospf file q slot line
  into_alike router file slot line at same =
      λ i. option_and_then (λ entry.
      if taken_alike line entry.source same i
      then option_map (λ r. external_record r.type1 r.med)
      (option_and_then (λ r. through_alike router file line.map false r at i) (redistributed_route line slot))
      else None) slot.rib

  all_into : (router : ℕ) (file : File) (slot : Slot) (lines : List Redist) → slice_get files router ≡ Some file →
      All (TakesClassAlike p q) lines →
      filter_map (into_ospf file p slot) lines ≡ filter_map (into_ospf file q slot) lines
  all_into router file slot [] at same = refl
  all_into router file slot (line ∷ lines) at same =
      let here = into_alike router file slot line at (All-head (TakesClassAlike p q) line lines same) in
      let rest = all_into router file slot lines at (All-tail (TakesClassAlike p q) line lines same) in
      λ i. cons_option (here i) (rest i)

  default_origin_alike : (slot : Slot) (line : DefaultOrigin) →
      originated_default p slot line ≡ originated_default q slot line
  default_origin_alike slot line =
      λ i. if default_alike i && (line.always || option_map_or (λ entry. not
      (is_ospf_entry entry.source)) slot.rib false)
      then Some (external_record line.type1 line.metric) else None

  redistributed_alike : (router : ℕ) (file : File) (process : Ospf) (slot : Slot) → slice_get files router ≡ Some file →
      file.ospf ≡ Some process → redistributed file process p slot ≡ redistributed file process q slot
  unfolding redistributed
  redistributed_alike router file process slot at runs =
      let lines = all_into router file slot process.redistribute at
      (alike.policies.classes router file process at runs) in
      λ i. lines i ++ option_to_list (option_and_then (λ line. default_origin_alike slot line i) process.default)

  own_alike : (failures : Failures) (router : ℕ) (file : File) (process : Ospf) (slot : Slot) →
      slice_get files router ≡ Some file → file.ospf ≡ Some process →
      own_origins files failures router file process p slot ≡ own_origins files failures router file process q slot
  unfolding own_origins
  own_alike failures router file process slot at runs =
      let origins = alike.origins failures router in
      λ i. map (λ (x : OspfInterface). record { kind = Internal; metric = 0; cost = x.cost }) (origins i)
      ++ redistributed_alike router file process slot at runs i

  module _ (tables tables' : Tables)
      (same : (router : ℕ) → slot_at tables router p.len ≡ slot_at tables' router q.len) where
    far_alike : (a : Adjacency) → far_record tables p a ≡ far_record tables' q a
    far_alike a = λ i. option_and_then (λ slot. slot.ospf) (same a.to.router i)

    held_alike : (failures : Failures) (router : ℕ) (file : File) → slice_get files router ≡ Some file →
        held_ospf files failures tables router file p ≡ held_ospf files failures tables' router file q
    unfolding held_by_ospf
    held_alike failures router file at = and_then_alike _ _ file.ospf (λ process runs.
        λ i. held_from files failures (λ over a. far_alike a i) router
        (option_map_or (λ slot. own_alike failures router file process slot at runs i) (same router i) []))

  -- ---- the table

  as_good_alike : (failures : Failures) (router : ℕ) (file : File) (slot : Slot) → slice_get files router ≡ Some file →
      own_is_as_good files failures router file p slot ≡ own_is_as_good files failures router file q slot
  as_good_alike failures router file slot at = map_or_alike _ _ slot.ospf false (λ held holds.
      map_or_alike _ _ file.ospf false (λ process runs.
      λ i. list_any (λ o. is_as_good o held) (own_alike failures router file process slot at runs i)))

  entry_alike : (failures : Failures) (router : ℕ) (file : File) (slot : Slot) → slice_get files router ≡ Some file →
      table_entry files failures router file p slot ≡ table_entry files failures router file q slot
  unfolding entry_with
  entry_alike failures router file slot at =
      let up = up_interfaces files failures router in
      let direct = alike.direct failures router in
      let statics = alike.statics router file up at in
      λ i. least_distance (((if direct i then record { source = Connected; distance = 0 } ∷ [] else [])
      ++ map (λ (route : StaticRoute). record { source = Static; distance = route.distance }) (statics i))
      ++ option_to_list (bgp_entry files router slot)
      ++ option_to_list (ospf_entry (as_good_alike failures router file slot at i) slot))

  -- ---- local routes of BGP

  local_alike : (router : ℕ) (file : File) (used : Option Use) (rec : BgpRec) → slice_get files router ≡ Some file →
      local_through file used p rec ≡ local_through file used q rec
  local_alike router file used rec at =
      λ i. option_map (with_attributes rec) (through_alike router file used false (attributes_of rec) at i)

  network_alike : (router : ℕ) (file : File) (slot : Slot) (line : BgpNet) → slice_get files router ≡ Some file →
      NamesAlike p q line → by_network file p slot line ≡ by_network file q slot line
  network_alike router file slot line at same = λ i. option_and_then (λ entry. option_and_then (λ med.
      if same i then local_alike router file line.map (local_route Igp med) at i else None)
      (entry_metric slot entry.source)) slot.rib

  all_networks : (router : ℕ) (file : File) (slot : Slot) (lines : List BgpNet) → slice_get files router ≡ Some file →
      All (NamesAlike p q) lines → filter_map (by_network file p slot) lines ≡ filter_map (by_network file q slot) lines
  all_networks router file slot [] at same = refl
  all_networks router file slot (line ∷ lines) at same =
      let here = network_alike router file slot line at (All-head (NamesAlike p q) line lines same) in
      let rest = all_networks router file slot lines at (All-tail (NamesAlike p q) line lines same) in
      λ i. cons_option (here i) (rest i)

  into_bgp_alike : (router : ℕ) (file : File) (slot : Slot) (line : Redist) → slice_get files router ≡ Some file →
      into_bgp files router file p slot line ≡ into_bgp files router file q slot line
  into_bgp_alike router file slot line at = λ i. option_and_then (λ entry. option_and_then (λ metric.
      if default_alike i then None
      else local_alike router file line.map (local_route Incomplete (unwrap_or line.metric metric)) at i)
      (metric_is entry.source i)) slot.rib
    where
      subnets : is_ospf_subnet files router p ≡ is_ospf_subnet files router q
      subnets = alike.subnet router

      metric_is : (entry : RibSource) →
          taken_metric files router p slot line entry ≡ taken_metric files router q slot line entry
      metric_is entry = by_source line.source entry where
        by_source : (source : Source) (entry : RibSource) →
            taken_metric files router p slot (record line { source = source }) entry
            ≡ taken_metric files router q slot (record line { source = source }) entry
        by_source source.Connected entry = refl
        by_source source.Static entry = refl
        by_source (source.Bgp asn) entry = refl
        by_source (source.Ospf process) Connected = λ i. if line.internal && subnets i then Some 0 else None
        by_source (source.Ospf process) Static = refl
        by_source (source.Ospf process) Ebgp = refl
        by_source (source.Ospf process) OspfEntry = refl
        by_source (source.Ospf process) Ibgp = refl

  locals_alike : (router : ℕ) (file : File) (process : Bgp) (slot : Slot) → slice_get files router ≡ Some file →
      file.bgp ≡ Some process →
      local_routes files router file process p slot ≡ local_routes files router file process q slot
  unfolding local_routes
  locals_alike router file process slot at runs =
      let networks = all_networks router file slot process.networks at (alike.networks router file process at runs) in
      λ i. networks i ++ filter_map (λ line. into_bgp_alike router file slot line at i) process.redistribute

  -- ---- what is sent and received

  sent_alike : (file : File) (process : Bgp) (neighbour : Neighbour) (end : SessionEnd) (held : BgpRec) →
      slice_get files end.router ≡ Some file →
      sent files file process neighbour end p held ≡ sent files file process neighbour end q held
  sent_alike file process neighbour end held at =
      λ i. if may_go files process end held
      && (prefixes_alike end.router file neighbour.prefix_out at i
      && passes_paths file.policies neighbour.filter_out held.path)
      then option_map (λ r.
      if end.internal then internal_message files end.router neighbour (own_address files end) held r
      else external_message process neighbour (own_address files end) (length held.path == 0
      || metric_alike end.router file neighbour.map_out (attributes_of held) at i) held r)
      (through_alike end.router file neighbour.map_out (not end.internal) (attributes_of held) at i)
      else None

  exported_alike : (end : SessionEnd) (held : BgpRec) → exported files end p held ≡ exported files end q held
  unfolding exported
  exported_alike end held = and_then_alike _ _ (slice_get files end.router) (λ file at.
      λ i. option_and_then (λ process. option_and_then (λ neighbour.
      sent_alike file process neighbour end held at i) (neighbour_of files end)) file.bgp)

  imported_alike : (end : SessionEnd) (message : BgpMsg) →
      imported files end p message ≡ imported files end q message
  unfolding imported
  imported_alike end message = and_then_alike _ _ (slice_get files end.router) (λ file at.
      λ i. option_and_then (λ process. option_and_then (λ neighbour.
      if is_acceptable files end.router process message
      && (prefixes_alike end.router file neighbour.prefix_in at i
      && passes_paths file.policies neighbour.filter_in message.path)
      then option_and_then (λ r. if_short (with_attributes (received neighbour end message) r))
      (through_alike end.router file neighbour.map_in (not end.internal)
      (attributes_of (received neighbour end message)) at i)
      else None) (neighbour_of files end)) file.bgp)

  -- ---- decisions

  module _ (tables tables' : Tables) (environment environment' : Environment)
      (same : (router : ℕ) → slot_at tables router p.len ≡ slot_at tables' router q.len)
      (ids : environment.ids ≡ environment'.ids)
      (announced : (at : ℕ) (peer : Addr) → option_map (announced_message peer)
      (find (λ a. (a.end == at) && (a.len == p.len)) environment.announced)
      ≡ option_map (announced_message peer) (find (λ a. (a.end == at) && (a.len ==
      q.len)) environment'.announced)) where
    arriving_alike : (at : ℕ) (end : SessionEnd) →
        arriving files environment tables p at end ≡ arriving files environment' tables' q at end
    unfolding arriving
    arriving_alike at end = by_far end.far where
      by_far : (far : Far) → arriving files environment tables p at (record end { far = far })
          ≡ arriving files environment' tables' q at (record end { far = far })
      by_far Outside = λ i. option_and_then (λ neighbour. announced at neighbour.addr i) (neighbour_of files end)
      by_far (Inside far_at) = λ i. option_and_then (λ far. option_and_then (λ held. exported_alike far held i)
          (option_and_then (λ slot. slot.bgp) (same far.router i))) (slice_get (ends_of files) far_at)

    learnt_alike : (failures : Failures) (at : ℕ) (end : SessionEnd) →
        learnt_candidate files failures environment.ids p at end (arriving files environment tables p at end)
        ≡ learnt_candidate files failures environment'.ids q at end (arriving files environment' tables' q at end)
    learnt_alike failures at end = λ i. if session_up files failures end
        then option_and_then (taken_candidate files failures (ids i) at end)
        (option_and_then (λ message. imported_alike end message i) (arriving_alike at end i))
        else None

    candidates_alike : (failures : Failures) (router : ℕ) (file : File) (process : Bgp) →
        slice_get files router ≡ Some file → file.bgp ≡ Some process →
        candidates files failures environment tables router file process p
        ≡ candidates files failures environment' tables' router file process q
    unfolding candidates candidates_from
    candidates_alike failures router file process at runs =
        λ i. map (local_candidate files router)
        (option_map_or (λ slot. locals_alike router file process slot at runs i) (same router i) [])
        ++ filter_map (λ e. learnt_alike failures e.0 e.1 i)
        (filter (λ e. e.1.router == router) (enumerate_from 0 (ends_of files)))

    decided_alike : (failures : Failures) (router : ℕ) (file : File) (held : Option BgpRec) →
        slice_get files router ≡ Some file →
        IsDecided files failures environment tables router file p held →
        IsDecided files failures environment' tables' router file q held
    unfolding DecidedByBgp
    decided_alike failures router file held at = by_process file.bgp refl where
      by_process : (o : Option Bgp) → file.bgp ≡ o →
          MatchOption o (held ≡ None) (λ process. DecidedByBgp files failures environment tables router file process
          p held) →
          MatchOption o (held ≡ None) (λ process. DecidedByBgp files failures environment' tables' router file
          process q held)
      by_process None none is = is
      by_process (Some process) runs is = subst (λ all. IsDecidedAmong process all held)
          (candidates_alike failures router file process at runs) is

    -- the equations of a slot are the same
    pub stable_alike : (failures : Failures) (router : ℕ) (file : File) (slot : Slot) →
        slice_get files router ≡ Some file →
        IsStableSlot files failures environment tables router file p slot →
        IsStableSlot files failures environment' tables' router file q slot
    stable_alike failures router file slot at stable = record {
      ospf = stable.ospf ∙ held_alike tables tables' same failures router file at;
      bgp = decided_alike failures router file slot.bgp at stable.bgp;
      rib = stable.rib ∙ entry_alike failures router file slot at;
    }
