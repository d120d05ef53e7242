-- What a router sends of the shape of a route is the shape of what it sends of the route.
use Rattle.std.proofs.Common.{◌≡◌, ℕ, ◌+◌, ◌^◌, ◌==◌, ◌&&◌, ◌||◌, Bool, true, false, not, if◌then◌else◌, List, []}
use Rattle.std.proofs.Common.{◌∷◌, Option, Some, None}
use Rattle.std.proofs.Common.{length, map, refl, sym, ap, ◌∙◌, arith}
use Rattle.std.specs.Prelude.{IfSome, slice_get, unwrap_or}
use Rattle.std.specs.Option.{option_map}
use Rattle.std.proofs.lemmas.Bool.Decides.{nat_tests}
use Rattle.mw_text.specs.declared.address.Addr.{Addr}
use Rattle.mw_text.specs.declared.address.Prefix.{Prefix}
use Rattle.ios_ast.specs.declared.bgp.Bgp.{Bgp}
use Rattle.ios_ast.specs.declared.bgp.Neighbour.{Neighbour}
use Rattle.ios_ast.specs.declared.file.File.{File}
use Rattle.ios_ast.specs.Deciding.{carries}
use Rattle.ios_ast.specs.Setting.{Attributes}
use Rattle.net_parts.specs.declared.sessions.SessionEnd.{SessionEnd}
use Rattle.net_parts.specs.Exports as exports
use Rattle.ios_ast.specs.Maps.{through_map}
use Rattle.net_parts.specs.Mapping.{attributes_of}
use Rattle.net_parts.specs.Sessions.{neighbour_of}
use Rattle.net_parts.specs.Tracked.{numbers_of}
use Rattle.route_record.specs.declared.BgpMsg.{BgpMsg}
use Rattle.route_record.specs.declared.BgpRec.{BgpRec}
use Rattle.route_record.specs.declared.tracked.Tracked.{Tracked}
use Rattle.route_shapes.specs.Bgp.{BgpShape, address_number, bgp_shape}
use Rattle.route_record.specs.Shape.{has_address, saturated}
use Rattle.route_record.proofs.OriginCodes.{code_again, code_small}
use Rattle.route_record.proofs.Saturated.{saturated-none, saturated-sum, saturated-zero}
use Rattle.route_shapes.specs.Shapes.{all_tracked, marks_with, path_shape, route_shape}
use Rattle.route_shapes.proofs.ShapeLaw.{marked-map, marks_with-map, path_prepended}
use Rattle.bgp_shapes.specs.Messages.{lacks_address, message_shape}
use Rattle.bgp_shapes.specs.Crossings.{crossing}
use Rattle.bgp_shapes.specs.Exporting.{external_shape, internal_shape, sent_marks, shape_exported, shape_may_go}
use Rattle.bgp_shapes.specs.Exporting.{shape_message, shape_originator, shape_sent, shape_sent_by}
use Rattle.bgp_shapes.proofs.PolicyLaw.{HasCode, cluster_front, metric_shape, paths_shape, through_code}
use Rattle.route_shapes.proofs.ShapeLaw.{through_map-route_shape}
use Rattle.bgp_shapes.specs.Tracking.{TracksTests}
use Rattle.bgp_shapes.proofs.ImportLaw.{found_twice, where_some}
use Rattle.bgp_shapes.proofs.CrossingLaw.{learnt_numbered, may_cross}

may_shape : (tracked : Tracked) (files : List File) (process : Bgp) (neighbour : Neighbour) (end : SessionEnd)
    (held : BgpRec) → TracksTests files tracked
    → shape_may_go tracked end (bgp_shape tracked held)
    (crossing files process neighbour end (exports.learnt_over files end.router held.from))
    ≡ exports.may_go files process end held
may_shape tracked files process neighbour end held tracks =
    let advertise =
    marked-map (carries held.communities) tracked.communities exports.no_advertise tracks.advertised in
    let export = marked-map (carries held.communities) tracked.communities exports.no_export tracks.exported in
    let may = may_cross files process neighbour end (exports.learnt_over files end.router held.from) in
    λ i. not (advertise i) && (not (export i && not end.internal) && may i)

marks_shape : (tracked : Tracked) (neighbour : Neighbour) (cs : List ℕ)
    → sent_marks tracked neighbour (map (carries cs) tracked.communities)
    ≡ map (carries (exports.sent_communities neighbour cs)) tracked.communities
marks_shape tracked neighbour cs = by neighbour.send_community
  where
    by : (b : Bool)
        → (if b then map (carries cs) tracked.communities
        else marks_with tracked.communities [] false (map (carries cs) tracked.communities))
        ≡ map (carries (if b then cs else [])) tracked.communities
    by true = refl
    by false = marks_with-map (carries cs) (carries []) tracked.communities [] false (λ x. refl)

-- over an external session
external_law : (tracked : Tracked) (process : Bgp) (neighbour : Neighbour) (own : Addr) (keeps : Bool) (held : BgpRec)
    (r : Attributes) → HasCode r
    → external_shape tracked process neighbour own keeps (route_shape tracked r)
    ≡ message_shape tracked (exports.external_message process neighbour own keeps held r)
external_law tracked process neighbour own keeps held r code =
    let origin = code_again r.origin code in
    let med = med_of keeps in
    let path = path_prepended tracked.numbers (process.asn ∷ []) r.path in
    let marks = marks_shape tracked neighbour r.communities in
    let none = sym saturated-none in
    λ i. record {
      preferences = record { weight = 0; local_pref = 0; med = med i; origin = origin i };
      path = path i;
      communities = marks i;
      next_hop = own.0;
      originator = 0;
      from = 0;
      cluster_len = none i;
      clusters = map (has_address []) tracked.clusters;
    }
  where
    med_of : (b : Bool) → (if b then r.med else 0) ≡ unwrap_or (if b then Some r.med else None) 0
    med_of true = refl
    med_of false = refl

-- over an internal session, part by part
hop_shape : (files : List File) (process : Bgp) (neighbour : Neighbour) (end : SessionEnd) (own : Addr) (held : BgpRec)
    (o : Option SessionEnd)
    → (if (crossing files process neighbour end o).own_hop then own.0 else held.next_hop.0)
    ≡ (exports.internal_next_hop neighbour own held o).0
hop_shape files process neighbour end own held None = refl
hop_shape files process neighbour end own held (Some from) = by (neighbour.next_hop_self && not from.internal)
  where
    by : (b : Bool) → (if b then own.0 else held.next_hop.0) ≡ (if b then own else held.next_hop).0
    by true = refl
    by false = refl

originator_shape : (files : List File) (process : Bgp) (neighbour : Neighbour) (end : SessionEnd) (tracked : Tracked)
    (held : BgpRec) (o : Option SessionEnd)
    → shape_originator (bgp_shape tracked held) (crossing files process neighbour end o)
    ≡ address_number (exports.reflected_originator files held o)
originator_shape files process neighbour end tracked held None = refl
originator_shape files process neighbour end tracked held (Some from) =
    by from.internal held.originator (unwrap_or (exports.learnt_id files from) (record { 0 = 0 }))
  where
    there : (n m : ℕ) → (if lacks_address (2 ^ 32 + n) then m else 2 ^ 32 + n) ≡ 2 ^ 32 + n
    there n m = grind (arith, nat_tests)

    by : (b : Bool) (o : Option Addr) (peer : Addr)
        → (if b && lacks_address (address_number o) then 2 ^ 32 + peer.0 else address_number o)
        ≡ address_number (if b then Some (unwrap_or o peer) else o)
    by true None peer = refl
    by true (Some a) peer = there a.0 (2 ^ 32 + peer.0)
    by false o peer = refl

length_shape : (files : List File) (process : Bgp) (neighbour : Neighbour) (end : SessionEnd) (held : BgpRec)
    (o : Option SessionEnd)
    → (if (crossing files process neighbour end o).reflected then saturated (saturated (length held.clusters) + 1)
    else saturated (length held.clusters))
    ≡ saturated (length (exports.reflected_clusters files end.router held o))
length_shape files process neighbour end held None = refl
length_shape files process neighbour end held (Some from) = by from.internal
  where
    by : (b : Bool)
        → (if b then saturated (saturated (length held.clusters) + 1) else saturated (length held.clusters))
        ≡ saturated (length (if b then exports.router_id files end.router ∷ held.clusters else held.clusters))
    by true = saturated-sum (length held.clusters) 1 ∙ ap saturated (omega arith)
    by false = refl

clusters_shape : (tracked : Tracked) (files : List File) (process : Bgp) (neighbour : Neighbour) (end : SessionEnd)
    (held : BgpRec) (o : Option SessionEnd)
    → (if (crossing files process neighbour end o).reflected
    then marks_with (numbers_of tracked.clusters) ((exports.router_id files end.router).0 ∷ []) true
    (map (has_address held.clusters) tracked.clusters)
    else map (has_address held.clusters) tracked.clusters)
    ≡ map (has_address (exports.reflected_clusters files end.router held o)) tracked.clusters
clusters_shape tracked files process neighbour end held None = refl
clusters_shape tracked files process neighbour end held (Some from) = by from.internal
  where
    by : (b : Bool)
        → (if b then marks_with (numbers_of tracked.clusters) ((exports.router_id files end.router).0 ∷ []) true
        (map (has_address held.clusters) tracked.clusters)
        else map (has_address held.clusters) tracked.clusters)
        ≡ map (has_address (if b then exports.router_id files end.router ∷ held.clusters else held.clusters))
        tracked.clusters
    by true = cluster_front tracked held.clusters (exports.router_id files end.router)
    by false = refl

internal_law : (tracked : Tracked) (files : List File) (process : Bgp) (neighbour : Neighbour) (end : SessionEnd)
    (own : Addr) (held : BgpRec) (r : Attributes) → HasCode r
    → internal_shape tracked neighbour own (exports.router_id files end.router) (bgp_shape tracked held)
    (crossing files process neighbour end (exports.learnt_over files end.router held.from)) (route_shape tracked r)
    ≡ message_shape tracked (exports.internal_message files end.router neighbour own held r)
internal_law tracked files process neighbour end own held r code =
    let from = exports.learnt_over files end.router held.from in
    let origin = code_again r.origin code in
    let marks = marks_shape tracked neighbour r.communities in
    let hop = hop_shape files process neighbour end own held from in
    let originator = originator_shape files process neighbour end tracked held from in
    let len = length_shape files process neighbour end held from in
    let clusters = clusters_shape tracked files process neighbour end held from in
    λ i. record {
      preferences = record { weight = 0; local_pref = r.local_pref; med = r.med; origin = origin i };
      path = path_shape tracked.numbers r.path;
      communities = marks i;
      next_hop = hop i;
      originator = originator i;
      from = 0;
      cluster_len = len i;
      clusters = clusters i;
    }

-- the message of what the map has left
abbrev pub message_of : List File → File → Bgp → Neighbour → SessionEnd → Prefix → BgpRec → Attributes → BgpMsg
message_of files file process neighbour end p held r =
    if end.internal
    then exports.internal_message files end.router neighbour (exports.own_address files end) held r
    else exports.external_message process neighbour (exports.own_address files end)
    ((length held.path == 0) || exports.sets_metric file.policies neighbour.map_out p (attributes_of held)) held r

one_of_two : (tracked : Tracked) (b : Bool) (x y : BgpShape) (m n : BgpMsg) → x ≡ message_shape tracked m
    → y ≡ message_shape tracked n → (if b then x else y) ≡ message_shape tracked (if b then m else n)
one_of_two tracked true x y m n first second = first
one_of_two tracked false x y m n first second = second

message_law : (tracked : Tracked) (files : List File) (file : File) (process : Bgp) (neighbour : Neighbour)
    (end : SessionEnd) (p : Prefix) (held : BgpRec) (r : Attributes) → all_tracked tracked file.policies ≡ true
    → HasCode r
    → shape_message tracked files file process neighbour end p (bgp_shape tracked held)
    (crossing files process neighbour end (exports.learnt_over files end.router held.from)) (route_shape tracked r)
    ≡ message_shape tracked (message_of files file process neighbour end p held r)
message_law tracked files file process neighbour end p held r all code =
    let own = exports.own_address files end in
    let empty = saturated-zero (length held.path) in
    let sets = metric_shape tracked file.policies neighbour.map_out p (attributes_of held) all in
    one_of_two tracked end.internal _ _
    (exports.internal_message files end.router neighbour own held r)
    (exports.external_message process neighbour own
    ((length held.path == 0) || exports.sets_metric file.policies neighbour.map_out p (attributes_of held)) held r)
    (internal_law tracked files process neighbour end own held r code)
    ((λ i. external_shape tracked process neighbour own (empty i || sets i) (route_shape tracked r))
    ∙ external_law tracked process neighbour own _ held r code)

messages_law : (tracked : Tracked) (files : List File) (file : File) (process : Bgp) (neighbour : Neighbour)
    (end : SessionEnd) (p : Prefix) (held : BgpRec) (o : Option Attributes) → all_tracked tracked file.policies ≡ true
    → IfSome o HasCode
    → option_map (shape_message tracked files file process neighbour end p (bgp_shape tracked held)
    (crossing files process neighbour end (exports.learnt_over files end.router held.from)))
    (option_map (route_shape tracked) o)
    ≡ option_map (message_shape tracked) (option_map (message_of files file process neighbour end p held) o)
messages_law tracked files file process neighbour end p held None all code = refl
messages_law tracked files file process neighbour end p held (Some r) all code =
    ap Some (message_law tracked files file process neighbour end p held r all code)

sent_law : (tracked : Tracked) (files : List File) (file : File) (process : Bgp) (neighbour : Neighbour)
    (end : SessionEnd) (p : Prefix) (held : BgpRec) → TracksTests files tracked →
    all_tracked tracked file.policies ≡ true
    → shape_sent tracked files file process neighbour end p (bgp_shape tracked held)
    ≡ option_map (message_shape tracked) (exports.sent files file process neighbour end p held)
sent_law tracked files file process neighbour end p held tracks all =
    let may = may_shape tracked files process neighbour end held tracks in
    let paths = paths_shape tracked file.policies neighbour.filter_out held.path all in
    let left = through_map file.policies neighbour.map_out p (not end.internal) (attributes_of held) in
    let through = through_map-route_shape tracked file.policies neighbour.map_out p (not end.internal) (attributes_of held) all in
    let from = exports.learnt_over files end.router held.from in
    ap (λ o. shape_sent_by tracked files file process neighbour end p (bgp_shape tracked held)
    (crossing files process neighbour end o)) (sym (learnt_numbered files end.router held.from))
    ∙ where_some (message_shape tracked) _ _ (option_map (message_of files file process neighbour end p held) left) _
    (λ i. may i && (exports.passes_prefixes file.policies neighbour.prefix_out p && paths i))
    (ap (option_map (shape_message tracked files file process neighbour end p (bgp_shape tracked held)
    (crossing files process neighbour end from))) through
    ∙ messages_law tracked files file process neighbour end p held left all
    (through_code file.policies neighbour.map_out p (not end.internal) (attributes_of held) (code_small held.origin)))

-- what is sent of the shape of a route
pub exported_shape : (tracked : Tracked) (files : List File) (end : SessionEnd) (p : Prefix) (held : BgpRec)
    → TracksTests files tracked
    → shape_exported tracked files end p (bgp_shape tracked held)
    ≡ option_map (message_shape tracked) (exports.exported files end p held)
unfolding shape_exported exports.exported
exported_shape tracked files end p held tracks =
    found_twice (message_shape tracked) (slice_get files end.router) (λ file. file.bgp) (neighbour_of files end)
    (λ file process neighbour. exports.sent files file process neighbour end p held)
    (λ file process neighbour. shape_sent tracked files file process neighbour end p (bgp_shape tracked held))
    (λ file process is runs neighbour.
    sent_law tracked files file process neighbour end p held tracks
    (tracks.routers end.router file process is runs).policies)
