-- In a stable routing packets leave the network to leaving addresses alone.
use Rattle.std.proofs.Common.{◌≡◌, ℕ, zero, suc, ◌<◌, Bool, true, false, cond, List, [], ◌∷◌, Option, Some, None}
use Rattle.std.proofs.Common.{inl, inr, refl, sym, ap, subst, arith, ◌∙◌}
use Rattle.std.specs.Prelude.{◌==◌, ◌&&◌, Contains, filter, map, option_map, slice_get}
use Rattle.std.specs.List.{flat_map, list_all, list_any}
use Rattle.std.specs.Option.{option_map_or}
use Rattle.std.proofs.lemmas.Bool.{eqb-true}
use Rattle.std.proofs.lemmas.Option.{same_Some}
use Rattle.mw_text.specs.Members.{In}
use Rattle.mw_text.specs.declared.address.Addr.{Addr}
use Rattle.mw_text.specs.declared.address.Prefix.{Prefix}
use Rattle.mw_text.specs.Address.{covers, prefix_at, same_prefix}
use Rattle.mw_text.proofs.Found.{mapped}
use Rattle.ios_ast.specs.declared.file.File.{File}
use Rattle.ios_ast.specs.declared.file.StaticRoute.{StaticRoute}
use Rattle.ios_ast.specs.Limits.{keeps_limits}
use Rattle.route_record.specs.declared.BgpRec.{BgpRec}
use Rattle.route_record.specs.declared.Environment.{Environment}
use Rattle.route_record.specs.declared.OspfRec.{OspfRec}
use Rattle.route_record.specs.declared.RibEntry.{RibEntry}
use Rattle.route_record.specs.declared.RibSource.{RibSource}
use Rattle.route_record.specs.declared.RibSource.TheVariants.{Connected, Static, Ebgp, Ospf, Ibgp}
use Rattle.route_record.specs.declared.Slot.{Slot}
use Rattle.route_record.specs.declared.Tables.{Tables}
use Rattle.route_record.specs.declared.TheConstants.{LENGTHS}
use Rattle.route_record.specs.declared.tracked.Tracked.{Tracked}
use Rattle.route_record.specs.declared.World.{World}
use Rattle.route_record.specs.Places.{slot_at}
use Rattle.net_interfaces.specs.declared.interfaces.Addressed.{Addressed}
use Rattle.net_interfaces.specs.Connected.{next_hop}
use Rattle.net_interfaces.specs.Interfaces.{addressed}
use Rattle.net_interfaces.proofs.Members.{filter-in}
use Rattle.net_interfaces.proofs.Options.{chained}
use Rattle.net_parts.specs.Routing.{counts, static_routes, up_interfaces}
use Rattle.net_parts.specs.Sending.{sent_by_ospf, sent_towards}
use Rattle.net_parts.specs.Stable.{Stable}
use Rattle.net_parts.specs.Tracked.{TracksNet, addresses_of}
use Rattle.net_parts.specs.World.{IsEnvironment}
use Rattle.net_parts.proofs.LeastWalks.{contains-in, filter_map-in, in-contains, in-filter, in-flat_map, in-left}
use Rattle.net_parts.proofs.LeastWalks.{in-right}
use Rattle.slot_places.proofs.Members.{in-any, map-in}
use Rattle.held_values.specs.Values.{HasHeldValues, next_hops_of}
use Rattle.held_values.proofs.Held.{held_known}
use Rattle.question_lang.specs.declared.walk.End.TheVariants.{Delivered, Left, NoRoute}
use Rattle.question_lang.specs.declared.walk.Hop.TheVariants.{Ends}
use Rattle.question_lang.specs.Hops.{all_up, bgp_hops, entry_at, entry_hops, hops_over, longest_below, next_hops}
use Rattle.question_lang.specs.Hops.{ospf_hops, send_adjacent, send_over, static_hops}
use Rattle.leaving_addresses.specs.Leaving.{bgp_next_hops, can_leave, leaving, next_hops_at, static_next_hops}
use Rattle.leaving_addresses.proofs.Leading.{LeavesOver, adjacencies_stay, connected_stays, leaves_out, over_out}
use Rattle.leaving_addresses.proofs.Leading.{static_out}

-- ---- the entry that decides

-- the longest entry is one of the table
longest_there : (tables : Tables) (router bound len : ℕ) (slot : Slot) (entry : RibEntry) →
    longest_below tables router bound ≡ Some (len, slot, entry) →
    (len < bound) × (entry_at tables router len ≡ Some (slot, entry))
unfolding longest_below
longest_there tables router zero len slot entry is = absurd cc
longest_there tables router (suc n) len slot entry is =
    by (entry_at tables router n) refl is (longest_there tables router n len slot entry)
  where
    by : (o : Option (Slot × RibEntry)) → entry_at tables router n ≡ o →
        option_map_or (λ found. Some (n, found.0, found.1)) o (longest_below tables router n) ≡ Some (len, slot, entry) →
        (longest_below tables router n ≡ Some (len, slot, entry) →
        (len < n) × (entry_at tables router len ≡ Some (slot, entry))) →
        (len < suc n) × (entry_at tables router len ≡ Some (slot, entry))
    by None none found rest = let (below, there) = rest found in (omega (arith, below), there)
    by (Some (s, e)) there found rest =
        let here : ℕ × Slot × RibEntry = (n, s, e) in
        let wanted : ℕ × Slot × RibEntry = (len, slot, entry) in
        let same : here ≡ wanted = same_Some here wanted found in
        let place : n ≡ len = ap (λ (t : ℕ × Slot × RibEntry). t.0) same in
        let below : len < suc n = omega (arith, place) in
        let rest_of : ℕ × Slot × RibEntry → Option (Slot × RibEntry) = λ t. Some (t.1, t.2) in
        (below, ap (entry_at tables router) (sym place) ∙ there ∙ ap rest_of same)

slot_there : (tables : Tables) (router len : ℕ) (slot : Slot) (entry : RibEntry) →
    entry_at tables router len ≡ Some (slot, entry) → slot_at tables router len ≡ Some slot
slot_there tables router len slot entry is =
    let (s, there, rest) =
    chained (λ (s : Slot). option_map (λ e. (s, e)) s.rib) (slot_at tables router len) (slot, entry) is in
    let (e, _, same) = mapped (λ e. (s, e)) s.rib (slot, entry) rest in
    there ∙ ap (λ t. Some t.0) same

-- ---- the next hop of a route

-- one that can leave is a leaving address
leaves : (files : List File) (router : ℕ) (a : Addr) → In a (next_hops_at files router) →
    can_leave (addressed files) router a ≡ true → Contains (leaving files router) a
leaves files router a there can =
    in-contains a (leaving files router)
    (filter-in (can_leave (addressed files) router) (next_hops_at files router) a there can)

static_there : (files : List File) (router : ℕ) (file : File) (route : StaticRoute) (a : Addr) →
    slice_get files router ≡ Some file → In route file.statics → next_hop route.via ≡ Some a →
    In a (next_hops_at files router)
static_there files router file route a found there leads =
    in-right a (bgp_next_hops files) (option_map_or static_next_hops (slice_get files router) [])
    (subst (λ o. In a (option_map_or static_next_hops o [])) (sym found)
    (filter_map-in (λ (r : StaticRoute). next_hop r.via) file.statics route a there leads))

carried_there : (numbers : List ℕ) (a : Addr) → list_any (λ n. n == a.0) numbers ≡ true → In a (addresses_of numbers)
carried_there numbers a carried =
    let (n, there, is) = in-any (λ n. n == a.0) numbers carried in
    let Has : Addr → Type 0 = λ b. In b (addresses_of numbers) in
    let same : n ≡ a.0 = eqb-true n a.0 is in
    let one : ℕ → Addr = λ m. record { 0 = m } in
    subst Has (ap one same) (map-in one numbers n there)

-- ---- the hops of an entry

module _ (tracked : Tracked) (files : List File) (world : World) (environment : Environment)
    (net : TracksNet files tracked) (limits : list_all keeps_limits files ≡ true)
    (may : IsEnvironment files environment)
    (stable : Stable files world.packet.dst world.failures environment world.tables) (router : ℕ) (a : Addr) where
  abbrev Leaves : Type 0
  Leaves = Contains (leaving files router) a

  abbrev up : List Addressed
  up = all_up files world.failures

  abbrev own : List Addressed
  own = up_interfaces files world.failures router

  statics_leave : (file : File) (p : Prefix) (distance : ℕ) → slice_get files router ≡ Some file →
      In (Ends (Left a)) (flat_map (static_hops files world.packet up own)
      (filter (λ route. route.distance == distance) (static_routes own file.statics p))) → Leaves
  statics_leave file p distance found there =
      let (route, listed, here) =
      in-flat_map (static_hops files world.packet up own)
      (filter (λ route. route.distance == distance) (static_routes own file.statics p)) (Ends (Left a)) there in
      let (counted, _) =
      in-filter (λ route. route.distance == distance) (static_routes own file.statics p) route listed in
      let (said, _) =
      in-filter (λ route. same_prefix route.prefix p && counts own route) file.statics route counted in
      let (leads, over) = static_out files world.packet up own route a here in
      leaves files router a (static_there files router file route a found said leads)
      (leaves_out files world.failures router a over)

  held_leaves : (len : ℕ) (slot : Slot) (held : BgpRec) → len < LENGTHS →
      slot_at world.tables router len ≡ Some slot → slot.bgp ≡ Some held →
      LeavesOver up own held.next_hop a → Leaves
  held_leaves len slot held below there holds over =
      let known : HasHeldValues files held =
      held_known tracked files world.packet.dst world.failures environment world.tables len net limits may stable below
      router slot held there holds in
      let Has : Addr → Type 0 = λ b. In b (bgp_next_hops files) in
      let hop : In a (bgp_next_hops files) =
      subst Has (sym over.same) (carried_there (next_hops_of files) held.next_hop known.next_hop) in
      leaves files router a
      (in-left a (bgp_next_hops files) (option_map_or static_next_hops (slice_get files router) []) hop)
      (leaves_out files world.failures router a (subst (λ w. LeavesOver up own w a) (sym over.same) over))

  bgp_leaves : (len : ℕ) (slot : Slot) → len < LENGTHS → slot_at world.tables router len ≡ Some slot →
      In (Ends (Left a)) (bgp_hops files world up own router slot) → Leaves
  bgp_leaves len slot below there = by_held slot.bgp refl where
    by_next : (held : BgpRec) → slot.bgp ≡ Some held → (b : Bool) →
        In (Ends (Left a)) (cond b (send_over files world.packet up own held.next_hop)
        (map (send_adjacent files world.packet) (sent_towards files world.failures router held.next_hop))) → Leaves
    by_next held holds true hop =
        held_leaves len slot held below there holds (over_out files world.packet up own held.next_hop a hop)
    by_next held holds false hop =
        absurd (adjacencies_stay files world.packet (sent_towards files world.failures router held.next_hop) a hop)

    by_held : (o : Option BgpRec) → slot.bgp ≡ o → In (Ends (Left a)) (option_map_or (λ held.
        cond (list_any (λ x. covers x.subnet held.next_hop) own) (send_over files world.packet up own held.next_hop)
        (map (send_adjacent files world.packet) (sent_towards files world.failures router held.next_hop))) o []) → Leaves
    by_held None none hop = absurd hop
    by_held (Some held) holds hop =
        by_next held holds (list_any (λ x. covers x.subnet held.next_hop) own) hop

  ospf_stays : (p : Prefix) (slot : Slot) → In (Ends (Left a)) (ospf_hops files world router p slot) → ⊥
  ospf_stays p slot = by_held slot.ospf where
    by_held : (o : Option OspfRec) → In (Ends (Left a)) (option_map_or (λ held. map (send_adjacent files world.packet)
        (sent_by_ospf files world.failures world.tables router p held)) o []) → ⊥
    by_held None hop = hop
    by_held (Some held) hop =
        adjacencies_stay files world.packet (sent_by_ospf files world.failures world.tables router p held) a hop

  entry_leaves : (file : File) (len : ℕ) (slot : Slot) (entry : RibEntry) → slice_get files router ≡ Some file →
      len < LENGTHS → slot_at world.tables router len ≡ Some slot →
      In (Ends (Left a)) (entry_hops files world up own router file (len, slot, entry)) → Leaves
  entry_leaves file len slot entry found below there = by_source entry.source where
    by_source : (source : RibSource) →
        In (Ends (Left a)) (entry_hops files world up own router file (len, slot, record entry { source = source })) →
        Leaves
    by_source Connected hop =
        absurd (connected_stays files world.packet up own (prefix_at world.packet.dst len) a hop)
    by_source Static hop = statics_leave file (prefix_at world.packet.dst len) entry.distance found hop
    by_source Ebgp hop = bgp_leaves len slot below there hop
    by_source Ospf hop = absurd (ospf_stays (prefix_at world.packet.dst len) slot hop)
    by_source Ibgp hop = bgp_leaves len slot below there hop

  router_leaves : (file : File) → slice_get files router ≡ Some file →
      In (Ends (Left a)) (hops_over files world up own router file) → Leaves
  router_leaves file found = by_own (list_any (λ x. x.addr.0 == world.packet.dst.0) own) where
    by_longest : (o : Option (ℕ × Slot × RibEntry)) → longest_below world.tables router LENGTHS ≡ o →
        In (Ends (Left a)) (option_map_or (entry_hops files world up own router file) o (Ends NoRoute ∷ [])) → Leaves
    by_longest None none (inl same) = cc
    by_longest None none (inr hop) = absurd hop
    by_longest (Some (len, slot, entry)) is hop =
        let (below, there) = longest_there world.tables router LENGTHS len slot entry is in
        entry_leaves file len slot entry found below (slot_there world.tables router len slot entry there) hop

    by_own : (b : Bool) → In (Ends (Left a)) (cond b (Ends Delivered ∷ [])
        (option_map_or (entry_hops files world up own router file) (longest_below world.tables router LENGTHS)
        (Ends NoRoute ∷ []))) → Leaves
    by_own true (inl same) = cc
    by_own true (inr hop) = absurd hop
    by_own false hop = by_longest (longest_below world.tables router LENGTHS) refl hop

  hops_leave : In (Ends (Left a)) (next_hops files world router) → Leaves
  hops_leave = by_file (slice_get files router) refl where
    by_file : (o : Option File) → slice_get files router ≡ o →
        In (Ends (Left a)) (option_map_or (hops_over files world up own router) o []) → Leaves
    by_file None none hop = absurd hop
    by_file (Some file) found hop = router_leaves file found hop

-- a hop out of the network leads to a leaving address of its router
pub hop_leaves : (tracked : Tracked) (files : List File) (world : World) (environment : Environment) →
    TracksNet files tracked → list_all keeps_limits files ≡ true → IsEnvironment files environment →
    Stable files world.packet.dst world.failures environment world.tables → (router : ℕ) (a : Addr) →
    Contains (next_hops files world router) (Ends (Left a)) → Contains (leaving files router) a
hop_leaves tracked files world environment net limits may stable router a hop =
    hops_leave tracked files world environment net limits may stable router a
    (contains-in (Ends (Left a)) (next_hops files world router) hop)
