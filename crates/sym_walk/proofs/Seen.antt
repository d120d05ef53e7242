-- Walks read of a BGP route its next hop alone.
use Rattle.std.proofs.Common.{◌≡◌, ℕ, zero, suc, ◌+◌, ◌*◌, ◌<◌, ◌≤◌, Bool, true, false, cond, List, [], ◌∷◌, Option}
use Rattle.std.proofs.Common.{Some, None, eqb, refl, sym, ap, ap₂, arith, get_or, ◌∙◌}
use Rattle.std.specs.Prelude.{filter, map, slice_get, option_map, option_and_then, unwrap_or}
use Rattle.std.specs.List.{list_any}
use Rattle.std.specs.Option.{option_map_or}
use Rattle.std.proofs.lemmas.List.{length-map}
use Rattle.std.proofs.lemmas.Option.{slice_get-get_or, slice_get-map}
use Rattle.mw_text.specs.declared.address.Prefix.{Prefix}
use Rattle.mw_text.specs.Address.{prefix_at}
use Rattle.ios_ast.specs.declared.file.File.{File}
use Rattle.route_record.specs.declared.BgpRec.{BgpRec}
use Rattle.route_record.specs.declared.Failures.{Failures}
use Rattle.route_record.specs.declared.OspfRec.{OspfRec}
use Rattle.route_record.specs.declared.RibEntry.{RibEntry}
use Rattle.route_record.specs.declared.RibSource.{RibSource}
use Rattle.route_record.specs.declared.RibSource.TheVariants.{Connected, Static, Ebgp, Ospf, Ibgp}
use Rattle.route_record.specs.declared.Slot.{Slot}
use Rattle.route_record.specs.declared.Tables.{Tables}
use Rattle.route_record.specs.declared.tracked.Tracked.{Tracked}
use Rattle.route_record.specs.declared.TheConstants.{LENGTHS}
use Rattle.route_record.specs.declared.World.{World}
use Rattle.route_record.specs.Places.{slot_at}
use Rattle.net_parts.specs.declared.adjacencies.Adjacency.{Adjacency}
use Rattle.net_interfaces.specs.declared.interfaces.Addressed.{Addressed}
use Rattle.net_parts.specs.Ospf.{up_adjacencies}
use Rattle.net_parts.specs.OspfRoutes.{extended, offer_over}
use Rattle.net_parts.specs.Routing.{up_interfaces}
use Rattle.net_parts.specs.Sending.{same_record, sent_by_ospf}
use Rattle.question_lang.specs.declared.walk.End.TheVariants.{NoRoute, Delivered}
use Rattle.question_lang.specs.declared.walk.Hop.TheVariants.{Ends}
use Rattle.question_lang.specs.Hops.{all_up, bgp_hops, entry_at, entry_hops, hops_over, longest_below, next_hops}
use Rattle.question_lang.specs.Hops.{ospf_hops, send_adjacent}
use Rattle.term_store.specs.Terms.{Reading, at}
use Rattle.sym_policy.specs.Held.{StandsForBgp, bgp_at}
use Rattle.route_shapes.specs.Bgp.{BgpShape, bgp_shape}
use Rattle.sym_policy.specs.declared.records.SymBgp.{SymBgp}
use Rattle.sym_rib.specs.declared.slots.SymSlot.{SymSlot}
use Rattle.sym_rib.specs.Slots.{StandsForSlot}
use Rattle.sym_policy.specs.Seen.{route_towards, seen, seen_tables, seen_world}
use Rattle.plan_places.specs.Tables.{empty_slot}
use Rattle.plan_places.proofs.Tabulated.{as_tabulated, tabulated-same}
use Rattle.sym_rib.specs.Worlds.{StandForTables, slot_of, sym_slot_at, tables_of}
use Rattle.sym_policy.specs.Seen.{towards_of}

-- ---- slots

-- the slot of tables as walks see them
slot_seen : (tables : Tables) (router len : ℕ) →
    slot_at (seen_tables tables) router len ≡ option_map seen (slot_at tables router len)
slot_seen tables router len = slice_get-map seen tables.slots (LENGTHS * router + len)

offer_seen : (tables : Tables) (p : Prefix) (a : Adjacency) →
    offer_over (seen_tables tables) p a ≡ offer_over tables p a
offer_seen tables p a =
    ap (λ o. option_and_then (extended a.cost) (option_and_then (λ slot. slot.ospf) o))
    (slot_seen tables a.to.router p.len) ∙ by_slot (slot_at tables a.to.router p.len)
  where
    by_slot : (o : Option Slot) →
        option_and_then (extended a.cost) (option_and_then (λ slot. slot.ospf) (option_map seen o))
        ≡ option_and_then (extended a.cost) (option_and_then (λ slot. slot.ospf) o)
    by_slot None = refl
    by_slot (Some slot) = refl

sent_seen : (files : List File) (failures : Failures) (tables : Tables) (router : ℕ) (p : Prefix) (held : OspfRec) →
    sent_by_ospf files failures (seen_tables tables) router p held ≡ sent_by_ospf files failures tables router p held
unfolding sent_by_ospf
sent_seen files failures tables router p held =
    λ i. filter (λ a. option_map_or (same_record held) (offer_seen tables p a i) false)
    (up_adjacencies files failures router)

-- ---- entries

abbrev held_seen : Slot × RibEntry → Slot × RibEntry
held_seen found = (seen found.0, found.1)

abbrev with_seen : ℕ × Slot × RibEntry → ℕ × Slot × RibEntry
with_seen found = (found.0, seen found.1, found.2)

entry_seen : (tables : Tables) (router len : ℕ) →
    entry_at (seen_tables tables) router len
    ≡ option_map held_seen (entry_at tables router len)
entry_seen tables router len =
    ap (option_and_then (λ slot. option_map (λ entry. (slot, entry)) slot.rib)) (slot_seen tables router len)
    ∙ by_slot (slot_at tables router len)
  where
    by_entry : (slot : Slot) (o : Option RibEntry) → option_map (λ (entry : RibEntry). held_seen (slot, entry)) o
        ≡ option_map held_seen (option_map (λ entry. (slot, entry)) o)
    by_entry slot None = refl
    by_entry slot (Some entry) = refl

    by_slot : (o : Option Slot) →
        option_and_then (λ slot. option_map (λ entry. (slot, entry)) slot.rib) (option_map seen o)
        ≡ option_map held_seen
        (option_and_then (λ slot. option_map (λ entry. (slot, entry)) slot.rib) o)
    by_slot None = refl
    by_slot (Some slot) = by_entry slot slot.rib

longest_seen : (tables : Tables) (router n : ℕ) →
    longest_below (seen_tables tables) router n ≡ option_map with_seen (longest_below tables router n)
unfolding longest_below
longest_seen tables router zero = refl
longest_seen tables router (suc len) =
    ap₂ (λ found shorter. option_map_or (λ f. Some (len, f.0, f.1)) found shorter)
    (entry_seen tables router len) (longest_seen tables router len) ∙ by_entry (entry_at tables router len)
  where
    by_entry : (o : Option (Slot × RibEntry)) →
        option_map_or (λ f. Some (len, f.0, f.1)) (option_map held_seen o)
        (option_map with_seen (longest_below tables router len))
        ≡ option_map with_seen (option_map_or (λ f. Some (len, f.0, f.1)) o (longest_below tables router len))
    by_entry None = refl
    by_entry (Some found) = refl

-- ---- next hops

bgp_seen : (files : List File) (world : World) (up own : List Addressed) (router : ℕ) (slot : Slot) →
    bgp_hops files (seen_world world) up own router (seen slot) ≡ bgp_hops files world up own router slot
bgp_seen files world up own router slot = by_route slot.bgp where
  by_route : (o : Option BgpRec) →
      bgp_hops files (seen_world world) up own router (seen (record slot { bgp = o }))
      ≡ bgp_hops files world up own router (record slot { bgp = o })
  by_route None = refl
  by_route (Some route) = refl

ospf_seen : (files : List File) (world : World) (router : ℕ) (p : Prefix) (slot : Slot) →
    ospf_hops files (seen_world world) router p (seen slot) ≡ ospf_hops files world router p slot
ospf_seen files world router p slot =
    λ i. option_map_or (λ held. map (send_adjacent files world.packet)
    (sent_seen files world.failures world.tables router p held i)) slot.ospf []

hops_of_seen : (files : List File) (world : World) (up own : List Addressed) (router : ℕ) (file : File)
    (found : ℕ × Slot × RibEntry) →
    entry_hops files (seen_world world) up own router file (with_seen found)
    ≡ entry_hops files world up own router file found
hops_of_seen files world up own router file found = by_source found.2.source where
  len : ℕ
  len = found.0

  slot : Slot
  slot = found.1

  by_source : (source : RibSource) →
      entry_hops files (seen_world world) up own router file
      (len, seen slot, record { source = source; distance = found.2.distance })
      ≡ entry_hops files world up own router file
      (len, slot, record { source = source; distance = found.2.distance })
  by_source Connected = refl
  by_source Static = refl
  by_source Ebgp = bgp_seen files world up own router slot
  by_source Ospf = ospf_seen files world router (prefix_at world.packet.dst len) slot
  by_source Ibgp = bgp_seen files world up own router slot

over_seen : (files : List File) (world : World) (up own : List Addressed) (router : ℕ) (file : File) →
    hops_over files (seen_world world) up own router file ≡ hops_over files world up own router file
over_seen files world up own router file =
    ap (λ hops. cond (list_any (λ (x : Addressed). eqb x.addr.0 world.packet.dst.0) own) (Ends Delivered ∷ []) hops)
    (ap (λ o. option_map_or (entry_hops files (seen_world world) up own router file) o (Ends NoRoute ∷ []))
    (longest_seen world.tables router LENGTHS) ∙ by_longest (longest_below world.tables router LENGTHS))
  where
    by_longest : (o : Option (ℕ × Slot × RibEntry)) →
        option_map_or (entry_hops files (seen_world world) up own router file) (option_map with_seen o)
        (Ends NoRoute ∷ [])
        ≡ option_map_or (entry_hops files world up own router file) o (Ends NoRoute ∷ [])
    by_longest None = refl
    by_longest (Some found) = hops_of_seen files world up own router file found

pub hops_seen : (files : List File) (world : World) (router : ℕ) →
    next_hops files (seen_world world) router ≡ next_hops files world router
hops_seen files world router =
    λ i. option_map_or (λ file. over_seen files world (all_up files world.failures)
    (up_interfaces files world.failures router) router file i) (slice_get files router) []

-- ---- symbolic slots that stand for slots

towards_seen : (w : Reading) (tracked : Tracked) (s : SymBgp) (held : Option BgpRec) → StandsForBgp w tracked s held →
    towards_of w s ≡ option_map (λ r. route_towards r.next_hop) held
towards_seen w tracked s held stands = by_valid (at w s.valid) ∙ ap (option_map towards) stands ∙ by_held held where
  towards : BgpShape → BgpRec
  towards shape = route_towards (record { 0 = shape.next_hop })

  by_valid : (b : Bool) → cond b (Some (towards (bgp_at w s))) None
      ≡ option_map towards (cond b (Some (bgp_at w s)) None)
  by_valid true = refl
  by_valid false = refl

  by_held : (o : Option BgpRec) →
      option_map towards (option_map (bgp_shape tracked) o) ≡ option_map (λ r. route_towards r.next_hop) o
  by_held None = refl
  by_held (Some r) = refl

stands_seen : (w : Reading) (tracked : Tracked) (s : SymSlot) (slot : Slot) → StandsForSlot w tracked s slot →
    slot_of w s ≡ seen slot
stands_seen w tracked s slot stands =
    λ i. record {
      ospf = stands.ospf i;
      bgp = towards_seen w tracked s.bgp slot.bgp stands.bgp i;
      rib = stands.rib i;
    }

pub tables_seen : (w : Reading) (tracked : Tracked) (lens : List ℕ) (routers : ℕ) (slots : List SymSlot)
    (tables : Tables) → StandForTables w tracked lens routers slots tables →
    tables_of w lens routers slots ≡ seen_tables tables
tables_seen w tracked lens routers slots tables stand =
    tabulated-same (λ q k. option_map_or (slot_of w) (sym_slot_at lens routers slots q k) empty_slot)
    (λ q k. unwrap_or (slot_at (seen_tables tables) q k) empty_slot) routers each
    ∙ sym (as_tabulated (seen_tables tables) routers (length-map tables.slots seen ∙ stand.long))
  where
    each : (q k : ℕ) → q < routers → k < LENGTHS →
        option_map_or (slot_of w) (sym_slot_at lens routers slots q k) empty_slot
        ≡ unwrap_or (slot_at (seen_tables tables) q k) empty_slot
    each q k below short =
        by (sym_slot_at lens routers slots q k) refl
        ∙ ap (λ o. unwrap_or o empty_slot) (ap (option_map seen) (sym there) ∙ sym (slot_seen tables q k))
      where
        slot : Slot
        slot = get_or tables.slots (LENGTHS * q + k) empty_slot

        there : slot_at tables q k ≡ Some slot
        there =
            let long = stand.long in
            let row : LENGTHS * q + LENGTHS ≤ LENGTHS * routers = omega (arith, below) in
            slice_get-get_or tables.slots (LENGTHS * q + k) empty_slot (omega (arith, short, long, row))

        by : (o : Option SymSlot) → sym_slot_at lens routers slots q k ≡ o →
            option_map_or (slot_of w) o empty_slot ≡ seen slot
        by (Some s) is = stands_seen w tracked s slot (stand.each q k s slot below short is there)
        by None is = sym (ap seen (stand.off q k slot below short is there))

-- the next hops in a world with symbolic slots that stand for those of its tables
pub hops_stand : (w : Reading) (tracked : Tracked) (lens : List ℕ) (routers : ℕ) (slots : List SymSlot)
    (world : World) → StandForTables w tracked lens routers slots world.tables → (files : List File) (router : ℕ) →
    next_hops files (record world { tables = tables_of w lens routers slots }) router ≡ next_hops files world router
hops_stand w tracked lens routers slots world stand files router =
    ap (λ (t : Tables). next_hops files (record world { tables = t }) router)
    (tables_seen w tracked lens routers slots world.tables stand)
    ∙ hops_seen files world router
