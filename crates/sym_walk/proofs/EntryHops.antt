-- The next hops of an entry by the number of its source, and the longest prefix with an entry, one length at a time.
use Rattle.std.proofs.Common.{◌≡◌, ℕ, suc, ◌+◌, ◌<◌, Bool, true, false, cond, List, [], ◌∷◌, Option, Some, None}
use Rattle.std.proofs.Common.{refl, sym, ap, ◌∙◌, eqb, arith}
use Rattle.std.proofs.lemmas.Bool.{eqb-true}
use Rattle.std.specs.Prelude.{option_map, option_and_then}
use Rattle.std.specs.Option.{option_map_or}
use Rattle.mw_text.specs.Address.{prefix_at}
use Rattle.ios_ast.specs.declared.file.File.{File}
use Rattle.route_record.specs.declared.RibEntry.{RibEntry}
use Rattle.route_record.specs.declared.RibSource.{RibSource}
use Rattle.route_record.specs.declared.RibSource.TheVariants.{Connected, Static, Ebgp, Ospf, Ibgp}
use Rattle.route_record.specs.declared.Slot.{Slot}
use Rattle.route_record.specs.declared.Tables.{Tables}
use Rattle.route_record.specs.declared.TheConstants.{LENGTHS}
use Rattle.route_record.specs.declared.World.{World}
use Rattle.net_interfaces.specs.declared.interfaces.Addressed.{Addressed}
use Rattle.net_parts.specs.Routing.{up_interfaces}
use Rattle.question_lang.specs.declared.walk.End.TheVariants.{NoRoute}
use Rattle.question_lang.specs.declared.walk.Hop.{Hop}
use Rattle.question_lang.specs.declared.walk.Hop.TheVariants.{Ends}
use Rattle.question_lang.specs.Hops.{all_up, bgp_hops, connected_hops, entry_at, entry_hops, longest_below, ospf_hops}
use Rattle.sym_rib.specs.declared.slots.SymSlot.{SymSlot}
use Rattle.sym_rib.specs.declared.slots.SymTables.{SymTables}
use Rattle.sym_rib.specs.Slots.{rib_at, rib_of}
use Rattle.term_store.specs.Terms.{Reading, at}
use Rattle.term_arith.specs.Bits.{number}
use Rattle.sym_walk.specs.Entries.{by_entry, by_number, entry_of, longer, static_part}
use Rattle.sym_rib.specs.Worlds.{read_tables, slot_of, slot_placed}
use Rattle.sym_rib.proofs.SlotPlaces.{slot_missing, slot_there}

-- by the number of its source
pub entry_by_number : (w : Reading) (files : List File) (world : World) (up own : List Addressed) (router : ℕ)
    (file : File) (len : ℕ) (s : SymSlot) →
    entry_of w files world up own router file len s
    ≡ by_number (number w s.rib.source.nodes.items)
    (connected_hops files world.packet up own (prefix_at world.packet.dst len))
    (static_part files world.packet up own file.statics (prefix_at world.packet.dst len) (number w
    s.rib.distance.nodes.items))
    (ospf_hops files world router (prefix_at world.packet.dst len) (slot_of w s))
    (bgp_hops files world up own router (slot_of w s))
entry_by_number w files world up own router file len s =
    let n = number w s.rib.source.nodes.items in
    by_tests (eqb n 0) (eqb n 1) (eqb n 2) refl (eqb n 3) refl where
      of_source : RibSource → List Hop
      of_source source = entry_hops files world up own router file (
        len,
        slot_of w s,
        record {
          source = source;
          distance = number w s.rib.distance.nodes.items;
        },
      )

      connected : List Hop
      connected = connected_hops files world.packet up own (prefix_at world.packet.dst len)

      static : List Hop
      static = static_part files world.packet up own file.statics (prefix_at world.packet.dst len) (number w
          s.rib.distance.nodes.items)

      ospf : List Hop
      ospf = ospf_hops files world router (prefix_at world.packet.dst len) (slot_of w s)

      bgp : List Hop
      bgp = bgp_hops files world up own router (slot_of w s)

      not_both : (n : ℕ) → eqb n 2 ≡ true → eqb n 3 ≡ false
      not_both n h = let two : n ≡ 2 = eqb-true n 2 h in ap (λ m. eqb m 3) two

      by_tests : (a b c : Bool) → eqb (number w s.rib.source.nodes.items) 2 ≡ c → (d : Bool) →
          eqb (number w s.rib.source.nodes.items) 3 ≡ d →
          of_source (cond a Connected (cond b Static (cond c Ebgp (cond d Ospf Ibgp))))
          ≡ cond a connected (cond b static (cond d ospf bgp))
      by_tests true b c two d three = refl
      by_tests false true c two d three = refl
      by_tests false false true two d three =
          let off : d ≡ false = sym three ∙ not_both (number w s.rib.source.nodes.items) two in
          sym (ap (λ x. cond x ospf bgp) off)
      by_tests false false false two true three = refl
      by_tests false false false two false three = refl

-- ---- the longest prefix

longest_suc : (tables : Tables) (router len : ℕ) → longest_below tables router (suc len)
    ≡ option_map_or (λ found. Some (len, found.0, found.1)) (entry_at tables router len)
    (longest_below tables router len)
unfolding longest_below
longest_suc tables router len = refl

-- one length more
pub longest_more : (tables : Tables) (router len : ℕ) →
    longest_below tables router (len + 1) ≡ longer tables router len (longest_below tables router len)
longest_more tables router len =
    let next : len + 1 ≡ suc len = omega arith in
    ap (longest_below tables router) next ∙ longest_suc tables router len

pub longest_none : (tables : Tables) (router : ℕ) → longest_below tables router 0 ≡ None
unfolding longest_below
longest_none tables router = refl

-- the hops by the entry of the longest prefix, with one length more
pub longer_hops : (hops : ℕ × Slot × RibEntry → List Hop) (none : List Hop) (b : Bool) (len : ℕ) (slot : Slot)
    (e : RibEntry) (found : Option (Slot × RibEntry)) (o : Option (ℕ × Slot × RibEntry)) →
    found ≡ option_map (λ x. (slot, x)) (cond b (Some e) None) →
    option_map_or hops (option_map_or (λ f. Some (len, f.0, f.1)) found o) none
    ≡ cond b (hops (len, slot, e)) (option_map_or hops o none)
longer_hops hops none true len slot e found o is =
    ap (λ x. option_map_or hops (option_map_or (λ f. Some (len, f.0, f.1)) x o) none) is
longer_hops hops none false len slot e found o is =
    ap (λ x. option_map_or hops (option_map_or (λ f. Some (len, f.0, f.1)) x o) none) is

-- what is read of a slot: its entry, with it
abbrev entry_in : Slot → Option (Slot × RibEntry)
entry_in slot = option_map (λ entry. (slot, entry)) slot.rib

-- the entry of a slot that is there
pub entry_there : (w : Reading) (tables : SymTables) (router len : ℕ) (s : SymSlot) → len < LENGTHS →
    slot_placed tables router len ≡ Some s →
    entry_at (read_tables w tables) router len ≡ option_map (λ x. (slot_of w s, x)) (rib_of w s.rib)
entry_there w tables router len s short here =
    ap (option_and_then entry_in)
    (slot_there w tables.lens.now tables.routers tables.slots.now router len s short here)

-- and where there is none
pub entry_missing : (w : Reading) (tables : SymTables) (router len : ℕ) → len < LENGTHS →
    slot_placed tables router len ≡ None → entry_at (read_tables w tables) router len ≡ None
entry_missing w tables router len short here =
    slot_missing w tables.lens.now tables.routers tables.slots.now entry_in router len refl short here

-- the hops with one length more, where the router has a slot for it, and where it has none
pub longer_there : (w : Reading) (files : List File) (world : World) (router : ℕ) (file : File) (tables : SymTables)
    (len : ℕ) (s : SymSlot) (shorter : Option (ℕ × Slot × RibEntry)) → len < LENGTHS →
    slot_placed tables router len ≡ Some s →
    cond (at w s.rib.valid) (entry_of w files world (all_up files world.failures)
    (up_interfaces files world.failures router) router file len s) (by_entry files world router file shorter)
    ≡ by_entry files world router file (longer (read_tables w tables) router len shorter)
longer_there w files world router file tables len s shorter short here =
    sym (longer_hops (entry_hops files world (all_up files world.failures) (up_interfaces files world.failures router)
    router file) (Ends NoRoute ∷ []) (at w s.rib.valid) len (slot_of w s) (rib_at w s.rib)
    (entry_at (read_tables w tables) router len) shorter (entry_there w tables router len s short here))

pub longer_missing : (w : Reading) (files : List File) (world : World) (router : ℕ) (file : File)
    (tables : SymTables) (len : ℕ) (shorter : Option (ℕ × Slot × RibEntry)) → len < LENGTHS →
    slot_placed tables router len ≡ None →
    by_entry files world router file shorter
    ≡ by_entry files world router file (longer (read_tables w tables) router len shorter)
longer_missing w files world router file tables len shorter short here =
    sym (ap (λ found. by_entry files world router file (option_map_or (λ f. Some (len, f.0, f.1)) found shorter))
    (entry_missing w tables router len short here))
