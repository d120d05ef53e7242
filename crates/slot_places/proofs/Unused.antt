-- Where nothing can stand an empty slot is stable.
use Rattle.std.proofs.Common.{◌≡◌, ℕ, ◌<◌, Bool, true, false, ◌&&◌, ◌||◌, List, [], ◌∷◌, ◌++◌, Option, Some, None}
use Rattle.std.proofs.Common.{inl, refl, sym, ap, subst, ◌∙◌, slice_get}
use Rattle.std.specs.Prelude.{◌==◌, IfSome, MatchOption, is_some, option_and_then, if◌then◌else◌}
use Rattle.std.specs.List.{filter_map, list_any}
use Rattle.std.specs.Option.{option_map_or}
use Rattle.std.proofs.lemmas.Bool.{and_from, false≢true, or_parts}
use Rattle.std.proofs.lemmas.Option.{option_and_then_some}
use Rattle.mw_text.specs.Members.{In}
use Rattle.mw_text.specs.declared.address.Addr.{Addr}
use Rattle.mw_text.specs.declared.address.Prefix.{Prefix}
use Rattle.mw_text.specs.Address.{covers, prefix_at}
use Rattle.ios_ast.specs.declared.bgp.Bgp.{Bgp}
use Rattle.ios_ast.specs.declared.file.File.{File}
use Rattle.ios_ast.specs.declared.ospf.Ospf.{Ospf}
use Rattle.route_record.specs.declared.Environment.{Environment}
use Rattle.route_record.specs.declared.Failures.{Failures}
use Rattle.route_record.specs.declared.OspfRec.{OspfRec}
use Rattle.route_record.specs.declared.RibEntry.{RibEntry}
use Rattle.route_record.specs.declared.RibSource.{RibSource}
use Rattle.route_record.specs.declared.RibSource.TheVariants.{Connected, Static, Ebgp, Ibgp, Ospf as OspfEntry}
use Rattle.route_record.specs.declared.Slot.{Slot}
use Rattle.route_record.specs.declared.Tables.{Tables}
use Rattle.route_record.specs.declared.TheConstants.{LENGTHS}
use Rattle.route_record.specs.Places.{slot_at}
use Rattle.net_interfaces.specs.declared.interfaces.Addressed.{Addressed}
use Rattle.net_interfaces.specs.Interfaces.{addressed}
use Rattle.net_parts.specs.declared.adjacencies.Adjacency.{Adjacency}
use Rattle.net_parts.specs.Decisions.{DecidedByBgp}
use Rattle.net_parts.specs.Entries.{entry_with, own_is_as_good}
use Rattle.net_parts.specs.Ospf.{up_adjacencies}
use Rattle.net_parts.specs.OspfRoutes.{extended, first_best, held_by_ospf, offer_over, own_origins}
use Rattle.net_parts.specs.Stable.{IsStableSlot}
use Rattle.net_parts.proofs.Heard.{held_by_offers}
use Rattle.net_parts.proofs.LeastWalks.{in-filter_map}
use Rattle.slot_places.specs.declared.rooms.Room.{Room}
use Rattle.slot_places.specs.Origins.{is_static_at, is_subnet_at, origins_at}
use Rattle.slot_places.specs.Rooms.{can_be_used, dearest_walk, has_sources, has_subnet, room_around, room_at}
use Rattle.slot_places.specs.Rooms.{room_among, room_of, rooms_of, runs_ospf}
use Rattle.plan_places.specs.Tables.{empty_slot}
use Rattle.slot_places.proofs.Brought.{IsBacked, entry_backed}
use Rattle.slot_places.proofs.Known.{each_known, static_there, subnet_there}
use Rattle.slot_places.proofs.Members.{any-in, not_empty}
use Rattle.slot_places.proofs.RoomSteps.{room_there}

no_members : {X : Type 0} (xs : List X) → ((x : X) → In x xs → ⊥) → xs ≡ []
no_members [] none = refl
no_members (x ∷ xs) none = absurd (none x (inl refl))

-- without room no line brings in any
no_origins : (files : List File) (destinations : Prefix) (len : ℕ) → room_at files destinations len ≡ None →
    origins_at files destinations len ≡ []
unfolding room_at
no_origins files destinations len none = by (origins_at files destinations len) none where
  by : (os : List OspfRec) → room_of os (dearest_walk files) ≡ None → os ≡ []
  by [] none' = refl
  by (o ∷ os) none' =
      let some : room_of (o ∷ os) (dearest_walk files) ≡ Some (room_around (o ∷ os) (dearest_walk files)) =
      ap (λ b. if b then None else Some (room_around (o ∷ os) (dearest_walk files))) (not_empty (o ∷ os) o
      (inl refl)) in
      absurd cc

module _ (files : List File) (destinations : Prefix) (d : Addr) (failures : Failures) (environment : Environment)
    (tables : Tables) (covered : covers destinations d ≡ true) (router len : ℕ) (file : File)
    (at : slice_get files router ≡ Some file) (short : len < LENGTHS)
    (unused : can_be_used files destinations router len ≡ false)
    (here : slot_at tables router len ≡ Some empty_slot)
    (others : (r : ℕ) (slot : Slot) → room_at files destinations len ≡ None → slot_at tables r len ≡ Some slot →
    slot.ospf ≡ None) where
  parts : ((has_subnet files destinations router len
      || option_map_or (has_sources destinations len) (slice_get files router) false) ≡ false)
      × (is_some (room_among files (rooms_of files destinations) router len) ≡ false)
  parts = or_parts _ _ unused

  sources : (has_subnet files destinations router len ≡ false)
      × (option_map_or (has_sources destinations len) (slice_get files router) false ≡ false)
  sources = or_parts _ _ parts.0

  of_file : (list_any (is_static_at destinations len) file.statics ≡ false) × (is_some file.bgp ≡ false)
  of_file = or_parts _ _ (sym (ap (λ o. option_map_or (has_sources destinations len) o false) at) ∙ sources.1)

  -- ---- OSPF

  no_room : (process : Ospf) → file.ospf ≡ Some process → room_at files destinations len ≡ None
  no_room process runs = by (room_at files destinations len) refl where
    runs_there : runs_ospf files router ≡ true
    runs_there = ap (λ o. option_map_or (λ (f : File). is_some f.ospf) o false) at ∙ ap is_some runs

    by : (o : Option Room) → room_at files destinations len ≡ o → o ≡ None
    by None is = refl
    by (Some room) is =
        let there : room_among files (rooms_of files destinations) router len ≡ Some room =
        room_there files destinations router len short
        ∙ ap (λ b. if b then room_at files destinations len else None) runs_there ∙ is in
        absurd (false≢true (sym parts.1 ∙ ap is_some there))

  own_none : (process : Ospf) → file.ospf ≡ Some process →
      own_origins files failures router file process (prefix_at d len) empty_slot ≡ []
  own_none process runs = no_members _ (λ o there. subst (In o)
      (no_origins files destinations len (no_room process runs))
      (each_known files destinations d failures covered router len file process empty_slot at runs tt
      (λ held holds. absurd cc) o there))

  offers_none : (process : Ospf) → file.ospf ≡ Some process →
      filter_map (offer_over tables (prefix_at d len)) (up_adjacencies files failures router) ≡ []
  offers_none process runs = no_members _ none where
    offered : (a : Adjacency) (o : OspfRec) → offer_over tables (prefix_at d len) a ≡ Some o → ⊥
    offered a o is = option_and_then_some (extended a.cost)
        (option_and_then (λ (slot : Slot). slot.ospf) (slot_at tables a.to.router len)) o is (λ held holds is'.
        option_and_then_some (λ (slot : Slot). slot.ospf) (slot_at tables a.to.router len) held holds
        (λ slot there holds'. held_nowhere slot held (others a.to.router slot (no_room process runs) there) holds'))
      where
        held_nowhere : (slot : Slot) (held : OspfRec) → slot.ospf ≡ None → slot.ospf ≡ Some held → ⊥
        held_nowhere slot held none some = absurd cc

    none : (o : OspfRec) →
        In o (filter_map (offer_over tables (prefix_at d len)) (up_adjacencies files failures router)) → ⊥
    none o there =
        let found = in-filter_map (offer_over tables (prefix_at d len)) (up_adjacencies files failures router) o
        there in
        offered found.0 o found.2

  held_none : (process : Ospf) → file.ospf ≡ Some process →
      held_by_ospf files failures tables router file process (prefix_at d len) ≡ None
  held_none process runs =
      let own : option_map_or (own_origins files failures router file process (prefix_at d len))
      (slot_at tables router len) [] ≡ [] =
      ap (λ s. option_map_or (own_origins files failures router file process (prefix_at d len)) s []) here
      ∙ own_none process runs in
      let offers = offers_none process runs in
      held_by_offers files failures tables router file process (prefix_at d len) ∙ (λ i. first_best (own i ++ offers i))

  no_ospf : (o : Option Ospf) → file.ospf ≡ o →
      None ≡ option_and_then (λ process. held_by_ospf files failures tables router file process (prefix_at d len)) o
  no_ospf None none = refl
  no_ospf (Some process) runs = sym (held_none process runs)

  -- ---- BGP

  no_bgp : (b : Option Bgp) → is_some b ≡ false → MatchOption b (empty_slot.bgp ≡ None)
      (λ bgp. DecidedByBgp files failures environment tables router file bgp (prefix_at d len) empty_slot.bgp)
  no_bgp None none = refl
  no_bgp (Some bgp) some = absurd cc

  -- ---- the table

  unbacked : (source : RibSource) → IsBacked files failures router file (prefix_at d len) empty_slot source → ⊥
  unbacked Connected direct =
      let subnet = subnet_there files failures destinations d router len covered direct in
      false≢true (sym sources.0 ∙ any-in (λ (x : Addressed). (x.id.router == router)
      && is_subnet_at destinations len x) (addressed files) subnet.at subnet.there
      (and_from _ _ subnet.own subnet.fits))
  unbacked Static (route, among) =
      let static = static_there files failures destinations d router len file route covered among in
      false≢true (sym of_file.0
      ∙ any-in (is_static_at destinations len) file.statics static.route static.there static.fits)
  unbacked Ebgp some = false≢true some
  unbacked OspfEntry some = false≢true some
  unbacked Ibgp some = false≢true some

  no_rib : (own : Bool) → None ≡ entry_with files failures router file (prefix_at d len) empty_slot own
  no_rib own = by (entry_with files failures router file (prefix_at d len) empty_slot own)
      (entry_backed files failures router file (prefix_at d len) empty_slot own)
    where
      Backs : RibEntry → Type 0
      Backs entry = IsBacked files failures router file (prefix_at d len) empty_slot entry.source

      by : (r : Option RibEntry) → IfSome r Backs → None ≡ r
      by None backed = refl
      by (Some entry) backed = absurd (unbacked entry.source backed)

  -- an empty slot is stable there
  pub empty_stable : IsStableSlot files failures environment tables router file (prefix_at d len) empty_slot
  empty_stable = record {
    ospf = no_ospf file.ospf refl;
    bgp = no_bgp file.bgp of_file.1;
    rib = no_rib (own_is_as_good files failures router file (prefix_at d len) empty_slot);
  }
