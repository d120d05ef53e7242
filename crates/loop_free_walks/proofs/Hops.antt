-- Where a router may send a packet whose entry is of a connected subnet or of OSPF.
use Rattle.std.proofs.Common.{◌≡◌, ℕ, zero, suc, ◌<◌, ◌≤◌, Bool, true, false, ◌&&◌, List, [], ◌∷◌, map}
use Rattle.std.proofs.Common.{Option, Some, None, inl, inr, refl, sym, ap, subst, arith, ◌∙◌, slice_get}
use Rattle.std.specs.Prelude.{◌==◌, ◌⊎◌, Contains, option_and_then, option_map, if◌then◌else◌}
use Rattle.std.specs.List.{find, list_any}
use Rattle.std.specs.Option.{option_map_or}
use Rattle.std.proofs.lemmas.Bool.{and_from, and_parts, cases_lt, eq-eqb}
use Rattle.std.proofs.lemmas.Option.{same_Some}
use Rattle.mw_text.specs.declared.address.Prefix.{Prefix}
use Rattle.mw_text.specs.Address.{prefix_at, same_prefix}
use Rattle.mw_text.specs.Members.{In}
use Rattle.mw_text.proofs.Found.{find_passes}
use Rattle.ios_ast.specs.declared.file.File.{File}
use Rattle.route_record.specs.declared.OspfRec.{OspfRec}
use Rattle.route_record.specs.declared.RibEntry.{RibEntry}
use Rattle.route_record.specs.declared.RibSource.{RibSource}
use Rattle.route_record.specs.declared.RibSource.TheVariants.{Connected, Static, Ebgp, Ospf, Ibgp}
use Rattle.route_record.specs.declared.Slot.{Slot}
use Rattle.route_record.specs.declared.Tables.{Tables}
use Rattle.route_record.specs.declared.TheConstants.{LENGTHS}
use Rattle.route_record.specs.declared.World.{World}
use Rattle.route_record.specs.Places.{slot_at}
use Rattle.net_interfaces.specs.declared.interfaces.Addressed.{Addressed}
use Rattle.net_interfaces.specs.declared.interfaces.IfaceId.{IfaceId}
use Rattle.net_interfaces.specs.Interfaces.{addressed}
use Rattle.net_interfaces.proofs.Members.{filter-in, in-find}
use Rattle.net_parts.specs.declared.adjacencies.Adjacency.{Adjacency}
use Rattle.net_parts.specs.Ospf.{up_adjacencies}
use Rattle.net_parts.specs.OspfRoutes.{offer_over}
use Rattle.net_parts.specs.Routing.{up_interfaces}
use Rattle.net_parts.specs.Sending.{same_record, sent_by_ospf}
use Rattle.net_parts.specs.World.{is_up}
use Rattle.net_parts.proofs.LeastWalks.{contains-in, in-filter, in-map}
use Rattle.question_lang.specs.declared.walk.Hop.{Hop}
use Rattle.question_lang.specs.declared.walk.Hop.TheVariants.{To, Ends}
use Rattle.question_lang.specs.declared.walk.End.TheVariants.{Delivered, NoRoute, DeniedIn, DeniedOut}
use Rattle.question_lang.specs.Hops.{all_up, arrive, connected_hops, depart, entry_hops, hops_over, longest_below, next_hops}
use Rattle.question_lang.specs.Hops.{ospf_hops, owner_on, permits_in, permits_out, send_adjacent}
use Rattle.slot_places.proofs.Members.{any-in}
use Rattle.loop_free_walks.specs.Entries.{AreInterior, is_interior}

-- ---- the entry of the longest prefix

-- it is one of the table
pub longest_is : (tables : Tables) (router n len : ℕ) (slot : Slot) (entry : RibEntry) →
    longest_below tables router n ≡ Some (len, slot, entry) →
    (len < n) × (slot_at tables router len ≡ Some slot) × (slot.rib ≡ Some entry)
unfolding longest_below
longest_is tables router zero len slot entry is = cc
longest_is tables router (suc n) len slot entry is =
    by_slot (slot_at tables router n) refl is (longest_is tables router n len slot entry)
  where
    Found : Type 0
    Found = (len < suc n) × (slot_at tables router len ≡ Some slot) × (slot.rib ≡ Some entry)

    Before : Type 0
    Before = longest_below tables router n ≡ Some (len, slot, entry) →
        (len < n) × (slot_at tables router len ≡ Some slot) × (slot.rib ≡ Some entry)

    later : longest_below tables router n ≡ Some (len, slot, entry) → Before → Found
    later here before = let found = before here in (omega (arith, found.0), found.1, found.2)

    by_entry : (s : Slot) (o : Option RibEntry) → slot_at tables router n ≡ Some s → s.rib ≡ o →
        option_map_or (λ (found : Slot × RibEntry). Some (n, found.0, found.1)) (option_map (λ e. (s, e)) o)
        (longest_below tables router n) ≡ Some (len, slot, entry) → Before → Found
    by_entry s None here none same before = later same before
    by_entry s (Some e) here there same before =
        let one = same_Some (n, s, e) (len, slot, entry) same in
        let len_is : n ≡ len = ap (λ (x : ℕ × Slot × RibEntry). x.0) one in
        let slot_is : s ≡ slot = ap (λ (x : ℕ × Slot × RibEntry). x.1) one in
        let entry_is : e ≡ entry = ap (λ (x : ℕ × Slot × RibEntry). x.2) one in (
          omega (arith, len_is),
          subst (λ k. slot_at tables router k ≡ Some slot) len_is (here ∙ ap Some slot_is),
          ap (λ (x : Slot). x.rib) (sym slot_is) ∙ there ∙ ap Some entry_is,
        )

    by_slot : (o : Option Slot) → slot_at tables router n ≡ o →
        option_map_or (λ (found : Slot × RibEntry). Some (n, found.0, found.1))
        (option_and_then (λ (s : Slot). option_map (λ e. (s, e)) s.rib) o) (longest_below tables router n)
        ≡ Some (len, slot, entry) → Before → Found
    by_slot None none same before = later same before
    by_slot (Some s) here same before = by_entry s s.rib here refl same before

-- and there is none of a longer one
pub longest_least : (tables : Tables) (router n at len : ℕ) (s slot : Slot) (e entry : RibEntry) →
    slot_at tables router at ≡ Some s → s.rib ≡ Some e → at < n →
    longest_below tables router n ≡ Some (len, slot, entry) → at ≤ len
unfolding longest_below
longest_least tables router zero at len s slot e entry here there below is = absurd (omega (arith, below))
longest_least tables router (suc n) at len s slot e entry here there below is =
    by_slot (slot_at tables router n) refl is (longest_least tables router n at len s slot e entry here there)
  where
    Before : Type 0
    Before = at < n → longest_below tables router n ≡ Some (len, slot, entry) → at ≤ len

    -- without an entry here the other one stands below
    lower : (o : Option Slot) → slot_at tables router n ≡ o → option_and_then (λ (x : Slot). x.rib) o ≡ None → at < n
    lower o here' none = by (cases_lt at n) where
      by : (at < n) ⊎ (n ≤ at) → at < n
      by (inl less) = less
      by (inr more) =
          let same : at ≡ n = omega (arith, below, more) in
          let both : None ≡ Some e =
          sym none ∙ ap (option_and_then (λ (x : Slot). x.rib)) (sym here' ∙ ap (slot_at tables router) (sym same) ∙ here)
          ∙ there in
          absurd cc

    by_entry : (x : Slot) (o : Option RibEntry) → slot_at tables router n ≡ Some x → x.rib ≡ o →
        option_map_or (λ (found : Slot × RibEntry). Some (n, found.0, found.1)) (option_map (λ e'. (x, e')) o)
        (longest_below tables router n) ≡ Some (len, slot, entry) → Before → at ≤ len
    by_entry x None here' none same before = before (lower (Some x) here' none) same
    by_entry x (Some e') here' there' same before =
        let len_is : n ≡ len =
        ap (λ (y : ℕ × Slot × RibEntry). y.0) (same_Some (n, x, e') (len, slot, entry) same) in
        omega (arith, below, len_is)

    by_slot : (o : Option Slot) → slot_at tables router n ≡ o →
        option_map_or (λ (found : Slot × RibEntry). Some (n, found.0, found.1))
        (option_and_then (λ (x : Slot). option_map (λ e'. (x, e')) x.rib) o) (longest_below tables router n)
        ≡ Some (len, slot, entry) → Before → at ≤ len
    by_slot None none same before = before (lower None none refl) same
    by_slot (Some x) here' same before = by_entry x x.rib here' refl same before

-- ---- hops

module _ (files : List File) (world : World) where
  -- an interface of the router that is up has the destination
  abbrev pub owns : ℕ → Bool
  owns router = list_any (λ x. x.addr.0 == world.packet.dst.0) (up_interfaces files world.failures router)

  departs : (out : IfaceId) (hop : Hop) (i : IfaceId) → depart files world.packet out hop ≡ To i → hop ≡ To i
  departs out hop i is = by (permits_out files world.packet out) is where
    by : (b : Bool) → (if b then hop else Ends DeniedOut) ≡ To i → hop ≡ To i
    by true same = same
    by false same = absurd cc

  arrives : (j i : IfaceId) → arrive files world.packet j ≡ To i → j ≡ i
  arrives j i is = by (permits_in files world.packet j) is where
    by : (b : Bool) → (if b then To j else Ends (DeniedIn j)) ≡ To i → j ≡ i
    by true same = cc
    by false same = absurd cc

  -- the owner of the destination on a subnet is an interface of its router that is up
  owned : (p : Prefix) (i : IfaceId) →
      owner_on (all_up files world.failures) p world.packet.dst ≡ Some i → owns i.router ≡ true
  owned p i is = by (find test (all_up files world.failures)) refl is where
    test : Addressed → Bool
    test x = (x.addr.0 == world.packet.dst.0) && same_prefix x.subnet p

    by : (o : Option Addressed) → find test (all_up files world.failures) ≡ o →
        option_map (λ (x : Addressed). x.id) o ≡ Some i → owns i.router ≡ true
    by None none same = cc
    by (Some x) found same =
        let there = in-filter (is_up files world.failures) (addressed files) x
        (in-find test (all_up files world.failures) x found) in
        let id : x.id ≡ i = cc in
        let router : (x.id.router == i.router) ≡ true =
        eq-eqb x.id.router i.router (ap (λ (y : IfaceId). y.router) id) in
        any-in (λ (y : Addressed). y.addr.0 == world.packet.dst.0) (up_interfaces files world.failures i.router) x
        (filter-in (λ (y : Addressed). (y.id.router == i.router) && is_up files world.failures y) (addressed files) x
        there.0 (and_from (x.id.router == i.router) _ router there.1))
        (and_parts (x.addr.0 == world.packet.dst.0) _
        (find_passes test (all_up files world.failures) x found)).0

  -- a connected subnet leads to the owner of the destination
  connected_to : (own : List Addressed) (p : Prefix) (i : IfaceId) →
      In (To i) (connected_hops files world.packet (all_up files world.failures) own p) → owns i.router ≡ true
  connected_to own p i there = by (find (λ (x : Addressed). same_prefix x.subnet p) own) there where
    reaches : (o : Option IfaceId) → owner_on (all_up files world.failures) p world.packet.dst ≡ o →
        option_map_or (arrive files world.packet) o (Ends Delivered) ≡ To i → owns i.router ≡ true
    reaches None none same = absurd cc
    reaches (Some j) found same = owned p i (found ∙ ap Some (arrives j i same))

    by : (o : Option Addressed) →
        In (To i) (option_map_or (λ (out : Addressed). depart files world.packet out.id (option_map_or
        (arrive files world.packet) (owner_on (all_up files world.failures) p world.packet.dst) (Ends Delivered)) ∷ [])
        o []) → owns i.router ≡ true
    by None none = absurd none
    by (Some out) (inl same) =
        reaches (owner_on (all_up files world.failures) p world.packet.dst) refl (departs out.id _ i (sym same))
    by (Some out) (inr none) = absurd none

  -- OSPF leads over an adjacency whose offer is the route that the router holds
  pub record IsSent (router len : ℕ) (slot : Slot) (far : ℕ) : Type 0 where
    pub held : OspfRec
    pub holds : slot.ospf ≡ Some held
    pub over : Adjacency
    pub there : In over (up_adjacencies files world.failures router)
    pub offers : option_map_or (same_record held)
        (offer_over world.tables (prefix_at world.packet.dst len) over) false ≡ true
    pub to : over.to.router ≡ far

  sent_to : (router len : ℕ) (slot : Slot) (i : IfaceId) →
      In (To i) (ospf_hops files world router (prefix_at world.packet.dst len) slot) → IsSent router len slot i.router
  unfolding sent_by_ospf
  sent_to router len slot i there = by slot.ospf refl there where
    p : Prefix
    p = prefix_at world.packet.dst len

    by : (o : Option OspfRec) → slot.ospf ≡ o →
        In (To i) (option_map_or (λ held. map (send_adjacent files world.packet)
        (sent_by_ospf files world.failures world.tables router (prefix_at world.packet.dst len) held)) o []) →
        IsSent router len slot i.router
    by None none here = absurd here
    by (Some held) holds here =
        let over = in-map (send_adjacent files world.packet)
        (sent_by_ospf files world.failures world.tables router (prefix_at world.packet.dst len) held) (To i) here in
        let found = in-filter (λ (a : Adjacency). option_map_or (same_record held)
        (offer_over world.tables (prefix_at world.packet.dst len) a) false)
        (up_adjacencies files world.failures router) over.0 over.1 in
        record {
          held = held;
          holds = holds;
          over = over.0;
          there = found.0;
          offers = found.1;
          to = ap (λ (j : IfaceId). j.router) (arrives over.0.to i (departs over.0.from _ i (sym over.2)));
        }

  -- what a hop to another router says
  pub record Leads (router far : ℕ) : Type 0 where
    pub file : File
    pub found : slice_get files router ≡ Some file
    pub elsewhere : owns router ≡ false
    pub len : ℕ
    pub slot : Slot
    pub entry : RibEntry
    pub longest : longest_below world.tables router LENGTHS ≡ Some (len, slot, entry)
    pub how : (owns far ≡ true) ⊎ ((entry.source ≡ Ospf) × IsSent router len slot far)

  module _ (interior : AreInterior world.tables) where
    by_entry : (router : ℕ) (file : File) (len : ℕ) (slot : Slot) (source : RibSource) (distance : ℕ) (i : IfaceId) →
        is_interior source ≡ true →
        In (To i) (entry_hops files world (all_up files world.failures) (up_interfaces files world.failures router)
        router file (len, slot, record { source = source; distance = distance })) →
        (owns i.router ≡ true) ⊎ ((source ≡ Ospf) × IsSent router len slot i.router)
    by_entry router file len slot Connected distance i inside there =
        inl (connected_to (up_interfaces files world.failures router) (prefix_at world.packet.dst len) i there)
    by_entry router file len slot Static distance i inside there = cc
    by_entry router file len slot Ebgp distance i inside there = cc
    by_entry router file len slot Ospf distance i inside there = inr (refl, sent_to router len slot i there)
    by_entry router file len slot Ibgp distance i inside there = cc

    by_longest : (router : ℕ) (file : File) (i : IfaceId) → slice_get files router ≡ Some file → owns router ≡ false →
        (o : Option (ℕ × Slot × RibEntry)) → longest_below world.tables router LENGTHS ≡ o →
        In (To i) (option_map_or (entry_hops files world (all_up files world.failures)
        (up_interfaces files world.failures router) router file) o (Ends NoRoute ∷ [])) → Leads router i.router
    by_longest router file i found elsewhere None none (inl same) = absurd cc
    by_longest router file i found elsewhere None none (inr here) = absurd here
    by_longest router file i found elsewhere (Some (len, slot, entry)) longest here =
        let is = longest_is world.tables router LENGTHS len slot entry longest in
        record {
          file = file;
          found = found;
          elsewhere = elsewhere;
          len = len;
          slot = slot;
          entry = entry;
          longest = longest;
          how = by_entry router file len slot entry.source entry.distance i
              (sym (ap (λ o. option_map_or (λ (e : RibEntry). is_interior e.source) o true) is.2)
              ∙ interior router len slot is.0 is.1) here;
        }

    -- the router sends the packet to another one
    pub leads : (router : ℕ) (i : IfaceId) → Contains (next_hops files world router) (To i) → Leads router i.router
    leads router i sends = by_file (slice_get files router) refl (contains-in (To i) _ sends) where
      by_own : (file : File) → slice_get files router ≡ Some file → (b : Bool) → owns router ≡ b →
          In (To i) (if b then Ends Delivered ∷ [] else option_map_or (entry_hops files world
          (all_up files world.failures) (up_interfaces files world.failures router) router file)
          (longest_below world.tables router LENGTHS) (Ends NoRoute ∷ [])) → Leads router i.router
      by_own file found true here (inl same) = absurd cc
      by_own file found true here (inr none) = absurd none
      by_own file found false elsewhere there =
          by_longest router file i found elsewhere (longest_below world.tables router LENGTHS) refl there

      by_file : (o : Option File) → slice_get files router ≡ o →
          In (To i) (option_map_or (hops_over files world (all_up files world.failures)
          (up_interfaces files world.failures router) router) o []) → Leads router i.router
      by_file None none there = absurd there
      by_file (Some file) found there = by_own file found (owns router) refl there
