-- Each OSPF route of a stable routing has room, and fits there; and where nothing can stand nothing stands.
use Rattle.std.proofs.Common.{◌≡◌, ℕ, ◌+◌, ◌*◌, ◌^◌, ◌<◌, ◌≤◌, Bool, true, false, ◌&&◌, ◌||◌, List, []}
use Rattle.std.proofs.Common.{◌∷◌, ◌++◌, length, map, max, Option, Some, None, inl, inr, refl, sym, ap, subst}
use Rattle.std.proofs.Common.{arith, ◌∙◌, slice_get}
use Rattle.std.specs.Prelude.{◌==◌, ◌⊎◌, All, IfSome, MatchOption, fold, is_some, nat_le, if◌then◌else◌}
use Rattle.std.specs.List.{list_any}
use Rattle.std.specs.Option.{option_map_or}
use Rattle.std.proofs.lemmas.Bool.{and_from, eqb-true, false≢true, leb-true, or_parts}
use Rattle.std.proofs.lemmas.List.Elements.{All-cons, All-nil}
use Rattle.std.proofs.lemmas.Option.{option_and_then_some}
use Rattle.mw_text.specs.Members.{In}
use Rattle.mw_text.proofs.Lists.{all_found}
use Rattle.mw_text.specs.declared.address.Addr.{Addr}
use Rattle.mw_text.specs.declared.address.Prefix.{Prefix}
use Rattle.mw_text.specs.Address.{covers, prefix_at}
use Rattle.ios_ast.specs.declared.bgp.Bgp.{Bgp}
use Rattle.ios_ast.specs.declared.file.File.{File}
use Rattle.ios_ast.specs.Deciding.{carries}
use Rattle.route_record.specs.declared.Environment.{Environment}
use Rattle.route_record.specs.declared.Failures.{Failures}
use Rattle.route_record.specs.declared.OspfKind.{OspfKind}
use Rattle.route_record.specs.declared.OspfKind.TheVariants.{Internal, Ext1, Ext2}
use Rattle.route_record.specs.declared.OspfRec.{OspfRec}
use Rattle.route_record.specs.declared.RibEntry.{RibEntry}
use Rattle.route_record.specs.declared.RibSource.{RibSource}
use Rattle.route_record.specs.declared.RibSource.TheVariants.{Connected, Static, Ebgp, Ibgp, Ospf as OspfEntry}
use Rattle.route_record.specs.declared.Slot.{Slot}
use Rattle.route_record.specs.declared.Tables.{Tables}
use Rattle.route_record.specs.declared.TheConstants.{LENGTHS}
use Rattle.route_record.specs.Fits.{FitsOspf, FitsSlot}
use Rattle.route_record.specs.Places.{slot_at}
use Rattle.net_interfaces.specs.declared.interfaces.Addressed.{Addressed}
use Rattle.net_interfaces.specs.Interfaces.{addressed}
use Rattle.net_parts.specs.declared.adjacencies.Adjacency.{Adjacency}
use Rattle.net_parts.specs.Decisions.{DecidedByBgp}
use Rattle.net_parts.specs.Entries.{own_is_as_good}
use Rattle.net_parts.specs.Ospf.{adjacencies}
use Rattle.net_parts.specs.OspfRoutes.{kind_rank}
use Rattle.net_parts.specs.Stable.{Stable}
use Rattle.net_parts.proofs.LeastWalks.{in-contains, in-left, in-right}
use Rattle.slot_places.specs.declared.fields.Field.TheVariants.{Addresses, Among, Bits}
use Rattle.slot_places.specs.declared.rooms.Room.{Room}
use Rattle.slot_places.specs.declared.fields.TheConstants.{MOST_ADDRESSES, MOST_VALUES}
use Rattle.slot_places.specs.Origins.{is_static_at, is_subnet_at, origins_at}
use Rattle.slot_places.specs.Rooms.{FitsIn, can_be_used, dearest_of, dearest_walk, has_sources, has_subnet}
use Rattle.slot_places.specs.Rooms.{room_among, room_around, room_at, room_for, room_of, rooms_of, runs_ospf}
use Rattle.slot_places.specs.Supported.{AreOrigins}
use Rattle.plan_places.specs.Tables.{empty_slot}
use Rattle.slot_places.specs.Values.{FitsField, address_numbers, addresses_field, field_of, greatest, once, put_once}
use Rattle.slot_places.specs.Values.{width_for}
use Rattle.slot_places.proofs.Bounded.{cost_bound}
use Rattle.slot_places.proofs.Brought.{IsBacked, entry_backed}
use Rattle.slot_places.proofs.Known.{origins_known, static_there, subnet_there}
use Rattle.slot_places.proofs.Members.{all-from-in, any-in, map-in, not_empty}
use Rattle.slot_places.proofs.RoomSteps.{room_there}
use Rattle.slot_places.proofs.Supports.{all_held, all_in, file_there}
use Rattle.slot_places.proofs.Widths.{in_width}

-- ---- a value among the values of a field

put-keeps : (values : List ℕ) (n x : ℕ) → In x values → In x (put_once values n)
put-keeps values n x there = by (carries values n) where
  by : (b : Bool) → In x (if b then values else values ++ n ∷ [])
  by true = there
  by false = in-left x values (n ∷ []) there

put-there : (values : List ℕ) (n : ℕ) → In n (put_once values n)
put-there values n = by (carries values n) refl where
  found : (xs : List ℕ) → list_any (λ y. y == n) xs ≡ true → In n xs
  found [] some = absurd cc
  found (y ∷ ys) some = by_first (y == n) refl some (found ys) where
    by_first : (b : Bool) → (y == n) ≡ b → (b || list_any (λ z. z == n) ys) ≡ true →
        (list_any (λ z. z == n) ys ≡ true → In n ys) → In n (y ∷ ys)
    by_first true same some' rest = inl (sym (eqb-true y n same))
    by_first false same some' rest = inr (rest some')

  by : (b : Bool) → carries values n ≡ b → In n (if b then values else values ++ n ∷ [])
  by true some = found values some
  by false none = in-right n values (n ∷ []) (inl refl)

folded-keeps : (numbers values : List ℕ) (x : ℕ) → In x values → In x (fold put_once values numbers)
folded-keeps [] values x there = there
folded-keeps (n ∷ numbers) values x there = folded-keeps numbers (put_once values n) x (put-keeps values n x there)

pub folded-there : (numbers values : List ℕ) (x : ℕ) → In x numbers → In x (fold put_once values numbers)
folded-there [] values x there = absurd there
folded-there (n ∷ numbers) values x (inl same) =
    folded-keeps numbers (put_once values n) x (subst (λ m. In m (put_once values n)) (sym same) (put-there values n))
folded-there (n ∷ numbers) values x (inr later) = folded-there numbers (put_once values n) x later

above_start : (numbers : List ℕ) (most : ℕ) → most ≤ fold max most numbers
above_start [] most = omega arith
above_start (n ∷ numbers) most = let rest = above_start numbers (max most n) in omega (arith, rest)

pub below_greatest : (numbers : List ℕ) (most x : ℕ) → In x numbers → x ≤ fold max most numbers
below_greatest [] most x there = absurd there
below_greatest (n ∷ numbers) most x (inl same) =
    let above = above_start numbers (max most n) in omega (arith, same, above)
below_greatest (n ∷ numbers) most x (inr later) = below_greatest numbers (max most n) x later

-- a number that is one of some fits the field of these
pub fits_among : (numbers : List ℕ) (x : ℕ) → In x numbers → x < 2 ^ 32 → FitsField (field_of (once numbers)) x
unfolding field_of
fits_among numbers x there small = by (nat_le (length (once numbers)) MOST_VALUES) refl where
  within : In x (once numbers)
  within = folded-there numbers [] x there

  by : (b : Bool) → nat_le (length (once numbers)) MOST_VALUES ≡ b →
      FitsField (if b then Among (once numbers) else Bits (width_for (greatest (once numbers)))) x
  by true is = (in-contains x (once numbers) within, leb-true (length (once numbers)) MOST_VALUES is)
  by false is =
      in_width x (greatest (once numbers)) 0 32 (below_greatest (once numbers) 0 x within) small

-- and that of none or of one of some addresses the field of these
pub fits_addresses : (addresses : List ℕ) (n : ℕ) →
    (n ≡ 0) ⊎ ((a : ℕ) × In a addresses × (n ≡ 2 ^ 32 + a)) → n < 2 ^ 33 →
    FitsField (addresses_field (once addresses)) n
unfolding addresses_field
fits_addresses addresses n is small = by (nat_le (length (once addresses)) MOST_ADDRESSES) refl where
  within : (n ≡ 0) ⊎ ((a : ℕ) × In a addresses × (n ≡ 2 ^ 32 + a)) → In n (address_numbers (once addresses))
  within (inl none) = inl none
  within (inr (a, there, same)) =
      inr (subst (λ m. In m (map (λ b. 2 ^ 32 + b) (once addresses))) (sym same)
      (map-in (λ b. 2 ^ 32 + b) (once addresses) a (folded-there addresses [] a there)))

  by : (b : Bool) → nat_le (length (once addresses)) MOST_ADDRESSES ≡ b →
      FitsField (if b then Addresses (once addresses) else Bits 33) n
  by true few = (
    in-contains n (address_numbers (once addresses)) (within is),
    leb-true (length (once addresses)) MOST_ADDRESSES few,
  )
  by false many = small

-- ---- the dearest of some

pub below_dearest : {X : Type 0} (cost : X → ℕ) (xs : List X) (most : ℕ) (x : X) → In x xs →
    cost x ≤ fold (λ m y. max m (cost y)) most xs
below_dearest cost [] most x there = absurd there
below_dearest {X = X} cost (y ∷ ys) most x (inl same) =
    let is = ap cost same in
    let above = from_start ys (max most (cost y)) in omega (arith, is, above)
  where
    from_start : (zs : List X) (start : ℕ) → start ≤ fold (λ m z. max m (cost z)) start zs
    from_start [] start = omega arith
    from_start (z ∷ zs) start = let rest = from_start zs (max start (cost z)) in omega (arith, rest)
below_dearest cost (y ∷ ys) most x (inr later) = below_dearest cost ys (max most (cost y)) x later

pub all_below_dearest : {X : Type 0} (cost : X → ℕ) (xs : List X) →
    All (λ x. cost x ≤ fold (λ m y. max m (cost y)) 0 xs) xs
all_below_dearest cost xs = all-from-in _ xs (λ x there. below_dearest cost xs 0 x there)

-- ---- the routes of a stable routing

-- a route has the kind and the metric of one of some
pub record ComesFrom (origins : List OspfRec) (r : OspfRec) : Type 0 where
  pub origin : OspfRec
  pub there : In origin origins
  pub kind : origin.kind ≡ r.kind
  pub metric : origin.metric ≡ r.metric

module _ (files : List File) (destinations : Prefix) (d : Addr) (failures : Failures) (environment : Environment)
    (tables : Tables) (stable : Stable files d failures environment tables) (covered : covers destinations d ≡ true)
    (costs : All (λ a. 0 < a.cost) (adjacencies files)) (len : ℕ) (short : len < LENGTHS) where
  abbrev origins : List OspfRec
  origins = origins_at files destinations len

  known : AreOrigins files failures tables (prefix_at d len) (λ o. In o origins)
  known = origins_known files destinations d failures environment tables len covered stable short

  weaker : (P : OspfRec → Type 0) → ((o : OspfRec) → In o origins → P o) →
      AreOrigins files failures tables (prefix_at d len) P
  weaker P each router file process slot at runs here =
      all-from-in P _ (λ o there. each o
      (all_in (λ x. In x origins) _ o (known router file process slot at runs here) there))

  -- each has the kind and the metric of a record that lines bring in
  pub held_known : (router : ℕ) (slot : Slot) (h : OspfRec) → slot_at tables router len ≡ Some slot →
      slot.ospf ≡ Some h → ComesFrom origins h
  held_known router slot h here holds =
      all_held files d failures environment tables len (ComesFrom origins) stable short costs
      (λ r cost from. record { origin = from.origin; there = from.there; kind = from.kind; metric = from.metric })
      (weaker (ComesFrom origins) (λ o there. record { origin = o; there = there; kind = refl; metric = refl }))
      router slot h here holds

  -- and costs no more than the dearest of these and a walk
  pub held_cost : (router : ℕ) (slot : Slot) (h : OspfRec) → slot_at tables router len ≡ Some slot →
      slot.ospf ≡ Some h → h.cost ≤ dearest_of origins + dearest_walk files
  held_cost router slot h here holds =
      cost_bound files d failures environment tables len (dearest_of origins) (fold (λ m a. max m a.cost) 0
      (adjacencies files)) stable short costs (all_below_dearest (λ (a : Adjacency). a.cost) (adjacencies files))
      (weaker (λ o. o.cost ≤ dearest_of origins) (λ o there. below_dearest (λ (r : OspfRec). r.cost) origins 0 o there)) router slot h here holds

  -- no line brings in any: no router holds one
  pub nothing_held : origins ≡ [] → (router : ℕ) (slot : Slot) → slot_at tables router len ≡ Some slot →
      slot.ospf ≡ None
  nothing_held none router slot here = by slot.ospf refl where
    by : (o : Option OspfRec) → slot.ospf ≡ o → o ≡ None
    by None is = refl
    by (Some h) holds =
        let from = held_known router slot h here holds in
        absurd (subst (In from.origin) none from.there)

  -- ---- the room of a route

  runs_there : (router : ℕ) (slot : Slot) (h : OspfRec) → slot_at tables router len ≡ Some slot →
      slot.ospf ≡ Some h → runs_ospf files router ≡ true
  runs_there router slot h here holds = by (file_there files tables router len slot stable.size here) where
    by : (file : File) × (slice_get files router ≡ Some file) → runs_ospf files router ≡ true
    by (file, there) =
        let equation = (stable.equations router len file slot there short here).ospf in
        ap (λ o. option_map_or (λ (f : File). is_some f.ospf) o false) there
        ∙ option_and_then_some _ file.ospf h (sym equation ∙ holds) (λ process runs is. ap is_some runs)

  small_rank : (kind : OspfKind) → kind_rank kind < 2 ^ 32
  small_rank Internal = omega arith
  small_rank Ext1 = omega arith
  small_rank Ext2 = omega arith

  fits_held : (slot : Slot) (h : OspfRec) (router : ℕ) → slot_at tables router len ≡ Some slot → slot.ospf ≡ Some h →
      FitsOspf h
  fits_held slot h router here holds =
      let whole : FitsSlot slot = all_found FitsSlot tables.slots (LENGTHS * router + len) slot stable.fits here in
      subst (λ o. IfSome o FitsOspf) holds whole.ospf

  fits_around : (router : ℕ) (slot : Slot) (h : OspfRec) → slot_at tables router len ≡ Some slot →
      slot.ospf ≡ Some h → FitsIn (room_around origins (dearest_walk files)) h
  fits_around router slot h here holds =
      let from = held_known router slot h here holds in
      let fits = fits_held slot h router here holds in
      let metric : In h.metric (map (λ (r : OspfRec). r.metric) origins) =
      subst (λ n. In n (map (λ (r : OspfRec). r.metric) origins)) from.metric
      (map-in (λ (r : OspfRec). r.metric) origins from.origin from.there) in
      let kind : In (kind_rank h.kind) (map (λ (r : OspfRec). kind_rank r.kind) origins) =
      subst (λ k. In (kind_rank k) (map (λ (r : OspfRec). kind_rank r.kind) origins)) from.kind
      (map-in (λ (r : OspfRec). kind_rank r.kind) origins from.origin from.there) in
      record {
        kind = fits_among (map (λ (r : OspfRec). kind_rank r.kind) origins) (kind_rank h.kind) kind (small_rank h.kind);
        metric = fits_among (map (λ (r : OspfRec). r.metric) origins) h.metric metric fits.metric;
        cost = in_width h.cost (dearest_of origins + dearest_walk files) 0 32 (held_cost router slot h here holds)
            fits.cost;
      }

  room_is : (router : ℕ) (slot : Slot) (h : OspfRec) → slot_at tables router len ≡ Some slot → slot.ospf ≡ Some h →
      room_for files destinations router len ≡ Some (room_around origins (dearest_walk files))
  unfolding room_at
  room_is router slot h here holds =
      let from = held_known router slot h here holds in
      ap (λ b. if b then room_of origins (dearest_walk files) else None) (runs_there router slot h here holds)
      ∙ ap (λ b. if b then None else Some (room_around origins (dearest_walk files)))
      (not_empty origins from.origin from.there)

  -- each route has room, and fits there
  pub held_fits : (router : ℕ) (slot : Slot) (h : OspfRec) → slot_at tables router len ≡ Some slot →
      slot.ospf ≡ Some h → (room : Room) × (room_for files destinations router len ≡ Some room) × FitsIn room h
  held_fits router slot h here holds = (
    room_around origins (dearest_walk files),
    room_is router slot h here holds,
    fits_around router slot h here holds,
  )

  -- ---- slots in which nothing can stand

  module _ (router : ℕ) (slot : Slot) (here : slot_at tables router len ≡ Some slot)
      (unused : can_be_used files destinations router len ≡ false) where
    parts : ((has_subnet files destinations router len
        || option_map_or (has_sources destinations len) (slice_get files router) false) ≡ false)
        × (is_some (room_among files (rooms_of files destinations) router len) ≡ false)
    parts = or_parts _ _ unused

    sources : (has_subnet files destinations router len ≡ false)
        × (option_map_or (has_sources destinations len) (slice_get files router) false ≡ false)
    sources = or_parts _ _ parts.0

    no_ospf : slot.ospf ≡ None
    no_ospf = by slot.ospf refl where
      by : (o : Option OspfRec) → slot.ospf ≡ o → o ≡ None
      by None is = refl
      by (Some h) holds =
          let room = room_there files destinations router len short ∙ room_is router slot h here holds in
          absurd (false≢true (sym parts.1 ∙ ap is_some room))

    module _ (file : File) (at : slice_get files router ≡ Some file) where
      none_of_file : (list_any (is_static_at destinations len) file.statics ≡ false) × (is_some file.bgp ≡ false)
      none_of_file = or_parts _ _
          (sym (ap (λ o. option_map_or (has_sources destinations len) o false) at) ∙ sources.1)

      no_bgp : slot.bgp ≡ None
      no_bgp = by file.bgp none_of_file.1 (stable.equations router len file slot at short here).bgp where
        by : (b : Option Bgp) → is_some b ≡ false → MatchOption b (slot.bgp ≡ None)
            (λ bgp. DecidedByBgp files failures environment tables router file bgp (prefix_at d len) slot.bgp) →
            slot.bgp ≡ None
        by None none decided = decided
        by (Some bgp) some decided = absurd cc

      unbacked : (source : RibSource) → IsBacked files failures router file (prefix_at d len) slot source → ⊥
      unbacked Connected direct =
          let subnet = subnet_there files failures destinations d router len covered direct in
          false≢true (sym sources.0 ∙ any-in (λ (x : Addressed). (x.id.router == router)
          && is_subnet_at destinations len x) (addressed files) subnet.at subnet.there
          (and_from _ _ subnet.own subnet.fits))
      unbacked Static (route, among) =
          let static = static_there files failures destinations d router len file route covered among in
          false≢true (sym none_of_file.0
          ∙ any-in (is_static_at destinations len) file.statics static.route static.there static.fits)
      unbacked Ebgp some = false≢true (sym (ap is_some no_bgp) ∙ some)
      unbacked OspfEntry some = false≢true (sym (ap is_some no_ospf) ∙ some)
      unbacked Ibgp some = false≢true (sym (ap is_some no_bgp) ∙ some)

      no_rib : slot.rib ≡ None
      no_rib = by slot.rib (subst (λ r. IfSome r Backs) (sym (stable.equations router len file slot at short here).rib)
          (entry_backed files failures router file (prefix_at d len) slot
          (own_is_as_good files failures router file (prefix_at d len) slot)))
        where
          Backs : RibEntry → Type 0
          Backs entry = IsBacked files failures router file (prefix_at d len) slot entry.source

          by : (r : Option RibEntry) → IfSome r Backs → r ≡ None
          by None backed = refl
          by (Some entry) backed = absurd (unbacked entry.source backed)

      empty_in_file : slot ≡ empty_slot
      empty_in_file = λ i. record { ospf = no_ospf i; bgp = no_bgp i; rib = no_rib i }

    -- nothing stands there
    pub unused_empty : slot ≡ empty_slot
    unused_empty =
        let found = file_there files tables router len slot stable.size here in empty_in_file found.0 found.1
