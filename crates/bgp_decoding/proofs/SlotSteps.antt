-- The slot at a place, by what is read of it, is that of the world by shapes.
use Rattle.std.proofs.Common.{◌≡◌, ℕ, suc, ◌+◌, ◌<◌, Bool, true, false, not, List, [], ◌∷◌, Option, Some, None, length, refl, sym, ap, ◌∙◌}
use Rattle.std.specs.Prelude.{option_and_then, option_map, slice_get, if◌then◌else◌}
use Rattle.std.specs.Option.{option_map_or}
use Rattle.mw_text.specs.declared.address.Addr.{Addr}
use Rattle.mw_text.specs.declared.address.Prefix.{Prefix}
use Rattle.ios_ast.specs.declared.file.File.{File}
use Rattle.route_record.specs.declared.Failures.{Failures}
use Rattle.route_record.specs.declared.RibEntry.{RibEntry}
use Rattle.route_record.specs.declared.Slot.{Slot}
use Rattle.route_record.specs.declared.TheConstants.{LENGTHS}
use Rattle.net_parts.specs.Entries.{entry_with}
use Rattle.proto_rib.specs.Taken.{entry_at}
use Rattle.question_lang.specs.declared.question.Question.{Question}
use Rattle.route_shapes.specs.Bgp.{BgpShape, learnt_number}
use Rattle.sym_rib.specs.Sources.{entry_from}
use Rattle.sym_rib.proofs.TableEntries.{entry_same}
use Rattle.bgp_shapes.specs.Candidates.{ShapeSlot}
use Rattle.plan_places.specs.declared.places.Place.{Place}
use Rattle.plan_places.specs.Places.{is_at, item_at, place}
use Rattle.plan_places.specs.Tables.{empty_slot}
use Rattle.slot_places.specs.declared.rooms.Room.{Room}
use Rattle.slot_places.specs.Rooms.{can_be_used, room_among, room_for, rooms_of}
use Rattle.slot_places.proofs.PlaceLaws.{at-is}
use Rattle.slot_places.proofs.RoomSteps.{room_there}
use Rattle.world_variables.specs.declared.unknowns.Unknown.{Unknown}
use Rattle.world_variables.specs.Slots.{entry_of_bit, has_dynamic}
use Rattle.world_variables.proofs.Stability.{same_bit}
use Rattle.bgp_variables.specs.declared.rooms.BgpRoom.{BgpRoom}
use Rattle.bgp_variables.specs.Shapes.{bgp_width, bgps_from}
use Rattle.bgp_values.specs.Told.{as_told}
use Rattle.bgp_worlds.specs.Opens.{OpenSlot, empty_shape, open_shape, shape_slot_of}
use Rattle.routing_worlds.specs.Worlds.{open_with, opens_with}
use Rattle.path_rebuild.specs.declared.ShapeRec.{ShapeRec}
use Rattle.bgp_decoding.specs.Slots.{entry_learnt, learnt_of, slot_learnt, slot_without}

-- ---- what is open at a place

pub item_opens : (files : List File) (question : Question) (failures : Failures) (d : Addr) (ps : List Place)
    (us : List Unknown) (bgps : List (Option BgpShape)) (router len : ℕ) →
    item_at ps (opens_with files question failures d ps us bgps) router len
    ≡ option_and_then (λ u. option_map (open_with files failures d (room_for files question.packets.dst router len)
    (place router len) u) (item_at ps bgps router len)) (item_at ps us router len)
unfolding item_at opens_with
item_opens files question failures d [] us bgps router len = refl
item_opens files question failures d (p ∷ ps) [] bgps router len = refl
item_opens files question failures d (p ∷ ps) (u ∷ us) [] router len = by (item_at (p ∷ ps) (u ∷ us) router len)
  where
    nothing : Option (Option BgpShape)
    nothing = None

    by : (o : Option Unknown) → None ≡ option_and_then (λ w. option_map (open_with files failures d
        (room_for files question.packets.dst router len) (place router len) w) nothing) o
    by None = refl
    by (Some w) = refl
item_opens files question failures d (p ∷ ps) (u ∷ us) (bgp ∷ bgps) router len =
    by (is_at router len p) refl (item_opens files question failures d ps us bgps router len)
  where
    open_here : Unknown → Option BgpShape → OpenSlot
    open_here =
        open_with files failures d (room_for files question.packets.dst router len) (place router len)

    by : (b : Bool) → is_at router len p ≡ b →
        item_at ps (opens_with files question failures d ps us bgps) router len
        ≡ option_and_then (λ w. option_map (open_here w) (item_at ps bgps router len)) (item_at ps us router len) →
        (if b then Some (open_with files failures d (room_for files question.packets.dst p.router p.len) p u bgp)
        else item_at ps (opens_with files question failures d ps us bgps) router len)
        ≡ option_and_then (λ w. option_map (open_here w) (if b then Some bgp else item_at ps bgps router len))
        (if b then Some u else item_at ps us router len)
    by true is rest = ap (λ (q : Place). Some (open_with files failures d
        (room_for files question.packets.dst q.router q.len) q u bgp)) (at-is p router len is)
    by false is rest = rest

pub routes_many : (rooms : List (Option BgpRoom)) (v : ℕ → Bool) (from : ℕ) → length (bgps_from rooms v from) ≡ length rooms
unfolding bgps_from
routes_many [] v from = refl
routes_many (room ∷ rooms) v from = ap suc (routes_many rooms v (from + bgp_width room))

-- ---- the entry of a slot's table, by where its BGP route was learnt

pub entry_numbers : (files : List File) (failures : Failures) (router : ℕ) (p : Prefix) (slot : Slot) (own : Bool) →
    entry_at files failures router p slot own
    ≡ option_and_then (λ file. entry_from files failures router file p (option_map (λ h. learnt_number h.from) slot.bgp)
    slot.ospf own) (slice_get files router)
entry_numbers files failures router p slot own = by (slice_get files router)
  where
    by : (o : Option File) → option_and_then (λ file. entry_with files failures router file p slot own) o
        ≡ option_and_then (λ file. entry_from files failures router file p
        (option_map (λ h. learnt_number h.from) slot.bgp) slot.ospf own) o
    by None = refl
    by (Some file) = sym (entry_same files failures router file p slot own)

-- ---- the slot

-- of things that are the same it is the same
pub slot_told : (files : List File) (destinations : Prefix) (failures : Failures) (d : Addr) (p : Place) (slot : Slot)
    (u v : Option Unknown) (s t : Option ShapeRec) →
    slot ≡ slot_without files destinations failures d p u (learnt_of s) → u ≡ v → s ≡ t →
    slot ≡ slot_without files destinations failures d p v (learnt_of t)
slot_told files destinations failures d p slot u v s t is unknown route =
    is ∙ (λ i. slot_without files destinations failures d p (unknown i) (learnt_of (route i)))

-- a slot with the shape of a route
abbrev pub with_route : Slot → Option BgpShape → ShapeSlot
with_route slot bgp = record { ospf = slot.ospf; bgp = bgp; rib = slot.rib }

-- the shape of a slot whose route is read
abbrev pub read_slot : ShapeSlot → ShapeSlot
read_slot s = record s { bgp = option_map as_told s.bgp }

module _ (files : List File) (destinations : Prefix) (failures : Failures) (d : Addr) (router len : ℕ)
    (short : len < LENGTHS) where
  abbrev p : Place
  p = place router len

  open_same : (room : Option Room) (u : Unknown) (bgp : Option BgpShape) (learnt : Option ℕ) →
      learnt ≡ option_map (λ s. s.from) bgp →
      with_route (slot_learnt files failures d room p u learnt) bgp
      ≡ open_shape files failures d router len (open_with files failures d room p u bgp)
  open_same None u bgp learnt is =
      let entry : Option RibEntry = entry_learnt files failures d p (option_map (λ (s : BgpShape). s.from) bgp) None false in
      let rib = ap (λ l. entry_learnt files failures d p l None false) is ∙ sym (same_bit entry) ∙ alone (slice_get files router) in
      λ i. record { ospf = None; bgp = bgp; rib = rib i }
    where
      alone : (f : Option File) → option_map (entry_of_bit (has_dynamic (entry_learnt files failures d p
          (option_map (λ (s : BgpShape). s.from) bgp) None false)))
          (entry_learnt files failures d p (option_map (λ (s : BgpShape). s.from) bgp) None false)
          ≡ (open_shape files failures d router len (open_with files failures d None p u bgp)).rib
      alone f = refl
  open_same (Some room) u bgp learnt is =
      let rib = ap (λ l. option_map (entry_of_bit u.dynamic)
      (entry_learnt files failures d p l u.ospf (not u.dynamic))) is in
      λ i. record { ospf = u.ospf; bgp = bgp; rib = rib i }

  -- where the shape of what is open is such as a route is read, the slot is the same
  pub slot_same : (unknown : Option Unknown) (said : Option (Option BgpShape)) →
      (unknown ≡ None → said ≡ None) → (said ≡ None → unknown ≡ None) →
      read_slot (option_map_or (shape_slot_of files destinations failures d p)
      (option_and_then (λ u. option_map (open_with files failures d (room_for files destinations router len) p u) said)
      unknown) empty_shape)
      ≡ option_map_or (shape_slot_of files destinations failures d p)
      (option_and_then (λ u. option_map (open_with files failures d (room_for files destinations router len) p u) said)
      unknown) empty_shape →
      with_route (slot_without files destinations failures d p unknown (option_map (λ s. s.from)
      (option_and_then (λ t. t) (option_map (option_map as_told) said))))
      (if can_be_used files destinations router len
      then option_and_then (λ t. t) (option_map (option_map as_told) said) else None)
      ≡ option_map_or (shape_slot_of files destinations failures d p)
      (option_and_then (λ u. option_map (open_with files failures d (room_for files destinations router len) p u) said)
      unknown) empty_shape
  slot_same None None first second read = by (can_be_used files destinations router len)
    where
      nothing : Option BgpShape
      nothing = None

      by : (b : Bool) → with_route empty_slot (if b then nothing else None) ≡ empty_shape
      by true = refl
      by false = refl
  slot_same None (Some bgp) first second read = absurd (some_none bgp (first refl))
    where
      some_none : (x : Option BgpShape) → Some x ≡ None → ⊥
      some_none x is = cc
  slot_same (Some u) None first second read = absurd (some_none u (second refl))
    where
      some_none : (x : Unknown) → Some x ≡ None → ⊥
      some_none x is = cc
  slot_same (Some u) (Some bgp) first second read = by (can_be_used files destinations router len) read
    where
      room : Option Room
      room = room_for files destinations router len

      here : (r : Option Room) → room_among files (rooms_of files destinations) router len ≡ r → (told : Option BgpShape) →
          told ≡ bgp → with_route (slot_learnt files failures d (room_among files (rooms_of files destinations) router len)
          p u (option_map (λ s. s.from) told)) told
          ≡ open_shape files failures d router len (open_with files failures d r p u bgp)
      here r is told same =
          ap (λ (x : Option Room). with_route (slot_learnt files failures d x p u (option_map (λ (s : BgpShape). s.from) told)) told) is
          ∙ ap (λ (t : Option BgpShape). with_route (slot_learnt files failures d r p u (option_map (λ (s : BgpShape). s.from) t)) t) same
          ∙ open_same r u bgp (option_map (λ (s : BgpShape). s.from) bgp) refl

      route_of_open : (r : Option Room) → (open_shape files failures d router len (open_with files failures d r p u bgp)).bgp ≡ bgp
      route_of_open None = refl
      route_of_open (Some x) = refl

      by : (b : Bool) →
          read_slot (if b then open_shape files failures d router len (open_with files failures d room p u bgp) else empty_shape)
          ≡ (if b then open_shape files failures d router len (open_with files failures d room p u bgp) else empty_shape) →
          with_route (if b then slot_learnt files failures d (room_among files (rooms_of files destinations) router len)
          p u (option_map (λ s. s.from) (option_map as_told bgp)) else empty_slot)
          (if b then option_map as_told bgp else None)
          ≡ (if b then open_shape files failures d router len (open_with files failures d room p u bgp) else empty_shape)
      by true same =
          here room (room_there files destinations router len short) (option_map as_told bgp)
          (sym (ap (option_map as_told) (route_of_open room)) ∙ ap (λ (s : ShapeSlot). s.bgp) same ∙ route_of_open room)
      by false same = refl
