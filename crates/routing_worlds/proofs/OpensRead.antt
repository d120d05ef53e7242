-- What is read of variables is such as slots have room for, and fits its fields.
use Rattle.std.proofs.Common.{◌≡◌, ℕ, ◌+◌, Bool, true, false, List, [], ◌∷◌, Option, Some, None}
use Rattle.std.proofs.Common.{refl, sym, ap, ◌∙◌}
use Rattle.std.specs.Prelude.{All, IfSome, if◌then◌else◌}
use Rattle.std.proofs.lemmas.List.Elements.{All-cons, All-head, All-nil, All-tail}
use Rattle.std.proofs.lemmas.Option.{same_Some}
use Rattle.mw_text.specs.declared.address.Addr.{Addr}
use Rattle.ios_ast.specs.declared.file.File.{File}
use Rattle.route_record.specs.declared.Failures.{Failures}
use Rattle.route_record.specs.declared.tracked.Tracked.{Tracked}
use Rattle.route_record.specs.Fits.{FitsOspf}
use Rattle.question_lang.specs.declared.question.Question.{Question}
use Rattle.route_shapes.specs.Bgp.{BgpShape}
use Rattle.plan_places.specs.declared.places.Place.{Place}
use Rattle.plan_places.specs.Places.{is_at, item_at}
use Rattle.slot_places.specs.declared.rooms.Room.{Room}
use Rattle.slot_places.specs.Rooms.{room_for}
use Rattle.slot_places.proofs.PlaceLaws.{at-is}
use Rattle.world_variables.specs.declared.unknowns.Unknown.{Unknown}
use Rattle.world_variables.proofs.Worlds.{told_small}
use Rattle.bgp_variables.specs.declared.rooms.BgpRoom.{BgpRoom}
use Rattle.bgp_variables.specs.Rooms.{bgp_room, bgp_rooms}
use Rattle.bgp_variables.specs.Shapes.{IsBgpRoom, IsRoomOf, bgp_from, bgp_width, bgps_from, preferences_from, shape_from}
use Rattle.bgp_variables.proofs.RoomSteps.{room_held}
use Rattle.rebuilt_routes.specs.Words.{HasWordNumbers}
use Rattle.bgp_worlds.specs.Opens.{HaveRooms, OpenSlot}
use Rattle.routing_worlds.specs.Worlds.{open_with, opens_with}

-- where a slot has no room there is no route of OSPF
pub rooms_kept : (files : List File) (question : Question) (failures : Failures) (d : Addr) (ps : List Place)
    (us : List Unknown) (bgps : List (Option BgpShape)) →
    HaveRooms files question.packets.dst ps (opens_with files question failures d ps us bgps)
unfolding opens_with item_at
rooms_kept files question failures d [] us bgps router len o there none = absurd cc
rooms_kept files question failures d (p ∷ ps) [] bgps router len o there none = absurd cc
rooms_kept files question failures d (p ∷ ps) (u ∷ us) [] router len o there none = absurd cc
rooms_kept files question failures d (p ∷ ps) (u ∷ us) (bgp ∷ bgps) router len o there none =
    by (is_at router len p) refl there (rooms_kept files question failures d ps us bgps router len o)
  where
    closed : (room : Option Room) → room ≡ None → (open_with files failures d room p u bgp).unknown.ospf ≡ None
    closed None is = refl
    closed (Some room) is = absurd cc

    by : (b : Bool) → is_at router len p ≡ b →
        (if b then Some (open_with files failures d (room_for files question.packets.dst p.router p.len) p u bgp)
        else item_at ps (opens_with files question failures d ps us bgps) router len) ≡ Some o →
        (item_at ps (opens_with files question failures d ps us bgps) router len ≡ Some o →
        room_for files question.packets.dst router len ≡ None → o.unknown.ospf ≡ None) → o.unknown.ospf ≡ None
    by true is there' rest =
        let same = at-is p router len is in
        ap (λ (x : OpenSlot). x.unknown.ospf) (sym (same_Some _ o there'))
        ∙ closed (room_for files question.packets.dst p.router p.len)
        (ap (λ (q : Place). room_for files question.packets.dst q.router q.len) same ∙ none)
    by false is there' rest = rest there' none

pub opens_ospf : (files : List File) (question : Question) (failures : Failures) (d : Addr) (ps : List Place)
    (us : List Unknown) (bgps : List (Option BgpShape)) → All (λ u. IfSome u.ospf FitsOspf) us →
    All (λ o. IfSome o.unknown.ospf FitsOspf) (opens_with files question failures d ps us bgps)
unfolding opens_with
opens_ospf files question failures d [] us bgps fit = All-nil (λ (o : OpenSlot). IfSome o.unknown.ospf FitsOspf)
opens_ospf files question failures d (p ∷ ps) [] bgps fit = All-nil (λ (o : OpenSlot). IfSome o.unknown.ospf FitsOspf)
opens_ospf files question failures d (p ∷ ps) (u ∷ us) [] fit =
    All-nil (λ (o : OpenSlot). IfSome o.unknown.ospf FitsOspf)
opens_ospf files question failures d (p ∷ ps) (u ∷ us) (bgp ∷ bgps) fit =
    All-cons (λ (o : OpenSlot). IfSome o.unknown.ospf FitsOspf)
    (open_with files failures d (room_for files question.packets.dst p.router p.len) p u bgp)
    (opens_with files question failures d ps us bgps)
    (by (room_for files question.packets.dst p.router p.len))
    (opens_ospf files question failures d ps us bgps (All-tail (λ (w : Unknown). IfSome w.ospf FitsOspf) u us fit))
  where
    by : (room : Option Room) → IfSome (open_with files failures d room p u bgp).unknown.ospf FitsOspf
    by None = tt
    by (Some room) = All-head (λ (w : Unknown). IfSome w.ospf FitsOspf) u us fit

pub opens_bgp : (files : List File) (question : Question) (failures : Failures) (d : Addr) (ps : List Place)
    (us : List Unknown) (bgps : List (Option BgpShape)) → All (λ b. IfSome b HasWordNumbers) bgps →
    All (λ o. IfSome o.bgp HasWordNumbers) (opens_with files question failures d ps us bgps)
unfolding opens_with
opens_bgp files question failures d [] us bgps fit = All-nil (λ (o : OpenSlot). IfSome o.bgp HasWordNumbers)
opens_bgp files question failures d (p ∷ ps) [] bgps fit = All-nil (λ (o : OpenSlot). IfSome o.bgp HasWordNumbers)
opens_bgp files question failures d (p ∷ ps) (u ∷ us) [] fit = All-nil (λ (o : OpenSlot). IfSome o.bgp HasWordNumbers)
opens_bgp files question failures d (p ∷ ps) (u ∷ us) (bgp ∷ bgps) fit =
    All-cons (λ (o : OpenSlot). IfSome o.bgp HasWordNumbers)
    (open_with files failures d (room_for files question.packets.dst p.router p.len) p u bgp)
    (opens_with files question failures d ps us bgps)
    (by (room_for files question.packets.dst p.router p.len))
    (opens_bgp files question failures d ps us bgps
    (All-tail (λ (b : Option BgpShape). IfSome b HasWordNumbers) bgp bgps fit))
  where
    by : (room : Option Room) → IfSome (open_with files failures d room p u bgp).bgp HasWordNumbers
    by None = All-head (λ (b : Option BgpShape). IfSome b HasWordNumbers) bgp bgps fit
    by (Some room) = All-head (λ (b : Option BgpShape). IfSome b HasWordNumbers) bgp bgps fit

-- ---- BGP routes by variables

shape_words : (room : BgpRoom) (v : ℕ → Bool) (from : ℕ) → IsBgpRoom room → HasWordNumbers (shape_from room v from)
unfolding shape_from preferences_from
shape_words room v from is = record {
  from = told_small 33 room.from v _ is.from;
  weight = told_small 32 room.preferences.weight v _ is.preferences.weight;
  local_pref = told_small 32 room.preferences.local_pref v _ is.preferences.local_pref;
  med = told_small 32 room.preferences.med v _ is.preferences.med;
  next_hop = told_small 32 room.next_hop v _ is.next_hop;
  originator = told_small 33 room.originator v _ is.originator;
}

bgp_words : (room : Option BgpRoom) (v : ℕ → Bool) (from : ℕ) → IfSome room IsBgpRoom →
    IfSome (bgp_from room v from) HasWordNumbers
bgp_words None v from is = tt
bgp_words (Some room) v from is = by (v from)
  where
    by : (b : Bool) → IfSome (if b then Some (shape_from room v (from + 1)) else None) HasWordNumbers
    by true = shape_words room v (from + 1) is
    by false = tt

room_is : (tracked : Tracked) (files : List File) (router len : ℕ) →
    IfSome (bgp_room tracked files router len) IsBgpRoom
room_is tracked files router len = by (bgp_room tracked files router len) (room_held tracked files router len)
  where
    by : (o : Option BgpRoom) → IfSome o (IsRoomOf tracked) → IfSome o IsBgpRoom
    by None is = tt
    by (Some room) is = is.0

pub bgps_words : (tracked : Tracked) (files : List File) (ps : List Place) (v : ℕ → Bool) (from : ℕ) →
    All (λ b. IfSome b HasWordNumbers) (bgps_from (bgp_rooms tracked files ps) v from)
unfolding bgps_from
bgps_words tracked files [] v from = All-nil (λ (b : Option BgpShape). IfSome b HasWordNumbers)
bgps_words tracked files (p ∷ ps) v from =
    All-cons (λ (b : Option BgpShape). IfSome b HasWordNumbers) (bgp_from (bgp_room tracked files p.router p.len) v from)
    (bgps_from (bgp_rooms tracked files ps) v (from + bgp_width (bgp_room tracked files p.router p.len)))
    (bgp_words (bgp_room tracked files p.router p.len) v from (room_is tracked files p.router p.len))
    (bgps_words tracked files ps v (from + bgp_width (bgp_room tracked files p.router p.len)))
