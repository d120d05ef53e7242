-- Routes in a row, one by one.
use Rattle.std.proofs.Common.{◌≡◌, ℕ, ◌+◌, ◌<◌, ◌≤◌, Bool, List, [], ◌∷◌, ◌++◌, length, map, drop, get_or, Option}
use Rattle.std.proofs.Common.{option_map}
use Rattle.std.proofs.Common.{refl, sym, ap, subst, ◌∙◌, append_assoc}
use Rattle.std.specs.Prelude.{All, IfSome}
use Rattle.std.proofs.lemmas.List.{append-nil, drop_all}
use Rattle.mw_text.proofs.Lists.{drop-read}
use Rattle.route_record.specs.declared.tracked.Tracked.{Tracked}
use Rattle.route_shapes.specs.Bgp.{BgpShape}
use Rattle.bgp_variables.specs.declared.rooms.BgpRoom.{BgpRoom}
use Rattle.bgp_variables.specs.Shapes.{IsRoomOf, bgp_from, bgp_width, bgps_from, bgps_width}
use Rattle.bgp_values.specs.Told.{as_told}

abbrev pub told_from : List (Option BgpRoom) → (ℕ → Bool) → ℕ → List (Option BgpShape)
told_from rooms v at = map (option_map as_told) (bgps_from rooms v at)

pub width_next : (rooms : List (Option BgpRoom)) (k : ℕ) (room : Option BgpRoom) → k < length rooms →
    room ≡ get_or rooms k room → bgps_width (drop k rooms) ≡ bgp_width room + bgps_width (drop (k + 1) rooms)
unfolding bgps_width
width_next rooms k room within is = ap bgps_width (drop-read rooms k room within is)

pub width_end : (rooms : List (Option BgpRoom)) (k : ℕ) → length rooms ≤ k → bgps_width (drop k rooms) ≡ 0
unfolding bgps_width
width_end rooms k all = ap bgps_width (drop_all k rooms all)

pub routes_next : (rooms : List (Option BgpRoom)) (k : ℕ) (room : Option BgpRoom) (v : ℕ → Bool) (at : ℕ)
    (made : List (Option BgpShape)) → k < length rooms → room ≡ get_or rooms k room →
    (made ++ option_map as_told (bgp_from room v at) ∷ []) ++ told_from (drop (k + 1) rooms) v (at + bgp_width room)
    ≡ made ++ told_from (drop k rooms) v at
unfolding bgps_from
routes_next rooms k room v at made within is =
    append_assoc made (option_map as_told (bgp_from room v at) ∷ [])
    (told_from (drop (k + 1) rooms) v (at + bgp_width room))
    ∙ sym (ap (λ rs. made ++ told_from rs v at) (drop-read rooms k room within is))

pub routes_end : (rooms : List (Option BgpRoom)) (k : ℕ) (v : ℕ → Bool) (at : ℕ) → length rooms ≤ k →
    told_from (drop k rooms) v at ≡ []
unfolding bgps_from
routes_end rooms k v at all = ap (λ rs. told_from rs v at) (drop_all k rooms all)

pub room_there : (tracked : Tracked) (rooms : List (Option BgpRoom)) (k : ℕ) (room : Option BgpRoom) →
    All (λ r. IfSome r (IsRoomOf tracked)) rooms → k < length rooms → room ≡ get_or rooms k room →
    IfSome room (IsRoomOf tracked)
room_there tracked rooms k room all within is =
    subst (λ r. IfSome r (IsRoomOf tracked)) (sym is) (all k room within)

pub routes_done : (rooms : List (Option BgpRoom)) (k : ℕ) (v : ℕ → Bool) (at : ℕ) (made : List (Option BgpShape)) →
    length rooms ≤ k → made ++ told_from (drop k rooms) v at ≡ made
routes_done rooms k v at made all = ap (λ xs. made ++ xs) (routes_end rooms k v at all) ∙ append-nil made
