-- Environments are read from their bits, and what external peers may announce fits its rooms.
use Rattle.std.proofs.Common.{◌≡◌, ℕ, suc, ◌+◌, ◌*◌, Bool, true, false, ◌&&◌, List, [], ◌∷◌, ◌++◌, length, map}
use Rattle.std.proofs.Common.{Option, Some, None, refl, sym, ap, subst, arith, ◌∙◌, slice_get}
use Rattle.std.specs.Prelude.{◌==◌, All, IfSome, option_and_then, option_map, replicate, if◌then◌else◌}
use Rattle.std.specs.List.{find}
use Rattle.std.proofs.lemmas.Bool.{and_parts, eqb-true}
use Rattle.std.proofs.lemmas.List.Elements.{All-head, All-tail}
use Rattle.std.proofs.lemmas.Option.{same_Some}
use Rattle.mw_text.specs.declared.address.Addr.{Addr}
use Rattle.ios_ast.specs.declared.bgp.Neighbour.{Neighbour}
use Rattle.ios_ast.specs.declared.file.File.{File}
use Rattle.route_record.specs.declared.tracked.Tracked.{Tracked}
use Rattle.route_record.specs.Fits.{IsAddress}
use Rattle.net_parts.specs.declared.sessions.SessionEnd.{SessionEnd}
use Rattle.net_parts.specs.Sessions.{ends_of, is_outside, neighbour_of}
use Rattle.route_shapes.specs.Bgp.{BgpShape}
use Rattle.bgp_shapes.specs.Candidates.{ShapeAnnouncement, shape_announced}
use Rattle.failed_links.specs.Rows.{IsAt}
use Rattle.failed_links.proofs.Reading.{field_at}
use Rattle.announced_shapes.specs.Announcements.{IsAnnouncementShape}
use Rattle.bgp_variables.specs.declared.rooms.BgpRoom.{BgpRoom}
use Rattle.bgp_variables.specs.Environments.{addresses_bits, addresses_from, announced_from, announced_rooms, arrivals}
use Rattle.bgp_variables.specs.Environments.{arrivals_at, arrivals_over, arrives, end_room, end_rooms, environment_bits}
use Rattle.bgp_variables.specs.Environments.{environment_width, ids_from, peers_count, rooms_over}
use Rattle.bgp_variables.specs.Rooms.{announcement_room}
use Rattle.bgp_variables.specs.Shapes.{FitBgpRooms, FitsBgpRoom, FitsShape, bgps_bits}
use Rattle.bgp_variables.proofs.Fitting.{announced_fits}
use Rattle.bgp_variables.proofs.Reading.{bgps_read}

-- ---- reading

addresses_at : (ids : List Addr) (v : ℕ → Bool) (from : ℕ) (rest : List Bool) → All IsAddress ids →
    IsAt v from (addresses_bits ids rest) →
    (addresses_from (length ids) v from ≡ ids) × IsAt v (from + 32 * length ids) rest
unfolding addresses_from addresses_bits
addresses_at [] v from rest fit here = (refl, subst (λ k. IsAt v k rest) (omega arith) here)
addresses_at (a ∷ ids) v from rest fit here =
    let one = field_at v from 32 a.0 (addresses_bits ids rest) (All-head IsAddress a ids fit) here in
    let others = addresses_at ids v (from + 32) rest (All-tail IsAddress a ids fit) one.1 in
    (λ i. record { 0 = one.0 i } ∷ others.0 i, subst (λ k. IsAt v k rest) (omega arith) others.1)

pub environment_read : (tracked : Tracked) (files : List File) (lens : List ℕ) (ids : List Addr)
    (shapes : List (Option BgpShape)) (v : ℕ → Bool) (from : ℕ) (rest : List Bool) → length ids ≡ peers_count files →
    All IsAddress ids → FitBgpRooms (announced_rooms tracked files (length lens)) shapes →
    IsAt v from (environment_bits tracked files lens ids shapes rest) →
    (ids_from files v from ≡ ids) × (announced_from tracked files lens v from ≡ shapes)
    × IsAt v (from + environment_width tracked files lens) rest
environment_read tracked files lens ids shapes v from rest long fit fits here =
    let rooms = announced_rooms tracked files (length lens) in
    let known = addresses_at ids v from (bgps_bits rooms shapes rest) fit here in
    let announced = bgps_read rooms shapes v (from + 32 * peers_count files) rest fits
    (subst (λ n. IsAt v (from + 32 * n) (bgps_bits rooms shapes rest)) long known.1) in (
      ap (λ n. addresses_from n v from) (sym long) ∙ known.0,
      announced.0,
      subst (λ k. IsAt v k rest) (omega arith) announced.1,
    )

-- ---- what may be announced fits

pub fit_append : (rooms more : List (Option BgpRoom)) (xs ys : List (Option BgpShape)) → FitBgpRooms rooms xs →
    FitBgpRooms more ys → FitBgpRooms (rooms ++ more) (xs ++ ys)
fit_append [] more [] ys first next = next
fit_append [] more (x ∷ xs) ys first next = absurd first
fit_append (room ∷ rooms) more [] ys first next = absurd first
fit_append (room ∷ rooms) more (x ∷ xs) ys first next = (first.0, fit_append rooms more xs ys first.1 next)

fit_each : (room : Option BgpRoom) (x : ℕ → Option BgpShape) (lens : List ℕ) →
    ((len : ℕ) → FitsBgpRoom room (x len)) → FitBgpRooms (replicate (length lens) room) (map x lens)
fit_each room x [] each = tt
fit_each room x (len ∷ lens) each = (each len, fit_each room x lens each)

pub found_such : {X : Type 0} (P : X → Type 0) (p : X → Bool) (xs : List X) (x : X) → All P xs → find p xs ≡ Some x →
    P x × (p x ≡ true)
found_such P p [] x all is = absurd cc
found_such P p (y ∷ ys) x all is = by (p y) refl is (found_such P p ys x (All-tail P y ys all)) where
  by : (b : Bool) → p y ≡ b → (if b then Some y else find p ys) ≡ Some x →
      (find p ys ≡ Some x → P x × (p x ≡ true)) → P x × (p x ≡ true)
  by true passes same rest =
      let one = same_Some y x same in
      (subst P one (All-head P y ys all), ap p (sym one) ∙ passes)
  by false fails found rest = rest found

module _ (tracked : Tracked) (files : List File) (announced : List ShapeAnnouncement)
    (may : All (IsAnnouncementShape files tracked) announced) where
  arrival_fits : (at : ℕ) (end : SessionEnd) (len : ℕ) → slice_get (ends_of files) at ≡ Some end →
      FitsBgpRoom (end_room tracked files end) (arrives tracked files announced at end len)
  arrival_fits at end len there = by_line (neighbour_of files end) refl where
    test : ShapeAnnouncement → Bool
    test = λ a. (a.end == at) && (a.len == len)

    by_found : (neighbour : Neighbour) → neighbour_of files end ≡ Some neighbour → (o : Option ShapeAnnouncement) →
        find test announced ≡ o → IfSome (option_map (shape_announced tracked neighbour.addr) o)
        (FitsShape (announcement_room tracked neighbour))
    by_found neighbour line None found = tt
    by_found neighbour line (Some a) found =
        let such = found_such (IsAnnouncementShape files tracked) test announced a may found in
        let is = such.0 in
        let place : a.end ≡ at = eqb-true a.end at (and_parts (a.end == at) (a.len == len) such.1).0 in
        let end_is : is.peer.end ≡ end = same_Some is.peer.end end
        (sym is.peer.there ∙ ap (slice_get (ends_of files)) place ∙ there) in
        let line_is : is.peer.neighbour ≡ neighbour = same_Some is.peer.neighbour neighbour
        (sym is.peer.line ∙ ap (neighbour_of files) end_is ∙ line) in
        subst (λ (n : Neighbour). FitsShape (announcement_room tracked n) (shape_announced tracked n.addr a)) line_is
        (announced_fits tracked is.peer.neighbour a is.peer.path is.med is.origin is.marks)

    by_line : (o : Option Neighbour) → neighbour_of files end ≡ o →
        FitsBgpRoom (option_map (announcement_room tracked) o)
        (option_and_then (λ neighbour. option_map (shape_announced tracked neighbour.addr) (find test announced)) o)
    by_line None line = refl
    by_line (Some neighbour) line = by_found neighbour line (find test announced) refl

  end_fits : (lens : List ℕ) (at : ℕ) (end : SessionEnd) → slice_get (ends_of files) at ≡ Some end →
      FitBgpRooms (end_rooms tracked files (length lens) end) (arrivals_at tracked files lens announced at end)
  end_fits lens at end there = by (is_outside end.far) where
    by : (b : Bool) → FitBgpRooms (if b then replicate (length lens) (end_room tracked files end) else [])
        (if b then map (arrives tracked files announced at end) lens else [])
    by true = fit_each (end_room tracked files end) (arrives tracked files announced at end) lens
        (λ len. arrival_fits at end len there)
    by false = tt

  over_fits : (lens : List ℕ) (at : ℕ) (ends : List SessionEnd) →
      ((k : ℕ) (end : SessionEnd) → slice_get ends k ≡ Some end → slice_get (ends_of files) (at + k) ≡ Some end) →
      FitBgpRooms (rooms_over tracked files (length lens) ends) (arrivals_over tracked files lens announced at ends)
  unfolding rooms_over arrivals_over
  over_fits lens at [] within = tt
  over_fits lens at (end ∷ ends) within =
      fit_append (end_rooms tracked files (length lens) end) (rooms_over tracked files (length lens) ends)
      (arrivals_at tracked files lens announced at end) (arrivals_over tracked files lens announced (at + 1) ends)
      (end_fits lens at end (subst (λ k. slice_get (ends_of files) k ≡ Some end) (omega arith) (within 0 end refl)))
      (over_fits lens (at + 1) ends (λ k e there.
      subst (λ n. slice_get (ends_of files) n ≡ Some e) (omega arith) (within (suc k) e there)))

  -- what external peers may announce fits the rooms at all places
  pub arrivals_fit : (lens : List ℕ) →
      FitBgpRooms (announced_rooms tracked files (length lens)) (arrivals tracked files lens announced)
  arrivals_fit lens = over_fits lens 0 (ends_of files) (λ k end there.
      subst (λ n. slice_get (ends_of files) n ≡ Some end) (omega arith) there)
