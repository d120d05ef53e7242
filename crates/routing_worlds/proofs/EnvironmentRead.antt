-- Identifiers and announcements are read from their bits, and make the same environment again.
use Rattle.std.proofs.Common.{◌≡◌, ℕ, suc, ◌+◌, ◌<◌, ◌==◌, ◌&&◌, ◌⊎◌, inl, inr, Bool, true, false}
use Rattle.std.proofs.Common.{List, [], ◌∷◌, ◌++◌, length, map, replicate, take, Option, Some, None, refl, sym, ap, ◌∙◌}
use Rattle.std.proofs.Common.{subst, arith}
use Rattle.std.specs.Prelude.{All, IfSome, filter, option_and_then, option_map, slice_get, if◌then◌else◌}
use Rattle.std.specs.List.{enumerate_from, find}
use Rattle.std.proofs.lemmas.Bool.{and_from, eq-eqb}
use Rattle.std.proofs.lemmas.List.{map-append}
use Rattle.std.proofs.lemmas.List.Elements.{All-contains}
use Rattle.std.proofs.lemmas.Option.{same_Some}
use Rattle.mw_text.specs.Members.{In}
use Rattle.mw_text.specs.declared.address.Addr.{Addr}
use Rattle.mw_text.proofs.Found.{find_passes}
use Rattle.ios_ast.specs.declared.bgp.Neighbour.{Neighbour}
use Rattle.ios_ast.specs.declared.file.File.{File}
use Rattle.route_record.specs.declared.Plan.{Plan}
use Rattle.route_record.specs.declared.TheConstants.{LENGTHS}
use Rattle.route_record.specs.declared.tracked.Tracked.{Tracked}
use Rattle.net_interfaces.proofs.Members.{in-find}
use Rattle.net_parts.specs.declared.sessions.SessionEnd.{SessionEnd}
use Rattle.net_parts.specs.Decisions.{external_count}
use Rattle.net_parts.specs.Sessions.{ends_of, is_outside, neighbour_of}
use Rattle.net_parts.proofs.LeastWalks.{in-cases, in-contains, in-left, in-map, in-right}
use Rattle.route_shapes.specs.Bgp.{BgpShape}
use Rattle.bgp_shapes.specs.Candidates.{ShapeAnnouncement, ShapeEnvironment, shape_announced}
use Rattle.plan_places.specs.declared.places.Place.{Place}
use Rattle.plan_places.specs.Places.{has_place, is_at, place}
use Rattle.plan_places.specs.Plans.{has_slice, lens_of}
use Rattle.slot_places.proofs.Members.{in-place, map-in}
use Rattle.slot_places.proofs.PlaceLaws.{at-is, in-has, in-lens, lens-in}
use Rattle.announced_shapes.specs.Announcements.{IsAnnouncementShape}
use Rattle.announced_shapes.specs.Environments.{IsShapeEnvironment}
use Rattle.announced_places.specs.Announced.{made_over, places_among}
use Rattle.announced_places.specs.Environments.{announcement_of, environment_of, external_places, is_outer, stands_at}
use Rattle.announced_places.proofs.ExternalPlaces.{environment_found, external_ascend, external_place}
use Rattle.announced_places.proofs.PlacedThings.{lens_ascend, places_ordered}
use Rattle.bgp_variables.specs.declared.rooms.BgpRoom.{BgpRoom}
use Rattle.bgp_variables.specs.Environments.{announced_rooms, end_room, rooms_over}
use Rattle.bgp_variables.specs.Rooms.{announcement_room}
use Rattle.bgp_variables.specs.Shapes.{FitBgpRooms, FitsBgpRoom, FitsShape}
use Rattle.bgp_variables.proofs.Fitting.{announced_fits}
use Rattle.bgp_variables.proofs.EnvironmentReading.{fit_append}
use Rattle.bgp_worlds.specs.Opens.{AnnounceAtSlices}
use Rattle.bgp_worlds.proofs.Placed.{not_made}
use Rattle.routing_worlds.specs.Worlds.{announced_thing, announced_things}
use Rattle.routing_worlds.proofs.MadeAgain.{made_again}

-- ---- what fits

fit_row : (room : Option BgpRoom) (thing : Place → Option BgpShape) (end : ℕ) → ((len : ℕ) →
    FitsBgpRoom room (thing (place end len))) → (lens : List ℕ) →
    FitBgpRooms (replicate (length lens) room) (map thing (map (place end) lens))
fit_row room thing end fits [] = tt
fit_row room thing end fits (len ∷ lens) = (fits len, fit_row room thing end fits lens)

module _ (tracked : Tracked) (files : List File) (announced : List ShapeAnnouncement)
    (all : All (IsAnnouncementShape files tracked) announced) where
  known : (a : ShapeAnnouncement) → In a announced → IsAnnouncementShape files tracked a
  known a there = All-contains (IsAnnouncementShape files tracked) announced a all (in-contains a announced there)

  -- the end and the neighbour line of what is announced at a place
  record IsFoundAt (p : Place) (a : ShapeAnnouncement) : Type 0 where
    is : IsAnnouncementShape files tracked a
    stands : stands_at a ≡ place p.router p.len

  found_at : (p : Place) (a : ShapeAnnouncement) → find (λ a. is_at p.router p.len (stands_at a)) announced ≡ Some a →
      IsFoundAt p a
  found_at p a found = record {
    is = known a (in-find (λ a. is_at p.router p.len (stands_at a)) announced a found);
    stands = at-is (stands_at a) p.router p.len
        (find_passes (λ a. is_at p.router p.len (stands_at a)) announced a found);
  }

  -- a thing fits the room of its end
  thing_fits : (n : ℕ) (end : SessionEnd) → slice_get (ends_of files) n ≡ Some end → (len : ℕ) →
      FitsBgpRoom (end_room tracked files end) (announced_thing tracked files announced (place n len))
  thing_fits n end there len =
      subst (FitsBgpRoom (end_room tracked files end)) (sym (ap (option_and_then (λ (e : SessionEnd).
      option_and_then (λ (neighbour : Neighbour). option_map (shape_announced tracked neighbour.addr)
      (find (λ a. is_at n len (stands_at a)) announced)) (neighbour_of files e))) there))
      (by (neighbour_of files end) refl)
    where
      by_found : (nb : Neighbour) → neighbour_of files end ≡ Some nb → (o : Option ShapeAnnouncement) →
          find (λ a. is_at n len (stands_at a)) announced ≡ o →
          IfSome (option_map (shape_announced tracked nb.addr) o) (FitsShape (announcement_room tracked nb))
      by_found nb named None found = tt
      by_found nb named (Some a) found =
          let at = found_at (place n len) a found in
          let peer = at.is.peer in
          let number : a.end ≡ n = ap (λ (q : Place). q.router) at.stands in
          let same : peer.end ≡ end =
          same_Some peer.end end (sym peer.there ∙ ap (slice_get (ends_of files)) number ∙ there) in
          let line : peer.neighbour ≡ nb =
          same_Some peer.neighbour nb (sym peer.line ∙ ap (neighbour_of files) same ∙ named) in
          subst (λ (w : Neighbour). FitsShape (announcement_room tracked w) (shape_announced tracked w.addr a)) line
          (announced_fits tracked peer.neighbour a peer.path at.is.med at.is.origin at.is.marks)

      by : (o : Option Neighbour) → neighbour_of files end ≡ o →
          FitsBgpRoom (option_map (announcement_room tracked) o) (option_and_then (λ (neighbour : Neighbour).
          option_map (shape_announced tracked neighbour.addr) (find (λ a. is_at n len (stands_at a)) announced)) o)
      by None named = refl
      by (Some nb) named = by_found nb named (find (λ a. is_at n len (stands_at a)) announced) refl

  over_fit : (lens : List ℕ) (n : ℕ) (ends : List SessionEnd) →
      ((k : ℕ) (end : SessionEnd) → slice_get ends k ≡ Some end → slice_get (ends_of files) (n + k) ≡ Some end) →
      FitBgpRooms (rooms_over tracked files (length lens) ends)
      (map (announced_thing tracked files announced)
      (places_among (map (λ (e : ℕ × SessionEnd). e.0) (filter is_outer (enumerate_from n ends))) lens))
  unfolding rooms_over places_among
  over_fit lens n [] stands = tt
  over_fit lens n (end ∷ ends) stands =
      by (is_outside end.far) (over_fit lens (n + 1) ends (λ k e there.
      let next : n + suc k ≡ n + 1 + k = omega arith in
      ap (slice_get (ends_of files)) (sym next) ∙ stands (suc k) e there))
    where
      here : slice_get (ends_of files) n ≡ Some end
      here = let first : n + 0 ≡ n = omega arith in ap (slice_get (ends_of files)) (sym first) ∙ stands 0 end refl

      others : List ℕ
      others = map (λ (e : ℕ × SessionEnd). e.0) (filter is_outer (enumerate_from (n + 1) ends))

      thing : Place → Option BgpShape
      thing = announced_thing tracked files announced

      by : (b : Bool) →
          FitBgpRooms (rooms_over tracked files (length lens) ends) (map (announced_thing tracked files announced)
          (places_among (map (λ (e : ℕ × SessionEnd). e.0) (filter is_outer (enumerate_from (n + 1) ends))) lens)) →
          FitBgpRooms ((if b then replicate (length lens) (end_room tracked files end) else [])
          ++ rooms_over tracked files (length lens) ends) (map (announced_thing tracked files announced)
          (places_among (map (λ (e : ℕ × SessionEnd). e.0)
          (if b then (n, end) ∷ filter is_outer (enumerate_from (n + 1) ends)
          else filter is_outer (enumerate_from (n + 1) ends))) lens))
      by true rest =
          subst (FitBgpRooms (replicate (length lens) (end_room tracked files end)
          ++ rooms_over tracked files (length lens) ends))
          (sym (map-append (announced_thing tracked files announced) (map (place n) lens) (places_among others lens)))
          (fit_append (replicate (length lens) (end_room tracked files end))
          (rooms_over tracked files (length lens) ends)
          (map (announced_thing tracked files announced) (map (place n) lens))
          (map (announced_thing tracked files announced) (places_among others lens))
          (fit_row (end_room tracked files end) (announced_thing tracked files announced) n (thing_fits n end here) lens)
          rest)
      by false rest = rest

  pub announced_fit : (lens : List ℕ) →
      FitBgpRooms (announced_rooms tracked files (length lens)) (announced_things tracked files lens announced)
  announced_fit lens =
      over_fit lens 0 (ends_of files) (λ k end there. let first : 0 + k ≡ k = omega arith in
      ap (slice_get (ends_of files)) first ∙ there)

  -- ---- the same list again

  find_thing : (p : Place) → find (λ a. is_at p.router p.len (stands_at a)) announced
      ≡ option_map (announcement_of p.router p.len) (announced_thing tracked files announced p)
  find_thing p = by (find (λ a. is_at p.router p.len (stands_at a)) announced) refl
    where
      nothing : (o : Option SessionEnd) → None ≡ option_map (announcement_of p.router p.len) (option_and_then
          (λ (end : SessionEnd). option_and_then (λ (neighbour : Neighbour).
          option_map (shape_announced tracked neighbour.addr) None) (neighbour_of files end)) o)
      nothing None = refl
      nothing (Some end) = by_line (neighbour_of files end)
        where
          by_line : (o : Option Neighbour) → None ≡ option_map (announcement_of p.router p.len)
              (option_and_then (λ (neighbour : Neighbour). option_map (shape_announced tracked neighbour.addr) None) o)
          by_line None = refl
          by_line (Some nb) = refl

      by : (o : Option ShapeAnnouncement) → find (λ a. is_at p.router p.len (stands_at a)) announced ≡ o →
          o ≡ option_map (announcement_of p.router p.len) (option_and_then (λ (end : SessionEnd).
          option_and_then (λ (neighbour : Neighbour). option_map (shape_announced tracked neighbour.addr) o)
          (neighbour_of files end)) (slice_get (ends_of files) p.router))
      by None found = nothing (slice_get (ends_of files) p.router)
      by (Some a) found =
          let at = found_at p a found in
          let peer = at.is.peer in
          let number : a.end ≡ p.router = ap (λ (q : Place). q.router) at.stands in
          let len : a.len ≡ p.len = ap (λ (q : Place). q.len) at.stands in
          let there : slice_get (ends_of files) p.router ≡ Some peer.end =
          ap (slice_get (ends_of files)) (sym number) ∙ peer.there in
          sym (ap (λ o. option_map (announcement_of p.router p.len) (option_and_then (λ (end : SessionEnd).
          option_and_then (λ (neighbour : Neighbour). option_map (shape_announced tracked neighbour.addr) (Some a))
          (neighbour_of files end)) o)) there
          ∙ ap (λ o. option_map (announcement_of p.router p.len) (option_and_then (λ (neighbour : Neighbour).
          option_map (shape_announced tracked neighbour.addr) (Some a)) o)) peer.line
          ∙ (λ i. Some (record {
            end = sym number i;
            len = sym len i;
            path = a.path;
            med = a.med;
            origin = a.origin;
            communities = a.communities;
          })))

in_among : (ends lens : List ℕ) (end len : ℕ) → In end ends → In len lens → In (place end len) (places_among ends lens)
unfolding places_among
in_among [] lens end len there at = absurd there
in_among (e ∷ ends) lens end len (inl same) at =
    in-left (place end len) (map (place e) lens) (places_among ends lens)
    (subst (λ n. In (place end len) (map (place n) lens)) same (map-in (place end) lens len at))
in_among (e ∷ ends) lens end len (inr later) at =
    in-right (place end len) (map (place e) lens) (places_among ends lens) (in_among ends lens end len later at)

-- what is found nowhere passes nowhere
not_found : {X : Type 0} (test : X → Bool) (xs : List X) (x : X) → In x xs → find test xs ≡ None → test x ≡ false
not_found test [] x there none = absurd there
not_found {X} test (y ∷ ys) x there none = by (test y) refl there none (not_found test ys x) where
  by : (b : Bool) → test y ≡ b → In x (y ∷ ys) → (if b then Some y else find test ys) ≡ None →
      (In x ys → find test ys ≡ None → test x ≡ false) → test x ≡ false
  by true is here none' rest = absurd cc
  by false is (inl same) none' rest = ap test same ∙ is
  by false is (inr later) none' rest = rest later none'

-- what stands at places among these stands at one of the lengths
among_in : (ends lens : List ℕ) (p : Place) → In p (places_among ends lens) → In p.len lens
unfolding places_among
among_in [] lens p there = absurd there
among_in (e ∷ ends) lens p there =
    by (in-cases p (map (place e) lens) (places_among ends lens) there) (among_in ends lens p)
  where
    by : In p (map (place e) lens) ⊎ In p (places_among ends lens) → (In p (places_among ends lens) → In p.len lens) →
        In p.len lens
    by (inl here) rest =
        let found = in-map (place e) lens p here in
        subst (λ (q : Place). In q.len lens) (sym found.2) found.1
    by (inr later) rest = rest later

-- what variables say is announced at the slices of a plan alone
pub announced_at_slices : (files : List File) (plan : Plan) (ids : List Addr) (things : List (Option BgpShape)) →
    AnnounceAtSlices plan (environment_of files (lens_of plan) ids things)
announced_at_slices files plan ids things end len short off =
    environment_found files (lens_of plan) ids things end len (lens_ascend plan)
    ∙ ap (λ o. option_map (announcement_of end len) (option_and_then (λ (t : Option BgpShape). t) o))
    (not_made (places_among (external_places files) (lens_of plan)) things end len
    (none (has_place (places_among (external_places files) (lens_of plan)) end len) refl))
  where
    none : (b : Bool) → has_place (places_among (external_places files) (lens_of plan)) end len ≡ b →
        has_place (places_among (external_places files) (lens_of plan)) end len ≡ false
    none false is = is
    none true is =
        let there = among_in (external_places files) (lens_of plan) (place end len)
        (in-has (places_among (external_places files) (lens_of plan)) end len is) in
        let on = (in-lens plan LENGTHS len there).1 in
        absurd cc

-- where nobody announces anything off the slices, what is announced stands at one
at_slice : (plan : Plan) (s : ShapeEnvironment) → AnnounceAtSlices plan s → (a : ShapeAnnouncement) →
    In a s.announced → a.len < LENGTHS → has_slice plan a.len ≡ true
at_slice plan s silent a there short = by (has_slice plan a.len) refl where
  by : (b : Bool) → has_slice plan a.len ≡ b → b ≡ true
  by true on = refl
  by false off =
      let nothing = not_found (λ x. (x.end == a.end) && (x.len == a.len)) s.announced a there
      (silent a.end a.len short off) in
      let itself = and_from (a.end == a.end) (a.len == a.len) (eq-eqb a.end a.end refl) (eq-eqb a.len a.len refl) in
      absurd cc

pub announced_again : (tracked : Tracked) (files : List File) (plan : Plan) (s : ShapeEnvironment) →
    AnnounceAtSlices plan s → IsShapeEnvironment files tracked s →
    made_over announcement_of (places_among (external_places files) (lens_of plan))
    (announced_things tracked files (lens_of plan) s.announced) ≡ s.announced
announced_again tracked files plan s silent is =
    made_again announcement_of stands_at (announced_thing tracked files s.announced)
    (places_among (external_places files) (lens_of plan)) s.announced
    (places_ordered (external_places files) (lens_of plan) (external_ascend files) (lens_ascend plan)) is.once stand
    (λ p there. find_thing tracked files s.announced is.announced p)
  where
    stand : (a : ShapeAnnouncement) → In a s.announced →
        In (stands_at a) (places_among (external_places files) (lens_of plan))
    stand a there =
        let shape = known tracked files s.announced is.announced a there in
        let peer = shape.peer in
        let outer = external_place files a.end peer.end peer.there peer.outside in
        in_among (external_places files) (lens_of plan) a.end a.len
        (in-place (external_places files) (external_count (take a.end (ends_of files))) a.end outer)
        (lens-in plan LENGTHS a.len shape.len (at_slice plan s silent a there shape.len))
