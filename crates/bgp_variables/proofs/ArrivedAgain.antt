-- Of the messages at all places the environment of announcements is made again, as far as routers look at it.
use Rattle.std.proofs.Common.{◌≡◌, ℕ, suc, ◌+◌, Bool, true, false, ◌&&◌, ◌||◌, List, [], ◌∷◌, ◌++◌, map, filter}
use Rattle.std.proofs.Common.{Option, Some, None, refl, sym, ap, subst, arith, ◌∙◌, slice_get}
use Rattle.std.specs.Prelude.{◌==◌, All, option_and_then, option_map, if◌then◌else◌}
use Rattle.std.specs.List.{enumerate_from, find}
use Rattle.std.proofs.lemmas.Bool.{and_from, and_parts, eq-eqb, eqb-true, or_left, or_right}
use Rattle.std.proofs.lemmas.List.{map-append}
use Rattle.std.proofs.lemmas.List.Folds.{list_any-append}
use Rattle.std.proofs.lemmas.Option.{same_Some}
use Rattle.std.proofs.lemmas.Map.Keys.{any_passes_from_place}
use Rattle.mw_text.specs.declared.address.Addr.{Addr}
use Rattle.mw_text.specs.declared.address.Prefix.{Prefix}
use Rattle.ios_ast.specs.declared.bgp.Neighbour.{Neighbour}
use Rattle.ios_ast.specs.declared.file.File.{File}
use Rattle.ios_ast.specs.Deciding.{carries}
use Rattle.route_record.specs.declared.tracked.Tracked.{Tracked}
use Rattle.net_parts.specs.declared.sessions.Far.{Far}
use Rattle.net_parts.specs.declared.sessions.Far.TheVariants.{Outside, Inside}
use Rattle.net_parts.specs.declared.sessions.SessionEnd.{SessionEnd}
use Rattle.net_parts.specs.Sessions.{ends_of, is_outside, neighbour_of}
use Rattle.route_shapes.specs.Bgp.{BgpShape}
use Rattle.bgp_shapes.specs.Candidates.{ShapeAnnouncement, ShapeEnvironment, ShapeSlot, shape_announced, shape_arriving}
use Rattle.plan_places.specs.declared.places.Place.{Place}
use Rattle.plan_places.specs.Places.{has_place, is_at, item_at, place}
use Rattle.slot_places.proofs.Tabulated.{item_again}
use Rattle.announced_places.specs.Announced.{Ascend, places_among, thing_at}
use Rattle.announced_places.specs.Environments.{announcement_of, environment_of, external_places, is_outer}
use Rattle.announced_places.proofs.ExternalPlaces.{environment_found, external_place}
use Rattle.announced_shapes.specs.Announcements.{IsAnnouncementShape}
use Rattle.bgp_variables.specs.Environments.{arrivals, arrivals_over, arrives}
use Rattle.bgp_variables.proofs.EnvironmentReading.{found_such}

-- ---- places

row_has : (e at len : ℕ) (lens : List ℕ) → (e == at) ≡ true → carries lens len ≡ true →
    has_place (map (place e) lens) at len ≡ true
row_has e at len [] same has = has
row_has e at len (l ∷ lens) same has = by (l == len) refl has (row_has e at len lens same) where
  by : (b : Bool) → (l == len) ≡ b → (b || carries lens len) ≡ true →
      (carries lens len ≡ true → has_place (map (place e) lens) at len ≡ true) →
      (((e == at) && (l == len)) || has_place (map (place e) lens) at len) ≡ true
  by true is has rest = or_left _ _ (and_from (e == at) (l == len) same is)
  by false is has rest = or_right _ _ (rest has)

has_among : (ends lens : List ℕ) (at len : ℕ) → carries ends at ≡ true → carries lens len ≡ true →
    has_place (places_among ends lens) at len ≡ true
unfolding places_among
has_among [] lens at len here has = here
has_among (e ∷ ends) lens at len here has =
    list_any-append (is_at at len) (map (place e) lens) (places_among ends lens)
    ∙ by (e == at) refl here (λ later. has_among ends lens at len later has)
  where
    by : (b : Bool) → (e == at) ≡ b → (b || carries ends at) ≡ true →
        (carries ends at ≡ true → has_place (places_among ends lens) at len ≡ true) →
        (has_place (map (place e) lens) at len || has_place (places_among ends lens) at len) ≡ true
    by true is here rest = or_left _ _ (row_has e at len lens is has)
    by false is here rest = or_right _ _ (rest here)

module _ (tracked : Tracked) (files : List File) (announced : List ShapeAnnouncement) where
  -- the message at a place
  abbrev at_place : Place → Option BgpShape
  at_place p =
      option_and_then (λ end. arrives tracked files announced p.router end p.len) (slice_get (ends_of files) p.router)

  row_is : (lens : List ℕ) (at : ℕ) (end : SessionEnd) → slice_get (ends_of files) at ≡ Some end →
      map (arrives tracked files announced at end) lens ≡ map at_place (map (place at) lens)
  row_is [] at end there = refl
  row_is (len ∷ lens) at end there =
      let one : arrives tracked files announced at end len ≡ at_place (place at len) =
      sym (ap (option_and_then (λ (e : SessionEnd). arrives tracked files announced at e len)) there) in
      let rest = row_is lens at end there in λ i. one i ∷ rest i

  over_is : (lens : List ℕ) (at : ℕ) (ends : List SessionEnd) →
      ((k : ℕ) (end : SessionEnd) → slice_get ends k ≡ Some end → slice_get (ends_of files) (at + k) ≡ Some end) →
      arrivals_over tracked files lens announced at ends
      ≡ map at_place (places_among (map (λ e. e.0) (filter is_outer (enumerate_from at ends))) lens)
  unfolding arrivals_over places_among
  over_is lens at [] within = refl
  over_is lens at (end ∷ ends) within =
      by (is_outside end.far) (over_is lens (at + 1) ends (λ k e here.
      subst (λ n. slice_get (ends_of files) n ≡ Some e) (omega arith) (within (suc k) e here)))
    where
      there : slice_get (ends_of files) at ≡ Some end
      there = subst (λ k. slice_get (ends_of files) k ≡ Some end) (omega arith) (within 0 end refl)

      behind : List (Option BgpShape)
      behind = arrivals_over tracked files lens announced (at + 1) ends

      later : List Place
      later = places_among (map (λ e. e.0) (filter is_outer (enumerate_from (at + 1) ends))) lens

      by : (b : Bool) → behind ≡ map at_place later →
          (if b then map (arrives tracked files announced at end) lens else []) ++ behind
          ≡ map at_place (places_among (map (λ e. e.0) (if b then (at, end) ∷ filter is_outer (enumerate_from (at + 1) ends)
          else filter is_outer (enumerate_from (at + 1) ends))) lens)
      by true is =
          ap (λ xs. xs ++ behind) (row_is lens at end there) ∙ ap (λ xs. map at_place (map (place at) lens) ++ xs) is
          ∙ sym (map-append at_place (map (place at) lens) later)
      by false is = is

  arrivals_is : (lens : List ℕ) →
      arrivals tracked files lens announced ≡ map at_place (places_among (external_places files) lens)
  arrivals_is lens = over_is lens 0 (ends_of files) (λ k end there.
      subst (λ n. slice_get (ends_of files) n ≡ Some end) (omega arith) there)

  -- what stands at the place of an external end
  thing_is : (lens : List ℕ) (at : ℕ) (end : SessionEnd) (len : ℕ) → slice_get (ends_of files) at ≡ Some end →
      is_outside end.far ≡ true → carries lens len ≡ true →
      thing_at (external_places files) lens (arrivals tracked files lens announced) at len
      ≡ arrives tracked files announced at end len
  thing_is lens at end len there outer has =
      let places = places_among (external_places files) lens in
      ap (λ xs. option_and_then (λ (o : Option BgpShape). o) (item_at places xs at len)) (arrivals_is lens)
      ∙ ap (option_and_then (λ (o : Option BgpShape). o)) (item_again at_place places at len
      (has_among (external_places files) lens at len (any_passes_from_place (λ y. y == at) (external_places files) _ at
      (external_place files at end there outer) (same_number at)) has))
      ∙ ap (option_and_then (λ (e : SessionEnd). arrives tracked files announced at e len)) there
    where
      same_number : (n : ℕ) → (n == n) ≡ true
      same_number n = eq-eqb n n refl

  module _ (may : All (IsAnnouncementShape files tracked) announced) where
    -- the announcement of the message of one that is found is that one
    made_again : (at : ℕ) (end : SessionEnd) (len : ℕ) → slice_get (ends_of files) at ≡ Some end →
        option_map (announcement_of at len) (arrives tracked files announced at end len)
        ≡ find (λ a. (a.end == at) && (a.len == len)) announced
    made_again at end len there = by (find test announced) refl (neighbour_of files end) refl where
      test : ShapeAnnouncement → Bool
      test = λ a. (a.end == at) && (a.len == len)

      -- whoever announces has a neighbour line
      line_there : (a : ShapeAnnouncement) → find test announced ≡ Some a → neighbour_of files end ≡ None → ⊥
      line_there a found none =
          let such = found_such (IsAnnouncementShape files tracked) test announced a may found in
          let is = such.0 in
          let here : a.end ≡ at = eqb-true a.end at (and_parts (a.end == at) (a.len == len) such.1).0 in
          let end_is : is.peer.end ≡ end = same_Some is.peer.end end
          (sym is.peer.there ∙ ap (slice_get (ends_of files)) here ∙ there) in
          let line = sym none ∙ sym (ap (neighbour_of files) end_is) ∙ is.peer.line in cc

      by : (o : Option ShapeAnnouncement) → find test announced ≡ o → (n : Option Neighbour) →
          neighbour_of files end ≡ n → option_map (announcement_of at len)
          (option_and_then (λ neighbour. option_map (shape_announced tracked neighbour.addr) o) n) ≡ o
      by None found None line = refl
      by None found (Some neighbour) line = refl
      by (Some a) found None line = absurd (line_there a found line)
      by (Some a) found (Some neighbour) line =
          let such = found_such (IsAnnouncementShape files tracked) test announced a may found in
          let parts = and_parts (a.end == at) (a.len == len) such.1 in
          let end_is : at ≡ a.end = sym (eqb-true a.end at parts.0) in
          let len_is : len ≡ a.len = sym (eqb-true a.len len parts.1) in
          ap Some (λ i. record a { end = end_is i; len = len_is i })

    -- so what arrives for prefixes of these lengths is the same
    pub arriving_again : (ids : List Addr) (lens : List ℕ) (slots : ℕ → Option ShapeSlot) (p : Prefix) (at : ℕ)
        (end : SessionEnd) → Ascend lens → carries lens p.len ≡ true → slice_get (ends_of files) at ≡ Some end →
        shape_arriving tracked files (environment_of files lens ids (arrivals tracked files lens announced)) slots p at end
        ≡ shape_arriving tracked files (record { ids = ids; announced = announced }) slots p at end
    unfolding shape_arriving
    arriving_again ids lens slots p at end up has there = by end.far refl where
      environment : ShapeEnvironment
      environment = environment_of files lens ids (arrivals tracked files lens announced)

      by : (far : Far) → end.far ≡ far →
          shape_arriving tracked files environment slots p at (record end { far = far })
          ≡ shape_arriving tracked files (record { ids = ids; announced = announced }) slots p at (record end { far = far })
      by Outside is =
          ap (λ (o : Option ShapeAnnouncement). option_and_then (λ neighbour.
          option_map (shape_announced tracked neighbour.addr) o) (neighbour_of files end))
          (environment_found files lens ids (arrivals tracked files lens announced) at p.len up
          ∙ ap (option_map (announcement_of at p.len)) (thing_is lens at end p.len there (ap is_outside is) has)
          ∙ made_again at end p.len there)
      by (Inside far_at) is = refl
