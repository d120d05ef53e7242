-- What is asked of BGP and what is asked of OSPF at the places of a plan are together the test of a world.
use Rattle.std.proofs.Common.{◌≡◌, ℕ, ◌<◌, ◌==◌, ◌&&◌, ◌||◌, not, Bool, true, false, List, [], ◌∷◌, length}
use Rattle.std.proofs.Common.{Option, Some, None, inl, inr, refl, sym, ap, arith, ◌∙◌}
use Rattle.std.specs.Prelude.{AllPairs, slice_get, if◌then◌else◌}
use Rattle.std.specs.List.{list_all}
use Rattle.std.specs.Option.{option_map_or}
use Rattle.std.proofs.lemmas.Bool.{and_from, and_parts, eq-eqb}
use Rattle.std.proofs.lemmas.Option.{same_Some}
use Rattle.mw_text.proofs.Lists.{item_there}
use Rattle.mw_text.specs.Members.{In}
use Rattle.mw_text.specs.declared.address.Prefix.{Prefix}
use Rattle.mw_text.specs.Address.{prefix_at}
use Rattle.ios_ast.specs.declared.file.File.{File}
use Rattle.route_record.specs.declared.Failures.{Failures}
use Rattle.route_record.specs.declared.Packet.{Packet}
use Rattle.route_record.specs.declared.Plan.{Plan}
use Rattle.route_record.specs.declared.Tables.{Tables}
use Rattle.route_record.specs.declared.TheConstants.{LENGTHS}
use Rattle.route_record.specs.declared.tracked.Tracked.{Tracked}
use Rattle.route_record.specs.Places.{slot_at}
use Rattle.bgp_shapes.specs.Candidates.{ShapeEnvironment, ShapeSlot}
use Rattle.plan_places.specs.declared.places.Place.{Place}
use Rattle.plan_places.specs.Places.{IsBefore, has_place, is_at, item_at, place, places_of}
use Rattle.plan_places.specs.Plans.{lens_of}
use Rattle.plan_places.specs.Tables.{all_hold}
use Rattle.slot_places.specs.Rooms.{can_be_used}
use Rattle.net_interfaces.proofs.Pairs.{first, later}
use Rattle.slot_places.proofs.PlaceLaws.{at-is, has-in, in-has, in-lens, in-places}
use Rattle.slot_places.proofs.Supports.{all_in}
use Rattle.rebuilt_routes.specs.Deciding.{is_decided_shape}
use Rattle.shape_worlds.specs.Worlds.{ShapeWorld, has_all_marks, may_be_announced, rebuilt_tables, slots_for}
use Rattle.bgp_worlds.specs.Opens.{OpenSlot, is_bgp_wanted, is_igp_wanted, opens_hold, place_holds, shape_world_of}
use Rattle.bgp_worlds.proofs.BgpSound.{AreBgpWanted, open_there, slot_here}
use Rattle.bgp_worlds.proofs.Placed.{made, not_made}
use Rattle.routing_worlds.proofs.MadeAgain.{not_back}
use Rattle.bgp_equations.specs.Equations.{is_decided_at}
use Rattle.routing_encoder.specs.Decided.{are_decided, is_decided_place}
use Rattle.routing_encoder.specs.Wanted.{are_wanted, is_wanted_place}

-- ---- tests at places

pub all_placed : (test : Place → Bool) (ps : List Place) (router len : ℕ) → list_all test ps ≡ true →
    has_place ps router len ≡ true → test (place router len) ≡ true
all_placed test [] router len all there = absurd cc
all_placed test (p ∷ ps) router len all there =
    by (is_at router len p) refl there
    (λ later. all_placed test ps router len (and_parts (test p) (list_all test ps) all).1 later)
  where
    by : (b : Bool) → is_at router len p ≡ b → (b || has_place ps router len) ≡ true →
        (has_place ps router len ≡ true → test (place router len) ≡ true) → test (place router len) ≡ true
    by true is there' rest = ap test (sym (at-is p router len is)) ∙ (and_parts (test p) (list_all test ps) all).0
    by false is there' rest = rest there'

pub all_by : (test : Place → Bool) (ps : List Place) → ((p : Place) → In p ps → test p ≡ true) → list_all test ps ≡ true
all_by test [] each = refl
all_by test (p ∷ ps) each =
    and_from (test p) (list_all test ps) (each p (inl refl)) (all_by test ps (λ q there. each q (inr there)))

-- a place at which a thing stands is one of the places
pub placed_has : {X : Type 0} (ps : List Place) (xs : List X) (router len : ℕ) (x : X) →
    item_at ps xs router len ≡ Some x → has_place ps router len ≡ true
placed_has ps xs router len x is = by (has_place ps router len) refl where
  by : (b : Bool) → has_place ps router len ≡ b → has_place ps router len ≡ true
  by true there = there
  by false none = absurd (let no : None ≡ Some x = sym (not_made ps xs router len none) ∙ is in cc)

-- a thing stands at each place where there are as many
pub thing_there : {X : Type 0} (ps : List Place) (xs : List X) (router len : ℕ) → length xs ≡ length ps →
    has_place ps router len ≡ true → (x : X) × (item_at ps xs router len ≡ Some x)
unfolding item_at
thing_there [] xs router len long there = absurd cc
thing_there (p ∷ ps) [] router len long there = absurd (omega (arith, long))
thing_there {X} (p ∷ ps) (x ∷ xs) router len long there =
    by (is_at router len p) there (λ later. thing_there ps xs router len (omega (arith, long)) later)
  where
    by : (b : Bool) → (b || has_place ps router len) ≡ true →
        (has_place ps router len ≡ true → (y : X) × (item_at ps xs router len ≡ Some y)) →
        (y : X) × ((if b then Some x else item_at ps xs router len) ≡ Some y)
    by true there' rest = (x, refl)
    by false there' rest = rest there'

pub here_at : (p : Place) → is_at p.router p.len p ≡ true
here_at p = and_from (p.router == p.router) (p.len == p.len) (eq-eqb p.router p.router refl) (eq-eqb p.len p.len refl)

-- at places in their order, what passes at the place of each thing passes at all
all_hold_items : {U : Type 0} (f : Place → U → Bool) (ps : List Place) (us : List U) → length us ≡ length ps →
    AllPairs IsBefore ps →
    ((p : Place) (u : U) → In p ps → item_at ps us p.router p.len ≡ Some u → f p u ≡ true) → all_hold f ps us ≡ true
unfolding all_hold item_at
all_hold_items f [] [] long order each = refl
all_hold_items f [] (u ∷ us) long order each = absurd (omega (arith, long))
all_hold_items f (p ∷ ps) [] long order each = absurd (omega (arith, long))
all_hold_items {U} f (p ∷ ps) (u ∷ us) long order each =
    and_from (f p u) (all_hold f ps us)
    (each p u (inl refl) (ap (λ b. if b then Some u else item_at ps us p.router p.len) (here_at p)))
    (all_hold_items f ps us (omega (arith, long)) (later IsBefore p ps order) (λ q v there is.
    each q v (inr there) (ap (λ b. if b then Some u else item_at ps us q.router q.len)
    (not_back p q (all_in (IsBefore p) ps q (first IsBefore p ps order) there)) ∙ is)))

all_weaker : {U : Type 0} (f g : Place → U → Bool) (ps : List Place) (us : List U) →
    ((p : Place) (u : U) → f p u ≡ true → g p u ≡ true) → all_hold f ps us ≡ true → all_hold g ps us ≡ true
unfolding all_hold
all_weaker f g [] [] weaker all = refl
all_weaker f g [] (u ∷ us) weaker all = absurd cc
all_weaker f g (p ∷ ps) [] weaker all = absurd cc
all_weaker f g (p ∷ ps) (u ∷ us) weaker all =
    let both = and_parts (f p u) (all_hold f ps us) all in
    and_from (g p u) (all_hold g ps us) (weaker p u both.0) (all_weaker f g ps us weaker both.1)

-- ---- both halves

module _ (tracked : Tracked) (files : List File) (destinations : Prefix) (plan : Plan) (packet : Packet)
    (failures : Failures) (opens : List OpenSlot) (announced : ShapeEnvironment)
    (long : length opens ≡ length (places_of plan (length files)))
    (order : AllPairs IsBefore (places_of plan (length files))) where
  abbrev s : ShapeWorld
  s = shape_world_of files destinations plan packet failures opens announced

  abbrev places : List Place
  places = places_of plan (length files)

  abbrev tables : Tables
  tables = rebuilt_tables tracked files s

  -- the decision at a place is one of what is open there
  decided_is : (router len : ℕ) (file : File) (o : OpenSlot) → slice_get files router ≡ Some file →
      router < length files → len < LENGTHS → can_be_used files destinations router len ≡ true →
      item_at places opens router len ≡ Some o →
      is_decided_at tracked files failures announced (slots_for s len) router (prefix_at packet.dst len)
      ≡ is_decided_shape tracked files failures announced (slots_for s len) router file (prefix_at packet.dst len) o.bgp
  decided_is router len file o found within below used is =
      ap (λ x. option_map_or (λ (f : File). option_map_or (λ (slot : ShapeSlot).
      is_decided_shape tracked files failures announced (slots_for s len) router f (prefix_at packet.dst len) slot.bgp)
      (slots_for s len router) false) x false) found
      ∙ ap (λ x. option_map_or (λ (slot : ShapeSlot).
      is_decided_shape tracked files failures announced (slots_for s len) router file (prefix_at packet.dst len) slot.bgp)
      x false)
      (slot_here files destinations plan packet failures opens announced router len within below
      ∙ ap Some (open_there files destinations plan packet failures opens announced router len o used is))

  inside : (p : Place) → In p places → (p.router < length files) × (p.len < LENGTHS)
  inside p here =
      let found = in-places (lens_of plan) (length files) p here in
      (found.0, (in-lens plan LENGTHS p.len found.1).0)

  -- ---- from the halves

  pub are_bgp : may_be_announced files tracked announced ≡ true →
      ((router len : ℕ) (o : OpenSlot) → router < length files → len < LENGTHS →
      can_be_used files destinations router len ≡ true →
      item_at (places_of plan (length files)) opens router len ≡ Some o →
      option_map_or (has_all_marks tracked) o.bgp true ≡ true) →
      are_decided tracked files destinations
      (shape_world_of files destinations plan packet failures opens announced) (places_of plan (length files)) ≡ true →
      AreBgpWanted tracked files destinations plan
      (shape_world_of files destinations plan packet failures opens announced) opens
  are_bgp may marked decided = record {
    announced = may;
    stands = λ router len there. thing_there places opens router len long there;
    wanted = λ router len file o found below used is.
        let has = placed_has places opens router len o is in
        let within = (inside (place router len) (in-has places router len has)).0 in
        and_from (option_map_or (has_all_marks tracked) o.bgp true) _ (marked router len o within below used is)
        (sym (decided_is router len file o found within below used is)
        ∙ sym (ap (λ b. not b
        || is_decided_at tracked files failures announced (slots_for s len) router (prefix_at packet.dst len)) used)
        ∙ all_placed (is_decided_place tracked files destinations s) places router len decided has);
  }

  pub both_halves : AreBgpWanted tracked files destinations plan
      (shape_world_of files destinations plan packet failures opens announced) opens →
      are_wanted files destinations (shape_world_of files destinations plan packet failures opens announced)
      (rebuilt_tables tracked files (shape_world_of files destinations plan packet failures opens announced))
      (places_of plan (length files)) opens ≡ true →
      opens_hold tracked files destinations plan
      (shape_world_of files destinations plan packet failures opens announced) opens ≡ true
  unfolding opens_hold
  both_halves are wanted =
      and_from (may_be_announced files tracked announced) _ are.announced
      (all_hold_items (place_holds tracked files destinations s tables) places opens long order each)
    where
      each : (p : Place) (u : OpenSlot) → In p places → item_at places opens p.router p.len ≡ Some u →
          place_holds tracked files destinations s tables p u ≡ true
      each p u there is = by (can_be_used files destinations p.router p.len) refl where
        within : (p.router < length files) × (p.len < LENGTHS)
        within = inside p there

        file : (f : File) × (slice_get files p.router ≡ Some f)
        file = item_there files p.router within.0

        igp : is_wanted_place files destinations s tables p u ≡ true
        igp =
            let there' = made (is_wanted_place files destinations s tables) places opens p.router p.len wanted
            (has-in places p.router p.len there) in
            ap (is_wanted_place files destinations s tables p)
            (same_Some u there'.item (sym is ∙ there'.is))
            ∙ there'.passes

        by : (b : Bool) → can_be_used files destinations p.router p.len ≡ b →
            place_holds tracked files destinations s tables p u ≡ true
        by false unused =
            ap (λ b. not b || option_map_or (λ (f : File). is_bgp_wanted tracked files s p u.bgp f
            && option_map_or (is_igp_wanted files s tables p u.unknown f) (slot_at tables p.router p.len) false)
            (slice_get files p.router) false) unused
        by true used =
            ap (λ b. not b || option_map_or (λ (f : File). is_bgp_wanted tracked files s p u.bgp f
            && option_map_or (is_igp_wanted files s tables p u.unknown f) (slot_at tables p.router p.len) false)
            (slice_get files p.router) false) used
            ∙ ap (λ o. option_map_or (λ (f : File). is_bgp_wanted tracked files s p u.bgp f
            && option_map_or (is_igp_wanted files s tables p u.unknown f) (slot_at tables p.router p.len) false) o false)
            file.1
            ∙ and_from (is_bgp_wanted tracked files s p u.bgp file.0) _
            (are.wanted p.router p.len file.0 u file.1 within.1 used is)
            (sym (ap (λ b. not b || option_map_or (λ (f : File).
            option_map_or (is_igp_wanted files s tables p u.unknown f) (slot_at tables p.router p.len) false)
            (slice_get files p.router) false) used
            ∙ ap (λ o. option_map_or (λ (f : File).
            option_map_or (is_igp_wanted files s tables p u.unknown f) (slot_at tables p.router p.len) false) o false)
            file.1) ∙ igp)

  -- ---- and back

  pub announced_half : opens_hold tracked files destinations plan
      (shape_world_of files destinations plan packet failures opens announced) opens ≡ true →
      may_be_announced files tracked announced ≡ true
  unfolding opens_hold
  announced_half holds = (and_parts (may_be_announced files tracked announced) _ holds).0

  pub wanted_half : opens_hold tracked files destinations plan
      (shape_world_of files destinations plan packet failures opens announced) opens ≡ true →
      are_wanted files destinations (shape_world_of files destinations plan packet failures opens announced)
      (rebuilt_tables tracked files (shape_world_of files destinations plan packet failures opens announced))
      (places_of plan (length files)) opens ≡ true
  unfolding opens_hold
  wanted_half holds =
      all_weaker (place_holds tracked files destinations s tables) (is_wanted_place files destinations s tables) places
      opens weaker (and_parts (may_be_announced files tracked announced) _ holds).1
    where
      weaker : (p : Place) (u : OpenSlot) → place_holds tracked files destinations s tables p u ≡ true →
          is_wanted_place files destinations s tables p u ≡ true
      weaker p u passes = by (can_be_used files destinations p.router p.len) (slice_get files p.router) passes where
        by : (b : Bool) (o : Option File) → (not b || option_map_or (λ (f : File).
            is_bgp_wanted tracked files s p u.bgp f
            && option_map_or (is_igp_wanted files s tables p u.unknown f) (slot_at tables p.router p.len) false) o false)
            ≡ true →
            (not b || option_map_or (λ (f : File).
            option_map_or (is_igp_wanted files s tables p u.unknown f) (slot_at tables p.router p.len) false) o false)
            ≡ true
        by false o is = refl
        by true None is = is
        by true (Some f) is = (and_parts (is_bgp_wanted tracked files s p u.bgp f) _ is).1

  pub decided_half : opens_hold tracked files destinations plan
      (shape_world_of files destinations plan packet failures opens announced) opens ≡ true →
      are_decided tracked files destinations
      (shape_world_of files destinations plan packet failures opens announced) (places_of plan (length files)) ≡ true
  unfolding opens_hold
  decided_half holds = all_by (is_decided_place tracked files destinations s) places each where
    each : (p : Place) → In p places → is_decided_place tracked files destinations s p ≡ true
    each p there = by (can_be_used files destinations p.router p.len) refl where
      within : (p.router < length files) × (p.len < LENGTHS)
      within = inside p there

      file : (f : File) × (slice_get files p.router ≡ Some f)
      file = item_there files p.router within.0

      by : (b : Bool) → can_be_used files destinations p.router p.len ≡ b →
          is_decided_place tracked files destinations s p ≡ true
      by false unused =
          ap (λ b. not b || is_decided_at tracked files failures announced (slots_for s p.len) p.router
          (prefix_at packet.dst p.len)) unused
      by true used =
          let is = made (place_holds tracked files destinations s tables) places opens p.router p.len
          (and_parts (may_be_announced files tracked announced) _ holds).1 (has-in places p.router p.len there) in
          let asked = sym (ap (λ b. not b || option_map_or (λ (f : File). is_bgp_wanted tracked files s p is.item.bgp f
          && option_map_or (is_igp_wanted files s tables p is.item.unknown f) (slot_at tables p.router p.len) false)
          (slice_get files p.router) false) used
          ∙ ap (λ o. option_map_or (λ (f : File). is_bgp_wanted tracked files s p is.item.bgp f
          && option_map_or (is_igp_wanted files s tables p is.item.unknown f) (slot_at tables p.router p.len) false) o
          false) file.1) ∙ is.passes in
          let bgp = (and_parts (is_bgp_wanted tracked files s p is.item.bgp file.0) _ asked).0 in
          let decided = (and_parts (option_map_or (has_all_marks tracked) is.item.bgp true) _ bgp).1 in
          ap (λ b. not b || is_decided_at tracked files failures announced (slots_for s p.len) p.router
          (prefix_at packet.dst p.len)) used
          ∙ decided_is p.router p.len file.0 is.item file.1 within.0 within.1 used is.is ∙ decided
