-- The world that is made of shapes that hold is real; and the shapes of a stable routing hold.
use Rattle.std.proofs.Common.{◌≡◌, ℕ, ◌+◌, ◌*◌, ◌/◌, ◌%◌, ◌<◌, ◌==◌, ◌&&◌, Bool, true, false, List}
use Rattle.std.proofs.Common.{length, map, Option, Some, None, refl, sym, ap, ◌∙◌, subst, arith}
use Rattle.std.specs.Prelude.{All, IfSome, option_and_then, option_map, slice_get}
use Rattle.std.specs.List.{enumerate_from, list_all}
use Rattle.std.specs.Option.{option_map_or}
use Rattle.std.proofs.lemmas.Bool.{and_from, and_parts, eq-eqb, eqb-true}
use Rattle.std.proofs.lemmas.List.{length-map}
use Rattle.std.proofs.lemmas.List.FromFn.{length-enumerate_from}
use Rattle.std.proofs.lemmas.Option.{get_or_from_slice_get, slice_get-map, slice_get_within}
use Rattle.mw_text.specs.declared.address.Prefix.{Prefix}
use Rattle.mw_text.specs.Address.{prefix_at}
use Rattle.mw_text.proofs.Lists.{all_found, item_there, list_ext}
use Rattle.mw_text.proofs.Found.{mapped}
use Rattle.ios_ast.specs.declared.file.File.{File}
use Rattle.ios_ast.specs.Limits.{keeps_limits}
use Rattle.route_record.specs.declared.BgpRec.{BgpRec}
use Rattle.route_record.specs.declared.Environment.{Environment}
use Rattle.route_record.specs.declared.Slot.{Slot}
use Rattle.route_record.specs.declared.Tables.{Tables}
use Rattle.route_record.specs.declared.TheConstants.{LENGTHS}
use Rattle.route_record.specs.declared.tracked.Tracked.{Tracked}
use Rattle.route_record.specs.declared.World.{World}
use Rattle.route_record.specs.Places.{slot_at}
use Rattle.net_interfaces.proofs.Options.{chained, if_is}
use Rattle.net_parts.specs.Stable.{Stable}
use Rattle.net_parts.specs.Tracked.{TracksNet}
use Rattle.net_parts.specs.World.{IsEnvironment}
use Rattle.route_shapes.specs.Bgp.{BgpShape}
use Rattle.bgp_shapes.specs.Candidates.{ShapeSlot, environment_shape, slot_shape, slots_shape}
use Rattle.announced_shapes.specs.Environments.{IsShapeEnvironment, rebuilt_environment}
use Rattle.announced_shapes.proofs.EnvironmentLaw.{environment_again, environment_may, environment_shapes}
use Rattle.rebuilt_routes.specs.Words.{HasWordNumbers, HasWordValues}
use Rattle.rebuilt_routes.proofs.RoutesFit.{route_fits}
use Rattle.rebuilt_routes.proofs.ShapesFollow.{all_follow}
use Rattle.route_record.specs.Fits.{FitsBgp}
use Rattle.rebuilt_routes.specs.Deciding.{AreDecided, AreDecidedShapes, HaveRealRoutes, is_decided_shape}
use Rattle.rebuilt_routes.specs.Following.{AllFollow, held_at, real_routes, slot_with}
use Rattle.rebuilt_routes.proofs.RoutesDecided.{are_decided}
use Rattle.rebuilt_routes.proofs.StableShapes.{shapes_decided}
use Rattle.shape_worlds.specs.Worlds.{IsRealWorld, ShapeWorld, environment_of, has_all_marks, is_decided_at}
use Rattle.shape_worlds.specs.Worlds.{may_be_announced, real_slot, rebuilt_tables, rebuilt_world, shape_holds, shapes_of}
use Rattle.shape_worlds.specs.Worlds.{slot_holds, slots_for}
use Rattle.shape_worlds.proofs.Tested.{at_place, environment_passes, environment_tested, from_places, marks_pass}
use Rattle.shape_worlds.proofs.Tested.{marks_tested, numbered_at}

-- ---- places

pub len_at : (router len : ℕ) → len < 33 → (33 * router + len) % 33 ≡ len
len_at router len below = omega (arith, below)

pub router_at : (router len : ℕ) → len < 33 → (33 * router + len) / 33 ≡ router
router_at router len below = omega (arith, below)

pub place_of : (k : ℕ) → 33 * (k / 33) + k % 33 ≡ k
place_of k = omega arith

pub len_small : (k : ℕ) → k % 33 < 33
len_small k = omega arith

-- ---- from shapes

module _ (tracked : Tracked) (files : List File) (s : ShapeWorld) (net : TracksNet files tracked)
    (limits : list_all keeps_limits files ≡ true) (holds : shape_holds tracked files s ≡ true) where
  environment : Environment
  environment = environment_of tracked s

  tests : (may_be_announced files tracked s.environment ≡ true)
      × (((length s.slots == LENGTHS * length files)
      && list_all (slot_holds tracked files s) (enumerate_from 0 s.slots)) ≡ true)
  unfolding shape_holds
  tests = and_parts (may_be_announced files tracked s.environment) _ holds

  announced : IsShapeEnvironment files tracked s.environment
  announced = environment_tested files tracked s.environment tests.0

  environment_same : environment_shape tracked (rebuilt_environment tracked s.environment) ≡ s.environment
  environment_same =
      environment_again files tracked s.environment net.numbers_ascend net.communities_ascend announced

  places : (length s.slots ≡ LENGTHS * length files)
      × (list_all (slot_holds tracked files s) (enumerate_from 0 s.slots) ≡ true)
  places =
      let both = and_parts (length s.slots == LENGTHS * length files)
      (list_all (slot_holds tracked files s) (enumerate_from 0 s.slots)) tests.1 in
      (eqb-true (length s.slots) (LENGTHS * length files) both.0, both.1)

  -- the test at a place
  slot_there : (router len : ℕ) → len < LENGTHS → (slot : ShapeSlot) → slots_for s len router ≡ Some slot →
      slot_holds tracked files s (LENGTHS * router + len, slot) ≡ true
  slot_there router len below slot there =
      let place : 0 + (LENGTHS * router + len) ≡ LENGTHS * router + len = omega arith in
      ap (λ k. slot_holds tracked files s (k, slot)) (sym place)
      ∙ at_place (slot_holds tracked files s) 0 s.slots places.1 (LENGTHS * router + len) slot there

  router_within : (router len : ℕ) (slot : ShapeSlot) → slots_for s len router ≡ Some slot → router < length files
  router_within router len slot there =
      let within = slice_get_within s.slots (LENGTHS * router + len) slot there in
      let size = places.0 in
      omega (arith, within, size)

  p : ℕ → Prefix
  p len = prefix_at s.packet.dst len

  pub decided_shapes : (len : ℕ) → len < LENGTHS →
      AreDecidedShapes tracked files s.failures s.environment (slots_for s len) (prefix_at s.packet.dst len)
  decided_shapes len below = record {
    within = λ router slot there. router_within router len slot there;
    marks = λ router shape is.
        let slot = chained (λ (x : ShapeSlot). x.bgp) (slots_for s len router) shape is in
        marks_tested tracked shape
        (sym (ap (λ o. option_map_or (has_all_marks tracked) o true) slot.2)
        ∙ (and_parts (option_map_or (has_all_marks tracked) slot.0.bgp true)
        (is_decided_at tracked files s (LENGTHS * router + len, slot.0))
        (slot_there router len below slot.0 slot.1)).0);
    decided = λ router file slot found there. decided_here router file slot found there;
  }
    where
      decided_here : (router : ℕ) (file : File) (slot : ShapeSlot) → slice_get files router ≡ Some file →
          slots_for s len router ≡ Some slot →
          is_decided_shape tracked files s.failures s.environment (slots_for s len) router file
          (prefix_at s.packet.dst len) slot.bgp ≡ true
      decided_here router file slot found there =
          let test : ℕ → ℕ → Option File → Bool = λ l r o. option_map_or (λ (f : File).
          is_decided_shape tracked files s.failures s.environment (slots_for s l) r f (prefix_at s.packet.dst l)
          slot.bgp) o false in
          let here = (and_parts (option_map_or (has_all_marks tracked) slot.bgp true)
          (is_decided_at tracked files s (LENGTHS * router + len, slot)) (slot_there router len below slot there)).1 in
          let of_len = len_at router len below in
          let of_router = router_at router len below in
          sym (ap (test len router) found) ∙ sym (λ i. test (of_len i) (of_router i) (slice_get files (of_router i)))
          ∙ here

  abbrev tables : Tables
  tables = rebuilt_tables tracked files s

  have : (len : ℕ) → len < LENGTHS →
      HaveRealRoutes tracked files (environment_of tracked s) (slots_for s len) (prefix_at s.packet.dst len)
      (rebuilt_tables tracked files s)
  unfolding rebuilt_tables
  have len below router =
      let k = LENGTHS * router + len in
      let of_len = len_at router len below in
      let of_router = router_at router len below in
      let place : 0 + k ≡ k = omega arith in
      let route : ℕ → ℕ → Option BgpRec = λ l r. real_routes tracked files (environment_of tracked s) (slots_for s l)
      (prefix_at s.packet.dst l) r in
      slice_get-map (real_slot tracked files s) (enumerate_from 0 s.slots) k
      ∙ ap (option_map (real_slot tracked files s)) (numbered_at 0 s.slots k
      ∙ ap (λ m. option_map (λ (x : ShapeSlot). (m, x)) (slice_get s.slots k)) place)
      ∙ by k (slice_get s.slots k)
      ∙ (λ i. option_map (slot_with (route (of_len i) (of_router i))) (slice_get s.slots k))
    where
      by : (k : ℕ) (o : Option ShapeSlot) →
          option_map (real_slot tracked files s) (option_map (λ (x : ShapeSlot). (k, x)) o)
          ≡ option_map (slot_with (real_routes tracked files (environment_of tracked s) (slots_for s (k % LENGTHS))
          (prefix_at s.packet.dst (k % LENGTHS)) (k / LENGTHS))) o
      by k None = refl
      by k (Some slot) = refl

  decided_tables : (len : ℕ) → len < LENGTHS →
      AreDecided tracked files s.failures (environment_of tracked s) (slots_for s len) (prefix_at s.packet.dst len)
      (rebuilt_tables tracked files s)
  decided_tables len below =
      are_decided tracked files s.failures (environment_of tracked s) (slots_for s len) (prefix_at s.packet.dst len) net
      limits
      (subst (λ e. AreDecidedShapes tracked files s.failures e (slots_for s len) (prefix_at s.packet.dst len))
      (sym environment_same) (decided_shapes len below)) (rebuilt_tables tracked files s) (have len below)

  -- ---- what fits

  follow : (len : ℕ) → len < LENGTHS →
      AllFollow tracked files (environment_of tracked s) (slots_for s len) (prefix_at s.packet.dst len)
  follow len below =
      all_follow tracked files s.failures (environment_of tracked s) (slots_for s len) (prefix_at s.packet.dst len) net
      limits
      (subst (λ e. AreDecidedShapes tracked files s.failures e (slots_for s len) (prefix_at s.packet.dst len))
      (sym environment_same) (decided_shapes len below))

  number_fits : All (λ (slot : ShapeSlot). IfSome slot.bgp HasWordNumbers) s.slots → (len router : ℕ) (t : BgpShape) →
      held_at (slots_for s len) router ≡ Some t → HasWordNumbers t
  number_fits all len router t holds =
      let slot = chained (λ (x : ShapeSlot). x.bgp) (slots_for s len router) t holds in
      if_is HasWordNumbers slot.0.bgp t
      (all_found (λ (x : ShapeSlot). IfSome x.bgp HasWordNumbers) s.slots (LENGTHS * router + len) slot.0 all slot.1)
      slot.2

  pub routes_fit : HasWordValues tracked files → All (λ (slot : ShapeSlot). IfSome slot.bgp HasWordNumbers) s.slots →
      All (λ (slot : Slot). IfSome slot.bgp FitsBgp) (rebuilt_tables tracked files s).slots
  routes_fit values numbers k d within =
      let found = item_there (rebuilt_tables tracked files s).slots k within in
      subst (λ (slot : Slot). IfSome slot.bgp FitsBgp)
      (sym (get_or_from_slice_get (rebuilt_tables tracked files s).slots k found.0 d found.1)) (by found.0 found.1)
    where
      by : (slot : Slot) → slice_get (rebuilt_tables tracked files s).slots k ≡ Some slot → IfSome slot.bgp FitsBgp
      by slot there =
          let here : slot_at (rebuilt_tables tracked files s) (k / LENGTHS) (k % LENGTHS) ≡ Some slot =
          ap (slice_get (rebuilt_tables tracked files s).slots) (place_of k) ∙ there in
          let shape = mapped (slot_with (real_routes tracked files (environment_of tracked s)
          (slots_for s (k % LENGTHS)) (prefix_at s.packet.dst (k % LENGTHS)) (k / LENGTHS)))
          (slots_for s (k % LENGTHS) (k / LENGTHS)) slot
          (sym (have (k % LENGTHS) (len_small k) (k / LENGTHS)) ∙ here) in
          by_route slot.bgp (ap (λ (x : Slot). x.bgp) (sym shape.2))
        where
          by_route : (o : Option BgpRec) → o
              ≡ real_routes tracked files (environment_of tracked s) (slots_for s (k % LENGTHS))
              (prefix_at s.packet.dst (k % LENGTHS)) (k / LENGTHS) → IfSome o FitsBgp
          by_route None is = tt
          by_route (Some rec) is =
              route_fits tracked files (environment_of tracked s) (slots_for s (k % LENGTHS))
              (prefix_at s.packet.dst (k % LENGTHS)) net limits (follow (k % LENGTHS) (len_small k)) values
              (environment_may files tracked s.environment net.numbers_ascend net.communities_ascend announced)
              (λ router t holds. number_fits numbers (k % LENGTHS) router t holds) (k / LENGTHS) rec (sym is)

  size : length (rebuilt_tables tracked files s).slots ≡ LENGTHS * length files
  unfolding rebuilt_tables
  size =
      length-map (enumerate_from 0 s.slots) (real_slot tracked files s) ∙ length-enumerate_from 0 s.slots ∙ places.0

  slots_same : map (slot_shape tracked) (rebuilt_tables tracked files s).slots ≡ s.slots
  slots_same =
      list_ext (map (slot_shape tracked) (rebuilt_tables tracked files s).slots) s.slots
      (length-map (rebuilt_tables tracked files s).slots (slot_shape tracked) ∙ size ∙ sym places.0) agree
    where
      agree : (k : ℕ) (x y : ShapeSlot) →
          slice_get (map (slot_shape tracked) (rebuilt_tables tracked files s).slots) k ≡ Some x →
          slice_get s.slots k ≡ Some y → x ≡ y
      agree k x y made there =
          let place = place_of k in
          let same = (decided_tables (k % LENGTHS) (len_small k)).shaped (k / LENGTHS) in
          let one : Some x ≡ Some y =
          sym made ∙ slice_get-map (slot_shape tracked) (rebuilt_tables tracked files s).slots k
          ∙ sym (ap (λ m. option_map (slot_shape tracked) (slice_get (rebuilt_tables tracked files s).slots m)) place)
          ∙ same ∙ ap (slice_get s.slots) place ∙ there in
          cc

  pub is_real : IsRealWorld tracked files s (rebuilt_world tracked files s) (environment_of tracked s)
  is_real = record {
    shapes = let slots = slots_same in let env = environment_same in
        λ i. record { packet = s.packet; failures = s.failures; slots = slots i; environment = env i };
    environment_may = environment_may files tracked s.environment net.numbers_ascend net.communities_ascend announced;
    size = size;
    decided = λ router len file slot found below there.
        (decided_tables len below).decided router file slot found there;
  }

-- ---- from a stable routing

pub stable_holds : (tracked : Tracked) (files : List File) (world : World) (environment : Environment) →
    TracksNet files tracked → list_all keeps_limits files ≡ true → IsEnvironment files environment →
    Stable files world.packet.dst world.failures environment world.tables →
    shape_holds tracked files (shapes_of tracked world environment) ≡ true
unfolding shape_holds
stable_holds tracked files world environment net limits may stable =
    and_from (may_be_announced files tracked (environment_shape tracked environment)) _
    (environment_passes files tracked (environment_shape tracked environment)
    (environment_shapes files tracked environment net.numbers_ascend may))
    (and_from (length s.slots == LENGTHS * length files)
    (list_all (slot_holds tracked files s) (enumerate_from 0 s.slots))
    (eq-eqb (length s.slots) (LENGTHS * length files) (length-map world.tables.slots (slot_shape tracked) ∙ stable.size))
    (from_places (slot_holds tracked files s) 0 s.slots each))
  where
    s : ShapeWorld
    s = shapes_of tracked world environment

    at_len : (len : ℕ) → len < LENGTHS →
        AreDecidedShapes tracked files world.failures (environment_shape tracked environment)
        (slots_shape tracked world.tables len) (prefix_at world.packet.dst len)
    at_len len below =
        shapes_decided files world.packet.dst world.failures environment world.tables stable len below tracked net limits

    slots_here : (len router : ℕ) → slots_shape tracked world.tables len router ≡ slots_for s len router
    slots_here len router = sym (slice_get-map (slot_shape tracked) world.tables.slots (LENGTHS * router + len))

    shapes : (len : ℕ) → len < LENGTHS →
        AreDecidedShapes tracked files world.failures (environment_shape tracked environment) (slots_for s len)
        (prefix_at world.packet.dst len)
    shapes len below =
        subst (λ slots. AreDecidedShapes tracked files world.failures (environment_shape tracked environment) slots
        (prefix_at world.packet.dst len)) (λ i router. slots_here len router i) (at_len len below)

    marks_here : (len router : ℕ) → len < LENGTHS → (slot : ShapeSlot) → slots_for s len router ≡ Some slot →
        (o : Option BgpShape) → slot.bgp ≡ o → option_map_or (has_all_marks tracked) o true ≡ true
    marks_here len router below slot there None is = refl
    marks_here len router below slot there (Some shape) is =
        marks_pass tracked shape ((shapes len below).marks router shape
        (ap (option_and_then (λ (x : ShapeSlot). x.bgp)) there ∙ is))

    each : (k : ℕ) (slot : ShapeSlot) → slice_get s.slots k ≡ Some slot →
        slot_holds tracked files s (0 + k, slot) ≡ true
    each k slot there =
        let zero_first : 0 + k ≡ k = omega arith in
        ap (λ m. slot_holds tracked files s (m, slot)) zero_first
        ∙ and_from (option_map_or (has_all_marks tracked) slot.bgp true) (is_decided_at tracked files s (k, slot))
        (marks_here (k % LENGTHS) (k / LENGTHS) (len_small k) slot here slot.bgp refl) decides
      where
        here : slots_for s (k % LENGTHS) (k / LENGTHS) ≡ Some slot
        here = ap (slice_get s.slots) (place_of k) ∙ there

        within : k / LENGTHS < length files
        within = (shapes (k % LENGTHS) (len_small k)).within (k / LENGTHS) slot here

        decides : is_decided_at tracked files s (k, slot) ≡ true
        decides =
            let file = item_there files (k / LENGTHS) within in
            ap (λ o. option_map_or (λ (f : File). is_decided_shape tracked files s.failures s.environment
            (slots_for s (k % LENGTHS)) (k / LENGTHS) f (prefix_at s.packet.dst (k % LENGTHS)) slot.bgp) o false) file.1
            ∙ (shapes (k % LENGTHS) (len_small k)).decided (k / LENGTHS) file.0 slot file.1 here
