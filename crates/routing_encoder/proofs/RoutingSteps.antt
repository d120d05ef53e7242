-- The conjuncts of a formula are together the test that its variables are a routing.
use Rattle.std.proofs.Common.{◌≡◌, ℕ, ◌<◌, ◌&&◌, Bool, true, false, List, length}
use Rattle.std.proofs.Common.{Some, None, refl, sym, ap, subst, ◌∙◌}
use Rattle.std.specs.Prelude.{AllPairs, nat_le, option_map, if◌then◌else◌}
use Rattle.std.specs.Option.{option_map_or}
use Rattle.std.proofs.lemmas.Bool.{and_from, and_parts, eq-eqb}
use Rattle.std.proofs.lemmas.List.{length-map}
use Rattle.std.proofs.lemmas.Option.{same_Some}
use Rattle.ios_ast.specs.declared.file.File.{File}
use Rattle.route_record.specs.declared.Plan.{Plan}
use Rattle.route_record.specs.declared.TheConstants.{LENGTHS}
use Rattle.route_record.specs.declared.tracked.Tracked.{Tracked}
use Rattle.bgp_shapes.specs.Candidates.{ShapeSlot}
use Rattle.plan_places.specs.Places.{IsBefore, has_place, item_at, places_of}
use Rattle.plan_places.specs.Plans.{lens_of}
use Rattle.question_lang.specs.declared.question.Question.{Question}
use Rattle.slot_places.specs.Rooms.{can_be_used}
use Rattle.net_interfaces.proofs.Options.{if_is}
use Rattle.term_store.specs.Terms.{Reading, Store, at}
use Rattle.sym_policy.specs.declared.records.SymBgp.{SymBgp}
use Rattle.sym_policy.specs.Held.{bgp_at, bgp_of}
use Rattle.sym_rib.specs.declared.slots.SymSlot.{SymSlot}
use Rattle.sym_policy.specs.MapRecs.{HasTracked}
use Rattle.world_variables.specs.Packets.{is_in_set, packet_from}
use Rattle.world_variables.specs.Worlds.{places_in}
use Rattle.world_variables.proofs.Stability.{item_all}
use Rattle.bgp_equations.specs.Equations.{HaveTracked, slot_read}
use Rattle.bgp_variables.specs.Environments.{announced_from, ids_from}
use Rattle.shape_worlds.specs.Worlds.{ShapeWorld, has_all_marks, may_be_announced, rebuilt_tables}
use Rattle.bgp_worlds.specs.Opens.{OpenSlot, open_shape, shape_world_of}
use Rattle.bgp_worlds.proofs.BgpSound.{AreBgpWanted, open_there, real, slot_here}
use Rattle.routing_worlds.specs.Worlds.{HasWordNetwork, announced_by, environment_start, failures_read_from, is_routing}
use Rattle.routing_worlds.specs.Worlds.{opens_from, shape_world_from}
use Rattle.routing_worlds.proofs.EnvironmentRead.{announced_at_slices}
use Rattle.routing_worlds.proofs.RoutingSound.{shapes_are}
use Rattle.routing_encoder.specs.declared.opening.OpenRouting.{OpenRouting}
use Rattle.routing_encoder.specs.Decided.{are_decided}
use Rattle.routing_encoder.specs.Opened.{ReadsAs, StandsIn}
use Rattle.routing_encoder.specs.Shapes.{ReadAsShapes}
use Rattle.routing_encoder.specs.Wanted.{HasShapes, are_wanted}
use Rattle.routing_encoder.proofs.Halves.{announced_half, are_bgp, both_halves, decided_half, placed_has, thing_there, wanted_half}
use Rattle.routing_encoder.proofs.OpeningSteps.{places_are}
use Rattle.routing_encoder.proofs.WantedSteps.{opens_many}

-- ---- marks

-- a route with a node for each tracked value has a mark for each
pub marks_read : (w : Reading) (tracked : Tracked) (s : SymBgp) → HasTracked tracked s →
    option_map_or (has_all_marks tracked) (bgp_of w s) true ≡ true
marks_read w tracked s has = by (at w s.valid) where
  marks : has_all_marks tracked (bgp_at w s) ≡ true
  marks =
      and_from _ _
      (eq-eqb _ (length tracked.numbers) (length-map s.numbers.nodes.items (at w) ∙ has.numbers))
      (and_from _ _
      (eq-eqb _ (length tracked.communities) (length-map s.communities.nodes.items (at w) ∙ has.communities))
      (eq-eqb _ (length tracked.clusters) (length-map s.clusters.nodes.items (at w) ∙ has.clusters)))

  by : (b : Bool) → option_map_or (has_all_marks tracked) (if b then Some (bgp_at w s) else None) true ≡ true
  by true = marks
  by false = refl

module _ (w : Reading) (files : List File) (tracked : Tracked) (question : Question) (plan : Plan) (from : ℕ)
    (t : Store) (made : OpenRouting) (slots : List SymSlot) (stands : StandsIn files tracked question plan t made)
    (read : ReadsAs files tracked question plan from w made) (long : length slots ≡ length made.frame.places)
    (rows : HaveTracked tracked slots) (shapes : ReadAsShapes files tracked question plan from w slots) where
  places : made.frame.places ≡ places_in files plan
  places = places_are files tracked plan made.frame stands.frame

  as_many : length (opens_from files tracked question plan w.variable from) ≡ length (places_of plan (length files))
  as_many = opens_many w files tracked question plan from t made stands read ∙ ap length places

  order : AllPairs IsBefore (places_of plan (length files))
  order = subst (λ ps. AllPairs IsBefore ps) places stands.frame.ascend

  -- the BGP route of a slot where something can stand has its marks, since its nodes have
  marked : (router len : ℕ) (o : OpenSlot) → router < length files → len < LENGTHS →
      can_be_used files question.packets.dst router len ≡ true →
      item_at (places_of plan (length files)) (opens_from files tracked question plan w.variable from) router len
      ≡ Some o → option_map_or (has_all_marks tracked) o.bgp true ≡ true
  unfolding shape_world_from
  marked router len o within below used is =
      subst (λ x. option_map_or (has_all_marks tracked) x true ≡ true)
      (ap (λ (x : ShapeSlot). x.bgp) (same_Some (slot_read w slot.0) (open_shape files (failures_read_from files question w.variable from)
      (packet_from question.packets w.variable from).dst router len o) shape))
      (marks_read w tracked slot.0.bgp
      (if_is (λ (x : SymSlot). HasTracked tracked x.bgp) (item_at (places_in files plan) slots router len) slot.0
      (item_all (λ (x : SymSlot). HasTracked tracked x.bgp) (places_in files plan) slots router len rows) slot.1))
    where
      has : has_place (places_in files plan) router len ≡ true
      has = placed_has (places_in files plan) (opens_from files tracked question plan w.variable from) router len o is

      slot : (x : SymSlot) × (item_at (places_in files plan) slots router len ≡ Some x)
      slot = thing_there (places_in files plan) slots router len (long ∙ ap length places) has

      shape : Some (slot_read w slot.0) ≡ Some (open_shape files (failures_read_from files question w.variable from)
          (packet_from question.packets w.variable from).dst router len o)
      shape =
          sym (ap (option_map (slot_read w)) slot.1)
          ∙ shapes router len within below has
          ∙ slot_here files question.packets.dst plan (packet_from question.packets w.variable from)
          (failures_read_from files question w.variable from) (opens_from files tracked question plan w.variable from)
          (announced_by files tracked question plan w.variable from) router len within below
          ∙ ap Some (open_there files question.packets.dst plan (packet_from question.packets w.variable from)
          (failures_read_from files question w.variable from) (opens_from files tracked question plan w.variable from)
          (announced_by files tracked question plan w.variable from) router len o used is)

  module _ (fits : HasWordNetwork files tracked question) where
    bgp_half : may_be_announced files tracked (announced_by files tracked question plan w.variable from) ≡ true →
        are_decided tracked files question.packets.dst
        (shape_world_from files tracked question plan w.variable from) made.frame.places ≡ true →
        AreBgpWanted tracked files question.packets.dst plan (shape_world_of files question.packets.dst plan
        (packet_from question.packets w.variable from) (failures_read_from files question w.variable from)
        (opens_from files tracked question plan w.variable from)
        (announced_by files tracked question plan w.variable from))
        (opens_from files tracked question plan w.variable from)
    unfolding shape_world_from
    bgp_half may decided =
        are_bgp tracked files question.packets.dst plan (packet_from question.packets w.variable from)
        (failures_read_from files question w.variable from) (opens_from files tracked question plan w.variable from)
        (announced_by files tracked question plan w.variable from) as_many order may marked
        (subst (λ ps. are_decided tracked files question.packets.dst
        (shape_world_from files tracked question plan w.variable from) ps ≡ true) places decided)

    -- where the BGP half holds, the tables that are made of the shapes have them
    pub tables_shaped : may_be_announced files tracked (announced_by files tracked question plan w.variable from) ≡ true →
        are_decided tracked files question.packets.dst
        (shape_world_from files tracked question plan w.variable from) made.frame.places ≡ true →
        HasShapes tracked (rebuilt_tables tracked files (shape_world_from files tracked question plan w.variable from))
        (shape_world_from files tracked question plan w.variable from)
    unfolding shape_world_from
    tables_shaped may decided =
        ap (λ (s : ShapeWorld). s.slots)
        (real tracked files question.packets.dst plan (packet_from question.packets w.variable from)
        (failures_read_from files question w.variable from) (opens_from files tracked question plan w.variable from)
        (announced_by files tracked question plan w.variable from) fits.tracks fits.limits
        (announced_at_slices files plan (ids_from files w.variable (environment_start files tracked question plan from))
        (announced_from tracked files (lens_of plan) w.variable (environment_start files tracked question plan from)))
        (bgp_half may decided)).shapes

    -- both halves, a packet of the set and few failed links are a routing
    pub routing_by_parts : (is_in_set question.packets (packet_from question.packets w.variable from)
        && nat_le (length (failures_read_from files question w.variable from).links) question.failures) ≡ true →
        may_be_announced files tracked (announced_by files tracked question plan w.variable from) ≡ true →
        are_decided tracked files question.packets.dst
        (shape_world_from files tracked question plan w.variable from) made.frame.places ≡ true →
        are_wanted files question.packets.dst (shape_world_from files tracked question plan w.variable from)
        (rebuilt_tables tracked files (shape_world_from files tracked question plan w.variable from)) made.frame.places
        (opens_from files tracked question plan w.variable from) ≡ true →
        is_routing files tracked question plan w.variable from ≡ true
    unfolding is_routing shape_world_from
    routing_by_parts asked may decided wanted =
        let first = and_parts _ _ asked in
        and_from _ _ first.0 (and_from _ _ first.1
        (both_halves tracked files question.packets.dst plan (packet_from question.packets w.variable from)
        (failures_read_from files question w.variable from) (opens_from files tracked question plan w.variable from)
        (announced_by files tracked question plan w.variable from) as_many order (bgp_half may decided)
        (subst (λ ps. are_wanted files question.packets.dst (shape_world_from files tracked question plan w.variable from)
        (rebuilt_tables tracked files (shape_world_from files tracked question plan w.variable from)) ps
        (opens_from files tracked question plan w.variable from) ≡ true) places wanted)))

    -- ---- and a routing passes each

    pub record IsParted : Type 0 where
      pub asked : (is_in_set question.packets (packet_from question.packets w.variable from)
          && nat_le (length (failures_read_from files question w.variable from).links) question.failures) ≡ true
      pub announced : may_be_announced files tracked (announced_by files tracked question plan w.variable from) ≡ true
      pub decided : are_decided tracked files question.packets.dst
          (shape_world_from files tracked question plan w.variable from) made.frame.places ≡ true
      pub shaped : HasShapes tracked
          (rebuilt_tables tracked files (shape_world_from files tracked question plan w.variable from))
          (shape_world_from files tracked question plan w.variable from)
      pub wanted : are_wanted files question.packets.dst (shape_world_from files tracked question plan w.variable from)
          (rebuilt_tables tracked files (shape_world_from files tracked question plan w.variable from)) made.frame.places
          (opens_from files tracked question plan w.variable from) ≡ true

    pub parts_of_routing : is_routing files tracked question plan w.variable from ≡ true → IsParted
    unfolding is_routing shape_world_from
    parts_of_routing routing =
        let first = and_parts _ _ routing in
        let second = and_parts _ _ first.1 in
        let hold = second.1 in
        record {
          asked = and_from _ _ first.0 second.0;
          announced = announced_half tracked files question.packets.dst plan
              (packet_from question.packets w.variable from) (failures_read_from files question w.variable from)
              (opens_from files tracked question plan w.variable from)
              (announced_by files tracked question plan w.variable from) as_many order hold;
          decided = subst (λ ps. are_decided tracked files question.packets.dst
              (shape_world_from files tracked question plan w.variable from) ps ≡ true) (sym places)
              (decided_half tracked files question.packets.dst plan
              (packet_from question.packets w.variable from) (failures_read_from files question w.variable from)
              (opens_from files tracked question plan w.variable from)
              (announced_by files tracked question plan w.variable from) as_many order hold);
          shaped = ap (λ (s : ShapeWorld). s.slots)
              (shapes_are files tracked question plan w.variable from fits routing);
          wanted = subst (λ ps. are_wanted files question.packets.dst
              (shape_world_from files tracked question plan w.variable from)
              (rebuilt_tables tracked files (shape_world_from files tracked question plan w.variable from)) ps
              (opens_from files tracked question plan w.variable from) ≡ true) (sym places)
              (wanted_half tracked files question.packets.dst plan
              (packet_from question.packets w.variable from) (failures_read_from files question w.variable from)
              (opens_from files tracked question plan w.variable from)
              (announced_by files tracked question plan w.variable from) as_many order hold);
        }
