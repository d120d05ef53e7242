-- What is made of what is open at the places of a plan.
use Rattle.std.proofs.Common.{◌≡◌, ◌*◌, ◌≤◌, ℕ, subst, List, Option, None, length, map, sym, ap, ◌∙◌}
use Rattle.bgp_variables.specs.Rooms.{bgp_rooms}
use Rattle.std.specs.Prelude.{option_map, if◌then◌else◌}
use Rattle.route_record.specs.declared.Plan.{Plan}
use Rattle.route_record.specs.declared.TheConstants.{LENGTHS}
use Rattle.route_shapes.specs.Bgp.{BgpShape}
use Rattle.plan_places.specs.declared.places.Place.{Place}
use Rattle.plan_places.specs.Places.{item_at, places_below}
use Rattle.plan_places.specs.Plans.{lens_of}
use Rattle.plan_places.proofs.PlaceSteps.{lens_few, places-length}
use Rattle.std.proofs.lemmas.List.{length-map}
use Rattle.slot_places.specs.Rooms.{can_be_used}
use Rattle.world_variables.specs.declared.unknowns.Unknown.{Unknown}
use Rattle.world_variables.specs.Worlds.{opens_from as unknowns_read_from, places_in, slots_start}
use Rattle.world_variables.proofs.DecodingSteps.{many_unknowns}
use Rattle.bgp_values.specs.Told.{as_told}
use Rattle.routing_worlds.specs.Worlds.{bgps_read_from, bgps_start}
use Rattle.path_rebuild.specs.declared.ShapeRec.{ShapeRec}
use Rattle.path_rebuild.specs.Shapes.{route_of}
use Rattle.bgp_decoding.specs.Decoded.{Given, destination_of, failures_of, held_at, slot_at, told_at, told_of}
use Rattle.bgp_decoding.specs.Placed.{full_places, thing_in}
use Rattle.bgp_decoding.specs.Slots.{learnt_of, slot_without}
use Rattle.bgp_decoding.proofs.SlotSteps.{routes_many}
use Rattle.bgp_decoding.proofs.Placed.{learnt_same, map_equal, thing_map}

-- slices stand at no more lengths than there are
pub lens_short : (plan : Plan) (lens : List ℕ) → lens ≡ lens_of plan → length lens ≤ LENGTHS
lens_short plan lens is = subst (λ ls. length ls ≤ LENGTHS) (sym is) (lens_few plan)

-- what is open of OSPF is as much as the places of the plan
pub open_many : (g : Given) (us : List Unknown) (lens : List ℕ) →
    us ≡ unknowns_read_from g.files g.question g.plan g.values 0 → lens ≡ lens_of g.plan →
    length us ≡ length g.files * length lens
unfolding unknowns_read_from
open_many g us lens is lens_is =
    ap length is ∙ many_unknowns g.files g.question.packets.dst g.plan g.values (slots_start g.files g.question 0)
    ∙ ap (λ ls. length g.files * length ls) (sym lens_is)

module _ (g : Given) (told : List (Option ShapeRec)) (is : map (option_map (route_of g.tracked)) told ≡ told_of g) where
  thing_is : (p : Place) → option_map (route_of g.tracked) (thing_in (lens_of g.plan) (length g.files) told p) ≡ told_at g p
  thing_is p =
      thing_map (route_of g.tracked) (lens_of g.plan) (length g.files) told p
      ∙ ap (λ ts. thing_in (lens_of g.plan) (length g.files) ts p) is

  -- there are as many as the places of the plan
  pub told_many : length told ≡ length g.files * length (lens_of g.plan)
  told_many =
      sym (length-map told (option_map (route_of g.tracked))) ∙ ap length is
      ∙ length-map (bgps_read_from g.files g.tracked g.question g.plan g.values 0) (option_map as_told)
      ∙ routes_many (bgp_rooms g.tracked g.files (places_in g.files g.plan)) g.values (bgps_start g.files g.question g.plan 0)
      ∙ length-map (places_in g.files g.plan) _ ∙ places-length (lens_of g.plan) (length g.files)

  pub told_long : (ts : List (Option ShapeRec)) (lens : List ℕ) → ts ≡ told → lens ≡ lens_of g.plan →
      length ts ≡ length g.files * length lens
  told_long ts lens ts_is lens_is =
      ap length ts_is ∙ told_many ∙ ap (λ ls. length g.files * length ls) (sym lens_is)

  -- the slots
  pub slots_are : map (λ p. slot_without g.files g.question.packets.dst (failures_of g) (destination_of g) p
      (item_at (places_below (lens_of g.plan) (length g.files)) (unknowns_read_from g.files g.question g.plan g.values 0)
      p.router p.len) (learnt_of (thing_in (lens_of g.plan) (length g.files) told p))) (full_places (length g.files))
      ≡ map (slot_at g) (full_places (length g.files))
  slots_are = map_equal _ (slot_at g) each (full_places (length g.files))
    where
      each : (p : Place) → slot_without g.files g.question.packets.dst (failures_of g) (destination_of g) p
          (item_at (places_below (lens_of g.plan) (length g.files))
          (unknowns_read_from g.files g.question g.plan g.values 0) p.router p.len)
          (learnt_of (thing_in (lens_of g.plan) (length g.files) told p)) ≡ slot_at g p
      each p = ap (slot_without g.files g.question.packets.dst (failures_of g) (destination_of g) p
          (item_at (places_below (lens_of g.plan) (length g.files))
          (unknowns_read_from g.files g.question g.plan g.values 0) p.router p.len))
          (learnt_same g.tracked (thing_in (lens_of g.plan) (length g.files) told p)
          ∙ ap (option_map (λ (s : BgpShape). s.from)) (thing_is p))

  -- and their routes
  pub routes_are : map (λ p. if can_be_used g.files g.question.packets.dst p.router p.len
      then option_map (route_of g.tracked) (thing_in (lens_of g.plan) (length g.files) told p) else None)
      (full_places (length g.files)) ≡ map (held_at g) (full_places (length g.files))
  routes_are = map_equal _ (held_at g) (λ p. ap (λ (o : Option BgpShape).
      if can_be_used g.files g.question.packets.dst p.router p.len then o else None) (thing_is p))
      (full_places (length g.files))
