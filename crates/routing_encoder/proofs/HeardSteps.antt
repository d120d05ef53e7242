-- Where all places are decided with nothing looked at that silent routers hold, all are decided, and the other way round.
use Rattle.std.proofs.Common.{◌≡◌, ◌∙◌, ◌⊎◌, ◌<◌, ◌||◌, ℕ, Bool, true, false, not, List, length, Option, Some, None}
use Rattle.std.proofs.Common.{inl, inr, refl, sym, ap}
use Rattle.std.specs.Prelude.{slice_get}
use Rattle.std.specs.List.{list_all}
use Rattle.std.specs.Option.{option_map_or}
use Rattle.std.proofs.lemmas.Option.{same_Some, slice_get_within}
use Rattle.mw_text.specs.Members.{In}
use Rattle.mw_text.specs.declared.address.Prefix.{Prefix}
use Rattle.mw_text.specs.Address.{prefix_at}
use Rattle.ios_ast.specs.declared.file.File.{File}
use Rattle.route_record.specs.declared.Failures.{Failures}
use Rattle.route_record.specs.declared.Packet.{Packet}
use Rattle.route_record.specs.declared.Plan.{Plan}
use Rattle.route_record.specs.declared.TheConstants.{LENGTHS}
use Rattle.route_record.specs.declared.tracked.Tracked.{Tracked}
use Rattle.bgp_shapes.specs.Candidates.{ShapeEnvironment, ShapeSlot}
use Rattle.plan_places.specs.declared.places.Place.{Place}
use Rattle.plan_places.specs.Places.{has_place, place, places_of}
use Rattle.plan_places.specs.Plans.{lens_of}
use Rattle.question_lang.specs.declared.question.Question.{Question}
use Rattle.slot_places.specs.Rooms.{can_be_used}
use Rattle.slot_places.proofs.PlaceLaws.{has-in, in-lens, in-places}
use Rattle.world_variables.specs.Packets.{packet_from}
use Rattle.world_variables.specs.Worlds.{places_in}
use Rattle.rebuilt_routes.specs.Deciding.{is_decided_shape}
use Rattle.silent_routers.specs.Silent.{IsSettled, sending}
use Rattle.silent_routers.proofs.Heard.{decided_same}
use Rattle.shape_worlds.specs.Worlds.{ShapeWorld, slots_for}
use Rattle.bgp_worlds.specs.Opens.{OpenSlot, empty_shape, shape_world_of}
use Rattle.bgp_worlds.proofs.BgpSound.{empty_here, slot_here}
use Rattle.routing_worlds.specs.Worlds.{announced_by, failures_read_from, opens_from, shape_world_from}
use Rattle.bgp_equations.specs.Equations.{is_decided_among}
use Rattle.routing_encoder.specs.Decided.{are_decided, are_heard, is_decided_place, is_heard_place}
use Rattle.routing_encoder.proofs.DecidedSteps.{each_has}
use Rattle.routing_encoder.proofs.Halves.{all_by, all_placed}

module _ (tracked : Tracked) (files : List File) (destinations : Prefix) (plan : Plan) (packet : Packet)
    (failures : Failures) (opens : List OpenSlot) (announced : ShapeEnvironment) where
  abbrev s : ShapeWorld
  s = shape_world_of files destinations plan packet failures opens announced

  abbrev places : List Place
  places = places_of plan (length files)

  -- what is asked at a place where the others have such slots
  abbrev passes : (ℕ → ℕ → Option ShapeSlot) → Place → Bool
  passes others p =
      not (can_be_used files destinations p.router p.len)
      || is_decided_among tracked files failures announced (others p.len) (slots_for s p.len) p.router
      (prefix_at packet.dst p.len)

  settled : (others : ℕ → ℕ → Option ShapeSlot) (len : ℕ) → len < LENGTHS →
      ((router : ℕ) → router < length files → passes others (place router len) ≡ true) → (router : ℕ) →
      IsSettled tracked files failures announced (prefix_at packet.dst len) (others len) (slots_for s len) router
  settled others len short each router file slot found there =
      by (can_be_used files destinations router len) refl (each router within)
    where
      within : router < length files
      within = slice_get_within files router file found

      decided : File → ShapeSlot → Bool
      decided f x =
          is_decided_shape tracked files failures announced (others len) router f (prefix_at packet.dst len) x.bgp

      by : (b : Bool) → can_be_used files destinations router len ≡ b →
          (not b || is_decided_among tracked files failures announced (others len) (slots_for s len) router
          (prefix_at packet.dst len)) ≡ true → (slot.bgp ≡ None) ⊎ (decided file slot ≡ true)
      by false unused passed =
          inl (ap (λ (x : ShapeSlot). x.bgp) (same_Some slot empty_shape (sym there
          ∙ slot_here files destinations plan packet failures opens announced router len within short
          ∙ ap Some (empty_here files destinations plan packet failures opens announced router len unused))))
      by true used passed =
          inr (sym (ap (λ o. option_map_or (λ f. option_map_or (decided f) (slots_for s len router) false) o false) found
          ∙ ap (λ o. option_map_or (decided file) o false) there) ∙ passed)

  each_same : (others : ℕ → ℕ → Option ShapeSlot) → list_all (passes others) places ≡ true → (p : Place) →
      In p places →
      is_heard_place tracked files destinations s p ≡ is_decided_place tracked files destinations s p
  each_same others all p there =
      (λ i. not (can_be_used files destinations p.router p.len)
      || option_map_or (λ file. option_map_or (λ (slot : ShapeSlot).
      decided_same tracked files announced (slots_for s p.len) (prefix_at packet.dst p.len) failures (others p.len)
      each p.router file slot.bgp i) (slots_for s p.len p.router) false) (slice_get files p.router) false)
    where
      has : has_place places p.router p.len ≡ true
      has = has-in places p.router p.len there

      short : p.len < LENGTHS
      short = (in-lens plan LENGTHS p.len (in-places (lens_of plan) (length files) p there).1).0

      each : (router : ℕ) →
          IsSettled tracked files failures announced (prefix_at packet.dst p.len) (others p.len) (slots_for s p.len) router
      each =
          settled others p.len short (λ router within. all_placed (passes others) places router p.len all
          (each_has (lens_of plan) (length files) p.router p.len router has within))

  passes_at : (test : Place → Bool) → list_all test places ≡ true → (p : Place) → In p places → test p ≡ true
  passes_at test all p there = all_placed test places p.router p.len all (has-in places p.router p.len there)

  pub heard_same : are_heard tracked files destinations
      (shape_world_of files destinations plan packet failures opens announced) (places_of plan (length files))
      ≡ are_decided tracked files destinations
      (shape_world_of files destinations plan packet failures opens announced) (places_of plan (length files))
  heard_same =
      by (are_heard tracked files destinations s places) (are_decided tracked files destinations s places)
      (λ heard. all_by (is_decided_place tracked files destinations s) places (λ p there.
      sym (each_same (λ len. sending files (slots_for s len)) heard p there)
      ∙ passes_at (is_heard_place tracked files destinations s) heard p there))
      (λ decided. all_by (is_heard_place tracked files destinations s) places (λ p there.
      each_same (λ len. slots_for s len) decided p there
      ∙ passes_at (is_decided_place tracked files destinations s) decided p there))
    where
      by : (a b : Bool) → (a ≡ true → b ≡ true) → (b ≡ true → a ≡ true) → a ≡ b
      by true b there back = sym (there refl)
      by false true there back = back refl
      by false false there back = refl

-- so it is in the world of the variables, at the places of its frame
pub heard_frame : (tracked : Tracked) (files : List File) (question : Question) (plan : Plan) (v : ℕ → Bool) (from : ℕ)
    (ps : List Place) → ps ≡ places_in files plan →
    are_heard tracked files question.packets.dst (shape_world_from files tracked question plan v from) ps
    ≡ are_decided tracked files question.packets.dst (shape_world_from files tracked question plan v from) ps
unfolding shape_world_from
heard_frame tracked files question plan v from ps same =
    let world : ShapeWorld = shape_world_from files tracked question plan v from in
    ap (are_heard tracked files question.packets.dst world) same
    ∙ heard_same tracked files question.packets.dst plan (packet_from question.packets v from)
    (failures_read_from files question v from) (opens_from files tracked question plan v from)
    (announced_by files tracked question plan v from)
    ∙ sym (ap (are_decided tracked files question.packets.dst world) same)
