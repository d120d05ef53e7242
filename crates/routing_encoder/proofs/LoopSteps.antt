-- The loop over the slots of a routing.
use Rattle.std.proofs.Common.{◌≡◌, ℕ, zero, suc, ◌+◌, ◌<◌, ◌≤◌, List, [], ◌∷◌, ◌++◌, length, get_or, map, drop, Some, refl, sym, ap, arith}
use Rattle.std.proofs.Common.{◌∙◌}
use Rattle.std.specs.Prelude.{All, Option, slice_get}
use Rattle.std.proofs.lemmas.Grind.{common_steps}
use Rattle.std.proofs.lemmas.List.{append_assoc, append-nil, drop_all, drop_more, map-append}
use Rattle.std.proofs.lemmas.List.Elements.{All-push, All-nil}
use Rattle.std.proofs.lemmas.Option.{same_Some, slice_get-get_or, slice_get_within}
use Rattle.mw_text.specs.declared.address.Addr.{Addr}
use Rattle.mw_text.proofs.Lists.{all_found}
use Rattle.ios_ast.specs.declared.file.File.{File}
use Rattle.route_record.specs.declared.Failures.{Failures}
use Rattle.route_record.specs.declared.TheConstants.{LENGTHS}
use Rattle.route_record.specs.declared.tracked.Tracked.{Tracked}
use Rattle.route_shapes.specs.Bgp.{BgpShape}
use Rattle.bgp_shapes.specs.Candidates.{ShapeSlot}
use Rattle.plan_places.specs.declared.places.Place.{Place}
use Rattle.question_lang.specs.declared.question.Question.{Question}
use Rattle.slot_places.specs.Rooms.{room_for}
use Rattle.term_store.specs.Terms.{Reading}
use Rattle.sym_policy.specs.declared.records.SymBgp.{SymBgp}
use Rattle.sym_policy.specs.Held.{bgp_end}
use Rattle.sym_rib.specs.declared.slots.SymSlot.{SymSlot}
use Rattle.sym_policy.specs.MapRecs.{HasTracked}
use Rattle.sym_rib.specs.Into.{list_end}
use Rattle.sym_rib.proofs.SlotPlaces.{slots_end_push}
use Rattle.sym_rib.proofs.OneEach.{items_at}
use Rattle.world_variables.specs.declared.opens.SymOpen.{SymOpen}
use Rattle.world_variables.specs.declared.unknowns.Unknown.{Unknown}
use Rattle.world_variables.specs.Symbols.{open_end, opens_end}
use Rattle.bgp_equations.specs.Equations.{HaveTracked, slot_read}
use Rattle.bgp_worlds.specs.Opens.{OpenSlot}
use Rattle.routing_worlds.specs.Worlds.{open_with, opens_with}
use Rattle.routing_encoder.specs.Slots.{shapes_over}

pub slots_push : (w : Reading) (xs : List SymSlot) (x : SymSlot) →
    map (slot_read w) (xs ++ x ∷ []) ≡ map (slot_read w) xs ++ slot_read w x ∷ []
slots_push w xs x = map-append (slot_read w) xs (x ∷ [])

-- what is open of a slot has its nodes below the end of all, and so has a route
pub open_below : (xs : List SymOpen) (i : ℕ) (d : SymOpen) → i < length xs → open_end (get_or xs i d) ≤ opens_end xs
open_below [] i d within = absurd (omega arith)
open_below (x ∷ xs) zero d within = omega arith
open_below (x ∷ xs) (suc i) d within = let below = open_below xs i d (omega arith) in omega (arith, below)

pub route_below : (xs : List SymBgp) (i : ℕ) (d : SymBgp) → i < length xs →
    bgp_end (get_or xs i d) ≤ list_end bgp_end xs
route_below [] i d within = absurd (omega arith)
route_below (x ∷ xs) zero d within = omega arith
route_below (x ∷ xs) (suc i) d within = let below = route_below xs i d (omega arith) in omega (arith, below)

pub tracked_push : (tracked : Tracked) (xs : List SymSlot) (x : SymSlot) → HaveTracked tracked xs →
    HasTracked tracked x.bgp → HaveTracked tracked (xs ++ x ∷ [])
tracked_push tracked xs x before here = All-push (λ s. HasTracked tracked s.bgp) xs x before here

pub tracked_none : (tracked : Tracked) → HaveTracked tracked []
tracked_none tracked = All-nil (λ s. HasTracked tracked s.bgp)

-- a place of a list, and those from it on
pub place_drop : (ps : List Place) (i : ℕ) (p : Place) → slice_get ps i ≡ Some p → drop i ps ≡ p ∷ drop (i + 1) ps
place_drop ps i p there =
    let within = slice_get_within ps i p there in
    let is : get_or ps i p ≡ p = same_Some (get_or ps i p) p (sym (slice_get-get_or ps i p within) ∙ there) in
    drop_more ps i p within ∙ ap (λ x. x ∷ drop (i + 1) ps) is

pub place_short : (ps : List Place) (i : ℕ) (p : Place) → All (λ q. q.len < LENGTHS) ps → slice_get ps i ≡ Some p →
    p.len < LENGTHS
place_short ps i p short there = all_found (λ (q : Place). q.len < LENGTHS) ps i p short there

-- the next of what is open, and the slot that follows
pub over_next : (f : Place → OpenSlot → ShapeSlot) (files : List File) (question : Question) (failures : Failures)
    (d : Addr) (p : Place) (ps : List Place) (u : Unknown) (us : List Unknown) (b : Option BgpShape)
    (bs : List (Option BgpShape)) →
    shapes_over f (p ∷ ps) (opens_with files question failures d (p ∷ ps) (u ∷ us) (b ∷ bs))
    ≡ f p (open_with files failures d (room_for files question.packets.dst p.router p.len) p u b)
    ∷ shapes_over f ps (opens_with files question failures d ps us bs)
unfolding shapes_over opens_with
over_next f files question failures d p ps u us b bs = refl

pub over_none : (f : Place → OpenSlot → ShapeSlot) (files : List File) (question : Question) (failures : Failures)
    (d : Addr) (ps : List Place) (bs : List (Option BgpShape)) →
    shapes_over f ps (opens_with files question failures d ps [] bs) ≡ []
unfolding shapes_over opens_with
over_none f files question failures d [] bs = refl
over_none f files question failures d (p ∷ ps) bs = refl

pub ruleset slot_steps = (
  place_short,
  common_steps,
  slots_end_push,
  slots_push,
  over_none,
  open_below,
  route_below,
  items_at,
  drop_all,
  append_assoc,
  append-nil,
  tracked_push,
  tracked_none,
)
