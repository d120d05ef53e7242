use Rattle.std.proofs.Common.{◌≡◌, ◌+◌, ◌≤◌, [], ◌∷◌, ◌++◌, List, arith, drop, length, map, rules, subst, sym, ap, ◌∙◌}
use Rattle.std.proofs.lemmas.List.{append_assoc, drop_more, length-append}
use Rattle.mw_text.specs.declared.address.Prefix.{Prefix}
use Rattle.slot_places.specs.Rooms.{room_for}
use Rattle.sym_policy.specs.Held.{bgp_of, failures_of}
use Rattle.sym_policy.specs.Records.{address_of}
use Rattle.sym_rib.specs.declared.slots.SymSlot.{SymSlot}
use Rattle.sym_rib.specs.Worlds.{slots_end}
use Rattle.term_store.specs.Terms.{size}
use Rattle.bgp_equations.specs.Equations.{HaveTracked, slot_read}
use Rattle.bgp_shapes.specs.Candidates.{ShapeSlot}
use Rattle.bgp_worlds.specs.Opens.{shape_slot_of}
use Rattle.routing_worlds.specs.Worlds.{open_with, opens_with}
use Rattle.world_variables.specs.Symbols.{open_of}
use Rattle.routing_encoder.specs.Slots.{shapes_over}
use Rattle.routing_encoder.proofs.LoopSteps.{over_next, place_drop, slots_push, tracked_push}
use Rattle.sym_rib.proofs.SlotPlaces.{slots_end_push}
use Rattle.routing_encoder.proofs.slots.slots.Goals as goal

pub loop-at-preserved : goal.loop-at-preserved
loop-at-preserved c =
    let towards = c.args.towards.now in
    let put = c.in_ok-put_slot.ensures in
    let next = c.in_ok-next.next in
    let made = c.loop-at.made in
    record {
      builds = search rules;
      within = subst (λ xs. slots_end xs ≤ size c.slot_at.new.terms) (sym put) (omega (
        arith,
        slots_end_push made next,
        c.loop-at.invariant.within,
        c.slot_at.ensures.builds.larger,
        c.in_ok-next.ensures.within,
      ));
      rows = subst (HaveTracked towards.net.now.tracked) (sym put)
          (tracked_push towards.net.now.tracked made next c.loop-at.invariant.rows c.in_ok-next.ensures.rows);
      long = ap length put ∙ length-append made (next ∷ []) ∙ ap (λ n. n + 1) c.loop-at.invariant.long;
      value = λ w reads.
          let at = c.loop-at.at in
          let files = towards.net.now.files in
          let question = c.args.question.now in
          let failures = failures_of w towards.sym.now in
          let d = address_of w towards.dst.now in
          let f = shape_slot_of files question.packets.dst failures d in
          let places = c.as_slice-places.result.now in
          let parts = c.args.parts.now in
          let routes = c.args.routes.now in
          let part = c.index-parts-at.result in
          let route = c.index-routes-at.result in
          let p = c.place_at-p.result in
          let past = at + 1 in
          let rest : List ShapeSlot = shapes_over f (drop past places) (opens_with files question failures d
          (drop past places) (map (open_of w) (drop past parts)) (map (bgp_of w) (drop past routes))) in
          let part_left : drop at parts ≡ part ∷ drop past parts =
          drop_more parts at part c.loop-at-test.true ∙ ap (λ x. x ∷ drop past parts) (sym c.index-parts-at.is) in
          let below = c.loop-at-test.true in
          let parts_long = c.requires.parts_long in
          let routes_long = c.requires.routes_long in
          let route_left : drop at routes ≡ route ∷ drop past routes =
          drop_more routes at route (omega (arith, below, parts_long, routes_long))
          ∙ ap (λ x. x ∷ drop past routes) (sym c.index-routes-at.is) in
          let place_left = place_drop places at p c.place_at-p.ensures in
          ap (λ (xs : List SymSlot). map (slot_read w) xs ++ rest) put
          ∙ ap (λ xs. xs ++ rest) (slots_push w made next)
          ∙ append_assoc (map (slot_read w) made) (slot_read w next ∷ []) rest
          ∙ ap (λ s. map (slot_read w) made ++ s ∷ rest) (c.in_ok-next.ensures.value w reads
          ∙ ap (λ (e : Prefix). shape_slot_of files e failures d p (open_with files failures d
          (room_for files e p.router p.len) p (open_of w part) (bgp_of w route))) c.requires.destinations)
          ∙ ap (λ xs. map (slot_read w) made ++ xs) (sym (over_next f files question failures d p (drop past places)
          (open_of w part) (map (open_of w) (drop past parts)) (bgp_of w route) (map (bgp_of w) (drop past routes))))
          ∙ (λ i. map (slot_read w) made ++ shapes_over f (sym place_left i) (opens_with files question failures d
          (sym place_left i) (map (open_of w) (sym part_left i)) (map (bgp_of w) (sym route_left i))))
          ∙ c.loop-at.invariant.value w (c.slot_at.ensures.builds.reads w reads);
    }
