use Rattle.std.proofs.Common.{◌∙◌, None, length, map, option_map}
use Rattle.std.specs.Prelude.{if◌then◌else◌}
use Rattle.term_store.specs.Terms.{truth}
use Rattle.plan_places.specs.Places.{item_at, places_below}
use Rattle.slot_places.specs.Rooms.{can_be_used}
use Rattle.path_rebuild.specs.Shapes.{route_of}
use Rattle.bgp_decoding.specs.Decoded.{Given}
use Rattle.bgp_decoding.specs.Placed.{thing_in}
use Rattle.bgp_decoding.specs.Slots.{learnt_of, slot_without}
use Rattle.bgp_decoding.proofs.Opened.{lens_short, open_many, routes_are, slots_are, told_long}
use Rattle.bgp_decoding.proofs.inside.inside_at.Goals as goal

pub slots_at-requires-clause-few : goal.slots_at-requires-clause-few
slots_at-requires-clause-few c =
    lens_short c.args.plan.now c.as_slice-lens.result.now (c.as_slice-lens.ensures.value ∙ c.requires.frame.lens)

pub slots_at-requires-clause-long : goal.slots_at-requires-clause-long
slots_at-requires-clause-long c =
    let g : Given = record {
      files = c.args.net.now.files;
      tracked = c.args.net.now.tracked;
      question = c.args.question.now;
      plan = c.args.plan.now;
      values = truth c.args.values.now;
    } in
    told_long g c.in_ok-opened.opened.told.items c.in_ok-opened.ensures.told c.as_slice-told.result.now
    c.as_slice-lens.result.now c.as_slice-told.ensures.value (c.as_slice-lens.ensures.value ∙ c.requires.frame.lens)

pub held_routes-requires-clause-few : goal.held_routes-requires-clause-few
held_routes-requires-clause-few c =
    lens_short c.args.plan.now c.as_slice-lens.result.now (c.as_slice-lens.ensures.value ∙ c.requires.frame.lens)

pub held_routes-requires-clause-long : goal.held_routes-requires-clause-long
held_routes-requires-clause-long c =
    let g : Given = record {
      files = c.args.net.now.files;
      tracked = c.args.net.now.tracked;
      question = c.args.question.now;
      plan = c.args.plan.now;
      values = truth c.args.values.now;
    } in
    told_long g c.in_ok-opened.opened.told.items c.in_ok-opened.ensures.told c.as_slice-told.result.now
    c.as_slice-lens.result.now c.as_slice-told.ensures.value (c.as_slice-lens.ensures.value ∙ c.requires.frame.lens)

pub slots_at-requires-clause-open : goal.slots_at-requires-clause-open
slots_at-requires-clause-open c =
    let g : Given = record {
      files = c.args.net.now.files;
      tracked = c.args.net.now.tracked;
      question = c.args.question.now;
      plan = c.args.plan.now;
      values = truth c.args.values.now;
    } in
    open_many g c.as_slice-unknowns.result.now c.as_slice-lens.result.now
    (c.as_slice-unknowns.ensures ∙ c.in_ok-opened.ensures.unknowns)
    (c.as_slice-lens.ensures.value ∙ c.requires.frame.lens)

pub returns : goal.returns
returns c =
    let files = c.args.net.now.files in
    let tracked = c.args.net.now.tracked in
    let n = length files in
    let dst = c.args.question.now.packets.dst in
    let g : Given = record {
      files = files;
      tracked = tracked;
      question = c.args.question.now;
      plan = c.args.plan.now;
      values = truth c.args.values.now;
    } in
    let frame = c.requires.frame in
    let failures = c.requires.failures in
    let destination = c.requires.destination in
    let told = c.in_ok-opened.opened.told.items in
    let lens = c.as_slice-lens.ensures.value ∙ frame.lens in
    let all = c.as_slice-all.ensures ∙ frame.all in
    let unknowns = c.as_slice-unknowns.ensures ∙ c.in_ok-opened.ensures.unknowns in
    let known = c.as_slice-told.ensures.value in
    record {
      held = c.in_ok-held.ensures ∙ (λ i. map (λ p. if can_be_used files dst p.router p.len
          then option_map (route_of tracked) (thing_in (lens i) n (known i) p) else None) (all i))
          ∙ routes_are g told c.in_ok-opened.ensures.told;
      slots = c.in_ok-slots.ensures ∙ (λ i. map (λ p. slot_without files dst (failures i) (destination i) p
          (item_at (places_below (lens i) n) (unknowns i) p.router p.len) (learnt_of (thing_in (lens i) n (known i) p)))
          (all i))
          ∙ slots_are g told c.in_ok-opened.ensures.told;
      end = c.in_ok-opened.ensures.end;
    }
