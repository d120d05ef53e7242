use Rattle.std.proofs.Common.{◌∙◌, ap, length}
use Rattle.std.proofs.lemmas.List.{length-map}
use Rattle.term_store.specs.Terms.{truth}
use Rattle.routing_worlds.specs.Worlds.{shape_world_from}
use Rattle.bgp_decoding.specs.Decoded.{Given, slot_at}
use Rattle.bgp_decoding.specs.Placed.{full_places}
use Rattle.bgp_decoding.proofs.Numbered.{full_many}
use Rattle.bgp_decoding.proofs.World.{world_of}
use Rattle.bgp_decoding.proofs.decoding.rebuilt.Goals as goal

pub rebuild-requires : goal.rebuild-requires
rebuild-requires c =
    let assignment = c.args.assignment.now in
    let n = length assignment.net.now.files in
    let g : Given = record {
      files = assignment.net.now.files;
      tracked = assignment.net.now.tracked;
      question = assignment.question.now;
      plan = assignment.plan.now;
      values = truth assignment.values.now;
    } in
    record { size = ap length c.requires.inside.slots ∙ length-map (full_places n) (slot_at g) ∙ full_many n }

pub returns : goal.returns
returns c =
    let assignment = c.args.assignment.now in
    let g : Given = record {
      files = assignment.net.now.files;
      tracked = assignment.net.now.tracked;
      question = assignment.question.now;
      plan = assignment.plan.now;
      values = truth assignment.values.now;
    } in
    c.in_ok-made.ensures.world (shape_world_from g.files g.tracked g.question g.plan g.values 0)
    (world_of g c.requires.words c.requires.routing c.args.inside.now c.args.outside.now c.requires.inside
    c.requires.outside assignment.d c.as_slice-ids.result.now c.as_slice-announced.result.now c.as_slice-held.result.now
    c.requires.destination c.as_slice-ids.ensures.value c.as_slice-announced.ensures.value
    c.as_slice-held.ensures.value)
