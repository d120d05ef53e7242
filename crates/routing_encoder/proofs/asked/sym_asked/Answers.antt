use Rattle.std.proofs.Common.{◌&&◌, length, ap, ap₂, ◌∙◌}
use Rattle.std.specs.Prelude.{nat_le}
use Rattle.route_record.specs.declared.Failures.{Failures}
use Rattle.world_variables.specs.Packets.{is_in_set}
use Rattle.routing_encoder.proofs.asked.sym_asked.Goals as goal

pub returns-clause-value : goal.returns-clause-value
returns-clause-value c = λ w reads from read.
    let question = c.args.question.now in
    let r1 = c.both.ensures.builds.reads w reads in
    let r0 = c.sym_few_fail.ensures.builds.reads w r1 in
    c.in_ok-asked.ensures.value w reads
    ∙ ap₂ (λ x y. x && y)
    (c.in_ok-in_set.ensures.value w r0 ∙ ap (is_in_set question.packets) read.packet)
    (c.in_ok-few.ensures.value w r1
    ∙ ap (λ (x : Failures). nat_le (length x.links) question.failures) read.failures)
