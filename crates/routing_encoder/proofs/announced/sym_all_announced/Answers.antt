use Rattle.std.proofs.Common.{◌∙◌}
use Rattle.routing_encoder.proofs.PassingRows.{coming_of}
use Rattle.routing_encoder.proofs.announced.sym_all_announced.Goals as goal

pub returns-clause-value : goal.returns-clause-value
returns-clause-value c = λ w reads from read.
    let files = c.args.net.now.files in
    let tracked = c.args.net.now.tracked in
    c.in_ok-holds.ensures.value w reads
    ∙ coming_of w files tracked c.args.question.now c.args.plan.now from c.args.terms.now c.args.made.now
    c.len-count.result c.as_slice-announced.result.now
    (c.len-count.ensures ∙ c.args.made.now.frame.lens.ok.0) c.as_slice-announced.ensures
    c.requires.stands read c.requires.words
