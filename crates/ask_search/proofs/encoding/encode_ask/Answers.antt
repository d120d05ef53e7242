use Rattle.std.proofs.Common.{◌∙◌}
use Rattle.ask_search.proofs.Encodings.{ask_encoding, same_width}
use Rattle.ask_search.proofs.encoding.encode_ask.Goals as goal

pub joined-requires-clause-vars : goal.joined-requires-clause-vars
joined-requires-clause-vars c =
    same_width c.args.net.now.files c.args.net.now.tracked c.args.ask.now c.in_ok-question.question
    c.in_ok-encoding.encoding c.in_ok-export.export c.in_ok-question.ensures c.in_ok-encoding.ensures.encoding
    (c.in_ok-encoding.ensures.plan ∙ c.in_ok-plan.ensures) c.in_ok-export.ensures

pub returns : goal.returns
returns c =
    ask_encoding c.args.net.now.files c.args.net.now.tracked c.args.ask.now c.in_ok-question.question
    c.in_ok-encoding.encoding c.in_ok-export.export c.in_ok-made.made c.in_ok-question.ensures
    c.in_ok-encoding.ensures.encoding (c.in_ok-encoding.ensures.plan ∙ c.in_ok-plan.ensures) c.read_network.ensures
    c.in_ok-export.ensures c.in_ok-made.ensures.builds c.in_ok-made.ensures.within c.in_ok-made.ensures.value
    c.valuation_reads.ensures c.reading_has_values.ensures
