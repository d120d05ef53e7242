use Rattle.run_inputs.proofs.Admitting.{admitted_from}
use Rattle.show_run.proofs.texts.parse_cex.Goals as goal

pub returns-in-Ok-clause-admitted : goal.returns-in-Ok-clause-admitted
returns-in-Ok-clause-admitted c =
    admitted_from c.args.net.now.files c.args.questions.now c.in-Ok.cex c.in-Ok.ensures.question c.in-Ok.ensures.packet
    c.in-Ok.ensures.failures c.in-Ok.ensures.environment c.in-Ok.ensures.slots
