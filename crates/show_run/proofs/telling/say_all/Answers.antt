use Rattle.show_run.proofs.Saying.{goes_next}
use Rattle.show_run.proofs.telling.say_all.Goals as goal

pub loop-cex-preserved : goal.loop-cex-preserved
loop-cex-preserved c =
    goes_next c.args.drawn c.args.net.now.files c.args.questions.now c.args.cexes.now c.loop-cex.cex-index
    c.cex-item.result c.loop-cex.all c.say_next.new.all c.loop-cex-test.true c.cex-item.is c.in_ok-say_next.ensures
    c.loop-cex.invariant
