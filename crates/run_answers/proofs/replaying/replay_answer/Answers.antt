use Rattle.run_answers.proofs.ReplayAnswers.{replay_told}
use Rattle.run_answers.proofs.replaying.replay_answer.Goals as goal

pub returns-in-Err : goal.returns-in-Err
returns-in-Err c =
    replay_told c.told_no.result c.args.net.now.files c.args.questions.now c.args.cex.now c.index-questions-cex.result
    c.in-Err.why
    c.told_no.ensures c.requires c.index-questions-cex.is c.in-Err.ensures.refused c.in-Err.ensures.untrue
