use Rattle.show_run.proofs.Saying.{Goes}
use Rattle.show_run.proofs.telling.say_all.Given as goal

-- what is said so far
abbrev pub invariant-loop-cex : goal.invariant-loop-cex
invariant-loop-cex l = Goes l.drawn l.net.files l.questions l.cexes l.cex-index l.all.text l.all.yes
