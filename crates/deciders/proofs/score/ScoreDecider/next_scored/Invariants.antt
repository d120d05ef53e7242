use Rattle.deciders.proofs.score.ScoreDecider.next_scored.Given as goal

abbrev pub decreases-loop-var : goal.decreases-loop-var
decreases-loop-var l = l.self.heap.count
