use Rattle.std.proofs.Common.{◌≡◌, drop}
use Rattle.ios_policy_reader.specs.Heads.{fit}
use Rattle.ios_policy_reader.proofs.heads.words_of_head.Given as goal

abbrev pub invariant-loop-at : goal.invariant-loop-at
invariant-loop-at l = fit l.at l.rest (drop l.at l.words) ≡ fit 0 l.head l.words
