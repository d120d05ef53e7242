use Rattle.std.proofs.Common.{◌≡◌, drop}
use Rattle.config_prepare.specs.Kinds.{begins}
use Rattle.config_prepare.proofs.kinds.begins_with.Given as goal

-- what is left of the head and of the words
abbrev pub invariant-loop-word : goal.invariant-loop-word
invariant-loop-word l = begins l.rest (drop l.word-index l.words) ≡ begins l.head l.words
