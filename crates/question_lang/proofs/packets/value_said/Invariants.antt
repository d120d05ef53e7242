use Rattle.std.proofs.Common.{◌≡◌, take}
use Rattle.question_lang.specs.Naming.{value_under}
use Rattle.question_lang.proofs.packets.value_said.Given as goal

abbrev pub invariant-loop-one : goal.invariant-loop-one
invariant-loop-one l = l.value ≡ value_under l.tag (take l.one-index l.said)
