use Rattle.std.proofs.Common.{◌≡◌, drop}
use Rattle.std.specs.Prelude.{fold}
use Rattle.slot_places.specs.Origins.{type1_after}
use Rattle.slot_places.proofs.origins.type1_left.Given as goal

abbrev pub invariant-loop-act : goal.invariant-loop-act
invariant-loop-act l = fold type1_after l.type1 (drop l.act-index l.sets) ≡ fold type1_after l.line.type1 l.sets
