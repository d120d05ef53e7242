use Rattle.std.proofs.Common.{arith}
use Rattle.examples_symbols.proofs.RouteEnds.{both_within, left_within, right_within}
use Rattle.examples_symbols.proofs.fresh.assembled.Goals as goal

pub returns : goal.returns
returns c = record {
  within =
      let preferences = c.requires.preferences in
      let path = c.requires.path in
      let others = c.requires.others in
      let marks = c.requires.marks in
      let sets = c.requires.sets in
      both_within _ _ _
      (both_within _ _ _
      (both_within _ _ _ (omega (arith, c.requires.valid))
      (both_within _ _ _ (left_within _ _ _ preferences) (left_within _ _ _ (right_within _ _ _ preferences))))
      (both_within _ _ _ (right_within _ _ _ (right_within _ _ _ preferences)) (left_within _ _ _ marks)))
      (both_within _ _ _
      (both_within _ _ _ (both_within _ _ _ (left_within _ _ _ path) (left_within _ _ _ (right_within _ _ _ path)))
      (both_within _ _ _ (right_within _ _ _ (right_within _ _ _ path)) (left_within _ _ _ sets)))
      (both_within _ _ _ (both_within _ _ _ (left_within _ _ _ (right_within _ _ _ sets)) (left_within _ _ _ others))
      (both_within _ _ _ (right_within _ _ _ marks)
      (both_within _ _ _ (left_within _ _ _ (right_within _ _ _ others))
      (right_within _ _ _ (right_within _ _ _ sets))))));
}
