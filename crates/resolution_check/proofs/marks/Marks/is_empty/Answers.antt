use Rattle.std.proofs.Common.{sym, ◌∙◌, ap, refl, length}
use Rattle.std.proofs.lemmas.Bool.{false≢true}
use Rattle.std.proofs.lemmas.List.{nil_from_length}
use Rattle.resolution_check.proofs.Pivots.{none_marked, no_variables}
use Rattle.resolution_check.proofs.marks.Marks.is_empty.Goals as goal

pub returns-then-is_empty : goal.returns-then-is_empty
returns-then-is_empty c = (
  (λ e. none_marked c.args.self.now (nil_from_length _ (c.if-is_empty.ensures.0 refl))
      (nil_from_length _ (c.is_empty-then-is_empty.ensures.0 e))),
  (λ h. c.is_empty-then-is_empty.ensures.1 (ap length (no_variables c.args.self.now h).1)),
)

pub returns-else-is_empty : goal.returns-else-is_empty
returns-else-is_empty c = (
  (λ e. absurd (false≢true (sym c.if-is_empty.false ∙ e))),
  (λ h. absurd (false≢true (c.if-is_empty.ensures.1 (ap length (no_variables c.args.self.now h).0)))),
)
