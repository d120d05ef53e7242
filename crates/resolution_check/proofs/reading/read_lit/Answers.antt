use Rattle.std.proofs.Common.{sym}
use Rattle.resolution_check.proofs.Texts.{number_in-Some}
use Rattle.resolution_check.proofs.reading.read_lit.Goals as goal

pub overflow_sub-result : goal.overflow_sub-result
overflow_sub-result c =
    (number_in-Some c.if-negated.read_number.now c.in_ok-number.number (sym c.in_ok-number.ensures)).1.0
