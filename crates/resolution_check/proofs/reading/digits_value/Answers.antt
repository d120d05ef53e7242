use Rattle.std.proofs.Common.{length, arith}
use Rattle.resolution_check.proofs.Texts.{small_value}
use Rattle.resolution_check.proofs.reading.digits_value.Goals as goal

pub overflow_mul-value : goal.overflow_mul-value
overflow_mul-value c =
    let small =
    small_value c.loop-b.value c.loop-b.b-index
    (length c.args.word.now) c.loop-b.invariant.2 c.loop-b-test.true c.requires in omega arith

pub overflow_add-value : goal.overflow_add-value
overflow_add-value c =
    let small =
    small_value c.loop-b.value c.loop-b.b-index
    (length c.args.word.now) c.loop-b.invariant.2 c.loop-b-test.true c.requires in omega arith
