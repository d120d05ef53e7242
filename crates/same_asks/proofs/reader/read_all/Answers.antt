use Rattle.std.proofs.Common.{[], arith}
use Rattle.std.proofs.lemmas.Result.{err_from_is_err_and}
use Rattle.mw_text.proofs.Reading.{read-none, read-one, read-refused}
use Rattle.same_asks.specs.Asking.{next_asked}
use Rattle.same_asks.proofs.reader.read_all.Goals as goal

pub loop-line-init : goal.loop-line-init
loop-line-init c = rw c.new-asks.ensures (
  read-none (next_asked c.args.left.now.files c.args.right.now.files) [],
  λ k ask less. absurd (omega arith),
  omega arith,
)

pub returns-in_err-asks-clause-refused : goal.returns-in_err-asks-clause-refused
returns-in_err-asks-clause-refused c =
    let p = err_from_is_err_and c.from_residual.result c.from_residual.ensures.1 in
    rw (p.1, p.2)
    (λ other. read-refused (next_asked c.args.left.now.files c.args.right.now.files) [] c.args.lines.now
    c.loop-line.line-index c.line-item.result c.loop-line.asks c.in_err-asks.field-0.0 c.loop-line.invariant.0
    c.loop-line-test.true c.line-item.is (c.in_err-asks.ensures.refused other))

pub loop-line-preserved : goal.loop-line-preserved
loop-line-preserved c = (
  read-one (next_asked c.args.left.now.files c.args.right.now.files) [] c.args.lines.now c.loop-line.line-index
      c.line-item.result c.loop-line.asks c.in_ok-asks.asks c.loop-line.invariant.0 c.loop-line-test.true
      c.line-item.is c.in_ok-asks.ensures.ok,
  c.in_ok-asks.ensures.known,
  c.in_ok-asks.ensures.few,
)
