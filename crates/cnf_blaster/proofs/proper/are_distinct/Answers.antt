use Rattle.std.proofs.Common.{◌≡◌, ◌∙◌, ◌&&◌, arith, ap, sym}
use Rattle.cnf_blaster.proofs.Properness.{seen_step, distinct_step}
use Rattle.cnf_blaster.proofs.proper.are_distinct.Goals as goal

pub loop-i-preserved-then-new : goal.loop-i-preserved-then-new
loop-i-preserved-then-new c =
    let old = c.loop-i.invariant in
    record {
      distinct =
          ap (λ b. b && c.loop-i.distinct) (sym c.if-new.true)
          ∙ distinct_step c.args.lits.now c.loop-i.i _ c.loop-i.seen c.insert.new.self (omega arith)
          (omega arith) old.seen _ _ c.in_ok-new.ensures.added old.distinct;
      seen =
          seen_step c.args.lits.now c.loop-i.i _ c.loop-i.seen c.insert.new.self (omega arith)
          (omega arith) old.seen c.in_ok-new.ensures.updates;
    }

pub loop-i-preserved : goal.loop-i-preserved
loop-i-preserved c =
    let old = c.loop-i.invariant in
    record {
      distinct =
          c.if-new.false ∙ ap (λ b. b && c.loop-i.distinct) (sym c.if-new.false)
          ∙ distinct_step c.args.lits.now c.loop-i.i _ c.loop-i.seen c.insert.new.self (omega arith)
          (omega arith) old.seen _ _ c.in_ok-new.ensures.added old.distinct;
      seen =
          seen_step c.args.lits.now c.loop-i.i _ c.loop-i.seen c.insert.new.self (omega arith)
          (omega arith) old.seen c.in_ok-new.ensures.updates;
    }
