use Rattle.std.proofs.Common.{◌≡◌, ◌∙◌, ◌+◌, ◌-◌, false, true, arith, rules, sym}
use Rattle.std.proofs.lemmas.Grind.{common_steps}
use Rattle.std.proofs.lemmas.Result.{err_from_is_err_and}
use Rattle.simulation.proofs.Turned.{turned_more, turned_none, turned_refused, turned_stays, turned_there}
use Rattle.simulation.proofs.turns.run.Goals as goal

pub returns-in_err-more-clause-refused : goal.returns-in_err-more-clause-refused
returns-in_err-more-clause-refused c =
    let p = err_from_is_err_and c.from_residual.result c.from_residual.ensures.1 in
    let within = c.loop-at-test.true in
    rw (p.1, p.2)
    (λ other. sym c.loop-at.invariant.0
    ∙ turned_refused c.loop-at.machine.net.files c.loop-at.machine.destination (c.args.count - c.loop-at.at)
    (c.args.count - (c.loop-at.at + 1)) c.loop-at.machine.state c.in_err-more.field-0.0 (omega (arith, within))
    (c.in_err-more.ensures.refused other))

pub returns-then-not-more-clause-ok : goal.returns-then-not-more-clause-ok
returns-then-not-more-clause-ok c =
    let off : c.in_ok-more.more ≡ false = first_of (cc, search rules, grind (arith, common_steps)) in
    sym c.loop-at.invariant.0
    ∙ turned_stays c.loop-at.machine.net.files c.loop-at.machine.destination (c.args.count - c.loop-at.at)
    c.loop-at.machine.state c.turn.new.machine.state (c.in_ok-more.ensures.none off) (c.in_ok-more.ensures.still off)

pub loop-at-preserved : goal.loop-at-preserved
loop-at-preserved c =
    let on : c.in_ok-more.more ≡ true = first_of (cc, search rules, grind (arith, common_steps)) in
    let within = c.loop-at-test.true in
    let taken = c.in_ok-more.ensures.taken on in
    let others = c.args.count - (c.loop-at.at + 1) in (
      turned_there c.loop-at.machine.net c.turn.new.machine.net c.loop-at.machine.destination
          c.turn.new.machine.destination others c.turn.new.machine.state c.turn.ensures.net c.turn.ensures.destination
          ∙ sym (turned_more c.loop-at.machine.net.files c.loop-at.machine.destination (c.args.count - c.loop-at.at)
          others c.loop-at.machine.state c.turn.new.machine.state (omega (arith, within)) taken)
          ∙ c.loop-at.invariant.0,
      c.turn.ensures.net ∙ c.loop-at.invariant.1,
      c.turn.ensures.destination ∙ c.loop-at.invariant.2,
    )

pub returns-clause-ok : goal.returns-clause-ok
returns-clause-ok c =
    let past = c.loop-at-test.false in
    sym c.loop-at.invariant.0
    ∙ turned_none c.loop-at.machine.net.files c.loop-at.machine.destination (c.args.count - c.loop-at.at)
    c.loop-at.machine.state (omega (arith, past))
