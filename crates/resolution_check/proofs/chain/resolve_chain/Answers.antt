use Rattle.std.proofs.Common.{◌≡◌, sym, ◌∙◌, ap, ◌+◌, ◌||◌, ◌∷◌, drop, get_or, drop-cons, add-one}
use Rattle.std.proofs.Math.Bool.{or-false}
use Rattle.resolution_check.specs.Clauses.{has}
use Rattle.resolution_check.specs.Entries.{resolved_from}
use Rattle.resolution_check.specs.Known.{held_on}
use Rattle.resolution_check.proofs.Chains.{goes_on, begins}
use Rattle.resolution_check.proofs.chain.resolve_chain.Goals as goal

pub loop-i-init : goal.loop-i-init
loop-i-init c =
    let lits = c.in-Some-find.clause.now.lits in (
      lits,
      (λ l. c.in_ok-mark_all.ensures l ∙ ap (λ b. has c.as_slice.result.now l || b) (c.new-marks.ensures l)
          ∙ or-false _ ∙ ap (λ d. has d l) c.as_slice.ensures),
      begins (held_on c.args.shelf.now) c.in-Some.first.now c.in-Some-find.clause.now c.in-Some.others.now
          c.args.chain.now c.in-Some.ensures.cases.0 (sym c.in-Some-find.ensures),
    )

pub loop-i-preserved : goal.loop-i-preserved
loop-i-preserved c =
    let held = held_on c.args.shelf.now in
    let before = c.loop-i.invariant in
    let others = c.in-Some.others.now in
    let here : drop c.loop-i.i others ≡ get_or others c.loop-i.i 0 ∷ drop (c.loop-i.i + 1) others =
    rw add-one (drop-cons others c.loop-i.i 0 c.loop-i-test.true) in
    let step =
    goes_on held c.resolve_next.new.marks before.0 (c.loop-i.i + 1) (get_or others c.loop-i.i 0)
    (drop (c.loop-i.i + 1) others) (c.in_ok-resolve_next.ensures before.0 before.1) in
    (step.0, step.1, sym step.2 ∙ ap (resolved_from held before.0 (c.loop-i.i + 1)) (sym here) ∙ before.2)
