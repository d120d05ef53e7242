use Rattle.std.proofs.Common.{◌∙◌, ap, ◌++◌, ◌+◌, ◌/◌, ℕ, List}
use Rattle.announced_shapes.proofs.TakenSteps.{taken_from, taken_marked, taken_unmarked}
use Rattle.announced_shapes.proofs.paths.taken.Goals as goal
use Rattle.announced_shapes.proofs.paths.taken.Goals.{then-rest-eq1+in_ok-push, else-rest-eq1}

pub loop-t-preserved : goal.loop-t-preserved
loop-t-preserved c =
    let ts = c.args.tracked.now in
    let k = c.loop-t.t-index in
    let set = c.loop-t.rest in
    let made = c.loop-t.made.items in
    let whole : List ℕ → List ℕ = λ m. m ++ taken_from ts (k + 1) (set / 2) in
    elim c.if-rest-eq1.branch [
      | then-rest-eq1+in_ok-push w ↦ ap (λ v. whole v.items) w.made-is ∙ ap whole w.in_ok-push.ensures.items
          ∙ taken_marked ts made k set c.loop-t-test.true w.if-rest-eq1.true ∙ c.loop-t.invariant
      | else-rest-eq1 w ↦ ap (λ v. whole v.items) w.made-is
          ∙ taken_unmarked ts made k set c.loop-t-test.true w.if-rest-eq1.false ∙ c.loop-t.invariant
    ]
