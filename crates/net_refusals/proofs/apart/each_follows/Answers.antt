use Rattle.std.proofs.Common.{sym, subst, rules}
use Rattle.std.proofs.Common.{◌≡◌}
use Rattle.std.proofs.lemmas.List.Sorted.{answers_always}
use Rattle.std.specs.List.{IsAllAdjacentAnswer}
use Rattle.net_refusals.specs.Apart.{follows}
use Rattle.net_refusals.proofs.apart.each_follows.Goals as goal

pub returns : goal.returns
returns c =
    λ is.
    let answers = c.is_sorted_by.ensures.cases follows (answers_always _ _ _ (λ f a r g called. search rules)) in
    let each = subst (λ r. IsAllAdjacentAnswer (λ x y b. b ≡ follows x y) c.args.all.now r) is answers in
    λ k d below. sym (each k d below)
