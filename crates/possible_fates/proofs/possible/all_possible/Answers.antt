use Rattle.std.proofs.Common.{◌∙◌, ap}
use Rattle.possible_fates.specs.Putting.{fates_in, put_all}
use Rattle.possible_fates.proofs.Those.{each_of_left, each_of_right, those_of_two}
use Rattle.possible_fates.proofs.possible.all_possible.Goals as goal

pub returns-clause-those : goal.returns-clause-those
returns-clause-those c =
    let left = c.args.left.now.files in
    let right = c.args.right.now.files in
    let first = c.in_ok-put_possible.ensures ∙ ap (λ o. put_all o (fates_in left)) c.new-out.ensures in
    those_of_two left right c.put_possible-2.new.out
    (c.in_ok-put_possible-2.ensures ∙ ap (λ o. put_all o (fates_in right)) first)

pub returns-clause-left : goal.returns-clause-left
returns-clause-left c =
    let left = c.args.left.now.files in
    let right = c.args.right.now.files in
    let first = c.in_ok-put_possible.ensures ∙ ap (λ o. put_all o (fates_in left)) c.new-out.ensures in
    each_of_left left right c.put_possible-2.new.out
    (c.in_ok-put_possible-2.ensures ∙ ap (λ o. put_all o (fates_in right)) first) c.know_fates.ensures

pub returns-clause-right : goal.returns-clause-right
returns-clause-right c =
    let left = c.args.left.now.files in
    let right = c.args.right.now.files in
    let first = c.in_ok-put_possible.ensures ∙ ap (λ o. put_all o (fates_in left)) c.new-out.ensures in
    each_of_right left right c.put_possible-2.new.out
    (c.in_ok-put_possible-2.ensures ∙ ap (λ o. put_all o (fates_in right)) first) c.know_fates-2.ensures
