use Rattle.std.proofs.Common.{◌∙◌, ap}
use Rattle.possible_fates.specs.Putting.{fates_in, put_all}
use Rattle.possible_fates.proofs.Those.{each_of_one, those_of_one}
use Rattle.possible_fates.proofs.possible.possible_fates.Goals as goal

pub returns-clause-those : goal.returns-clause-those
returns-clause-those c =
    let files = c.args.net.now.files in
    those_of_one files c.put_possible.new.out
    (c.in_ok-put_possible.ensures ∙ ap (λ o. put_all o (fates_in files)) c.new-out.ensures)

pub returns-clause-whole : goal.returns-clause-whole
returns-clause-whole c =
    let files = c.args.net.now.files in
    each_of_one files c.put_possible.new.out
    (c.in_ok-put_possible.ensures ∙ ap (λ o. put_all o (fates_in files)) c.new-out.ensures) c.know_fates.ensures
