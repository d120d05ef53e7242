use Rattle.std.proofs.Common.{◌∙◌, ap, ◌++◌}
use Rattle.show_run.proofs.Saying.{next_is}
use Rattle.show_run.proofs.telling.say_next.Goals as goal

pub returns : goal.returns
returns c =
    next_is c.args.drawn c.args.net.now.files c.args.questions.now c.args.cex.now c.args.all.now _ c.in_ok-one.one.text
    c.in_ok-one.one.yes c.in_ok-one.ensures
    (c.in_ok-put_text.ensures ∙ ap (λ l. c.args.all.now.text ++ l) c.as_slice.ensures)
    c.both-all.ensures
