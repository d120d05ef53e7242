use Rattle.std.proofs.Common.{◌++◌, ap, ◌∙◌, append_assoc, codes}
use Rattle.config_prepare.proofs.text.put_comment.Goals as goal

pub returns : goal.returns
returns c =
    c.in_ok-put_piece-2.ensures ∙ ap (λ text. text ++ c.args.line.now) c.in_ok-put_piece.ensures
    ∙ append_assoc c.args.text.now (codes "! left out: ") c.args.line.now
