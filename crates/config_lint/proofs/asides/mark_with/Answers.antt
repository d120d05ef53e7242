use Rattle.std.proofs.Common.{◌∙◌, ◌||◌, ◌<◌, false, length, get_or, ap, sym, arith, Some}
use Rattle.std.proofs.lemmas.Option.{slice_get-get_or}
use Rattle.config_lint.proofs.Marks.{marked_none, marked_one, marked_all}
use Rattle.config_lint.proofs.asides.mark_with.Goals as goal

pub loop-k-init : goal.loop-k-init
loop-k-init c = marked_none c.args.lines.now c.args.line.now c.args.n c.args.end c.args.flags.now

pub loop-k-preserved : goal.loop-k-preserved
loop-k-preserved c =
    let within : c.loop-k.k < length c.args.lines.now = omega (arith, c.requires) in
    marked_one c.args.lines.now c.args.line.now c.args.n c.args.end c.args.flags.now c.loop-k.flags c.loop-k.k
    c.index-lines-k.result c.either.result c.loop-k.invariant (omega arith)
    (slice_get-get_or c.args.lines.now c.loop-k.k c.index-lines-k.result within ∙ ap (λ l. Some l) (sym c.index-lines-k.is))
    (c.either.ensures ∙ ap (λ b. get_or c.loop-k.flags c.loop-k.k false || b) c.is_with.ensures)

pub returns : goal.returns
returns c =
    marked_all c.args.lines.now c.args.line.now c.args.n c.args.end c.args.flags.now c.loop-k.flags c.loop-k.k
    c.loop-k.invariant (omega (arith, c.requires))
