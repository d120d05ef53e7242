use Rattle.std.proofs.Common.{◌∙◌, sym, arith}
use Rattle.ios_ast.proofs.Order.{find_more}
use Rattle.ios_ast.specs.Prefixes.{prefix_taken}
use Rattle.policy_eval.proofs.lists.prefix_list.Goals as goal

pub loop-i-preserved : goal.loop-i-preserved
loop-i-preserved c =
    c.decider-found.ensures
    ∙ rw (c.takes_prefix-takes.ensures, c.loop-i.invariant)
    (sym (find_more (λ e. e.seq) (λ e. prefix_taken e c.args.p.now) c.as_slice-entries.result.now c.loop-i.i _
    (omega arith) (omega arith)))
