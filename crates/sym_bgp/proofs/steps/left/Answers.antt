use Rattle.std.proofs.Common.{◌∙◌, sym}
use Rattle.std.proofs.lemmas.Result.{IfOk-weaker}
use Rattle.term_arith.specs.Bits.{bits}
use Rattle.bgp_shapes.proofs.NumberLaw.{kept_left}
use Rattle.sym_bgp.specs.Keys.{keys_at}
use Rattle.sym_bgp.proofs.FlagSteps.{best_all}
use Rattle.sym_bgp.proofs.steps.left.Goals as goal

pub returns-else-goes_by_pairs-clause-value : goal.returns-else-goes_by_pairs-clause-value
returns-else-goes_by_pairs-clause-value c =
    let best = sym c.goes_by_pairs.ensures ∙ c.if-goes_by_pairs.false in
    IfOk-weaker c.left_by_best.result _ _ (λ r value w reads.
    value w reads
    ∙ kept_left c.args.always c.args.step (bits w c.args.flags.now) (keys_at w c.args.keys.now)
    (best_all c.args.always c.args.fixed c.args.step best)) c.left_by_best.ensures.value
