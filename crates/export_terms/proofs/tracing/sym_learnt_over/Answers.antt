use Rattle.std.proofs.Common.{arith, refl, rules}
use Rattle.bgp_shapes.specs.Crossings.{is_from}
use Rattle.term_arith.specs.Bits.{number}
use Rattle.export_terms.specs.Routes.{node_in}
use Rattle.export_terms.specs.Shapes.{leads_to}
use Rattle.export_terms.proofs.Chains.{over_more}
use Rattle.export_terms.proofs.tracing.sym_learnt_over.Goals as goal

pub loop-i-preserved : goal.loop-i-preserved
loop-i-preserved c =
    let step = c.in_ok-rest-2.ensures in
    record {
      builds = search rules;
      within = search rules;
      value = λ w reads.
          over_more (is_from c.args.step.now.files.now c.args.router (number w c.args.from.now.nodes.items))
          (leads_to c.args.step.now.files.now c.args.step.now.peer.now (node_in w c.args.step.now.next.now)) c.args.step.now.ends.now c.loop-i.i
          _ _ _ _ (omega arith) (omega arith) refl
          (c.loop-i.invariant.value w (step.builds.reads w reads)) (step.value w reads);
    }
