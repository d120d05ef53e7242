use Rattle.std.proofs.Common.{◌∙◌, ◌+◌, ◌∷◌, [], List, ap, arith, length, rules, subst, sym}
use Rattle.std.proofs.lemmas.List.{length-append}
use Rattle.term_store.specs.declared.NodeId.{NodeId}
use Rattle.term_arith.specs.Bits.{ids_end}
use Rattle.term_arith.proofs.NumberLemmas.{ids_end_push}
use Rattle.export_terms.specs.Routes.{node_in, routes_read}
use Rattle.export_terms.specs.Shapes.{traced_by}
use Rattle.export_terms.proofs.Layers.{AreTraced, traced_more}
use Rattle.export_terms.proofs.tracing.sym_layer.Goals as goal

pub loop-router-preserved : goal.loop-router-preserved
loop-router-preserved c =
    let step = c.in_ok-node.ensures in
    let nodes = c.loop-router.nodes.items in
    let node = c.in_ok-node.node in
    let pushed = c.in_ok-push.ensures.items in
    let larger = step.builds.larger in
    let so_far = c.loop-router.invariant.within in
    let here = step.within in
    let end = ap ids_end pushed ∙ ids_end_push nodes node in
    let long = c.loop-router.invariant.count in
    record {
      builds = search rules;
      within = omega (arith, end, so_far, larger, here);
      count = ap length pushed ∙ length-append nodes (node ∷ []) ∙ ap (λ n. n + 1) long;
      value = λ w reads.
          subst (λ (xs : List NodeId). AreTraced (λ r. traced_by c.args.net.now.files c.args.peer.now
          (node_in w c.args.next.now) r (routes_read w c.args.tables.now c.args.len r)) w xs (c.loop-router.router + 1))
          (sym pushed)
          (traced_more (λ r. traced_by c.args.net.now.files c.args.peer.now (node_in w c.args.next.now) r
          (routes_read w c.args.tables.now c.args.len r)) w nodes node c.loop-router.router long
          (c.loop-router.invariant.value w (step.builds.reads w reads)) (step.value w reads));
    }
