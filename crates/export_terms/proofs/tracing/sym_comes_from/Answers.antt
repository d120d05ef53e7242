use Rattle.std.proofs.Common.{◌≡◌, ◌∙◌, List, ap, arith, length, rules}
use Rattle.mw_text.proofs.Results.{ok_then}
use Rattle.term_store.specs.declared.NodeId.{NodeId}
use Rattle.term_arith.specs.Bits.{ids_end}
use Rattle.export_terms.specs.Routes.{node_in, routes_read}
use Rattle.export_terms.specs.Shapes.{comes_from}
use Rattle.export_terms.proofs.Layers.{comes_more, comes_none}
use Rattle.export_terms.proofs.tracing.sym_comes_from.Goals as goal

pub loop-step-init : goal.loop-step-init
loop-step-init c =
    let none = c.new-nodes.ensures.items in
    let end = ap ids_end none in record {
      builds = search rules;
      within = omega (arith, end);
      value = λ w reads r.
          ap (λ (xs : List NodeId). node_in w xs r) none
          ∙ comes_none w c.args.net.now.files (routes_read w c.args.tables.now c.args.len) c.args.peer.now r;
    }

pub loop-step-preserved : goal.loop-step-preserved
loop-step-preserved c =
    let step = c.in_ok-nodes.ensures in record {
      builds = search rules;
      within = step.within;
      value = λ w reads.
          comes_more w c.args.net.now.files c.args.tables.now c.args.len c.args.peer.now c.as_slice.result.now
          c.in_ok-nodes.nodes.items c.loop-step._step c.requires.routers step.count
          (λ r. ap (λ (xs : List NodeId). node_in w xs r) c.as_slice.ensures.value
          ∙ c.loop-step.invariant.value w (step.builds.reads w reads) r)
          (step.value w reads);
    }

pub returns-clause-value : goal.returns-clause-value
returns-clause-value c =
    let test = c.loop-step-test.false in
    let all = c.routers-step-end.ensures.all in
    let end = ap length all in
    let within = c.loop-step.auto._step-end in
    let done : c.loop-step._step ≡ length c.args.net.now.files = omega (arith, test, end, within) in
    ok_then c.node_of.result c.node_of.ensures.value (λ r is w reads.
    is w reads
    ∙ ap (λ (xs : List NodeId). node_in w xs c.args.router) c.as_slice-2.ensures.value
    ∙ c.loop-step.invariant.value w (c.node_of.ensures.builds.reads w reads) c.args.router
    ∙ ap (λ n. comes_from c.args.net.now.files (routes_read w c.args.tables.now c.args.len) c.args.peer.now n
    c.args.router) done)
