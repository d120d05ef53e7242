use Rattle.std.proofs.Common.{◌∙◌, arith, length, refl, rules}
use Rattle.term_arith.specs.Bits.{number}
use Rattle.sym_bgp.proofs.WaySteps.{way_end, way_more}
use Rattle.sym_bgp.proofs.ways.sym_crossing.Goals as goal

pub loop-i-init : goal.loop-i-init
loop-i-init c =
    let known = c.in_ok-rest.ensures in
    let session = c.args.session.now in
    let files = session.files.now in
    let process = session.process.now in
    let neighbour = session.neighbour.now in
    let end = session.end.now in
    let ends = c.args.ends.now in
    record {
      builds = search rules;
      within = search rules;
      value = λ w reads.
          known.value w reads
          ∙ c.local_way.ensures files process neighbour end
          ∙ way_end files process neighbour end (number w c.args.from.now.nodes.items) ends (length ends) (omega arith);
    }

pub loop-i-preserved : goal.loop-i-preserved
loop-i-preserved c =
    let session = c.args.session.now in
    let step = c.in_ok-rest-2.ensures in
    record {
      builds = search rules;
      within = search rules;
      value = λ w reads.
          way_more session.files.now session.process.now session.neighbour.now session.end.now
          (number w c.args.from.now.nodes.items) c.args.ends.now c.loop-i.i _ _ _ _ _ (omega arith) (omega arith) refl
          c.in_ok-way.ensures (c.loop-i.invariant.value w (step.builds.reads w reads)) (step.value w reads);
    }
