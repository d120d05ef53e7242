use Rattle.std.proofs.Common.{◌∙◌, ap}
use Rattle.term_store.specs.Terms.{at}
use Rattle.bgp_shapes.specs.Exporting.{shape_sent, shape_sent_by}
use Rattle.sym_policy.specs.Held.{bgp_at}
use Rattle.sym_policy.specs.Records.{prefix_of}
use Rattle.sym_bgp.specs.Ways.{crossing_at}
use Rattle.sym_bgp.proofs.Sent.{same_there}
use Rattle.sym_bgp.proofs.exporting.sym_sent.Goals as goal

pub returns-clause-value : goal.returns-clause-value
returns-clause-value c = λ w reads.
    let made = c.in_ok-made.ensures in
    let session = c.args.session.now in
    let tracked = session.tracked.now in
    let files = session.files.now in
    let file = session.file.now in
    let process = session.process.now in
    let neighbour = session.neighbour.now in
    let end = session.end.now in
    let p = prefix_of w c.args.dst.now c.args.len in
    let s = bgp_at w c.args.held.now in
    made.value w reads
    ∙ same_there (λ t. shape_sent_by tracked files file process neighbour end p t (crossing_at w c.in_ok-x.x))
    (shape_sent tracked files file process neighbour end p) s (at w c.args.held.now.valid)
    (ap (shape_sent_by tracked files file process neighbour end p s)
    (c.in_ok-x.ensures.value w (made.builds.reads w reads)))
