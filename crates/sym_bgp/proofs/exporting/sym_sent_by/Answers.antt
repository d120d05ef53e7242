use Rattle.term_store.specs.Terms.{at}
use Rattle.sym_policy.specs.Held.{bgp_at, bgp_of}
use Rattle.sym_policy.specs.Records.{prefix_of}
use Rattle.sym_bgp.specs.Ways.{crossing_at}
use Rattle.sym_bgp.proofs.Sent.{sent_by}
use Rattle.sym_bgp.proofs.exporting.sym_sent_by.Goals as goal

pub returns-clause-value : goal.returns-clause-value
returns-clause-value c = λ w reads.
    let session = c.args.session.now in
    let keeps = c.in_ok-keeps.ensures in
    let left = c.in_ok-left.ensures in
    let made = c.in_ok-made.ensures in
    let mapped = made.builds.reads w reads in
    let kept = left.builds.reads w mapped in
    sent_by session.tracked.now session.files.now session.file.now session.process.now session.neighbour.now
    session.end.now (prefix_of w c.args.dst.now c.args.len) (bgp_at w c.args.held.now) (crossing_at w c.args.x.now)
    (at w c.args.held.now.valid) (at w c.in_ok-goes.goes) (at w c.in_ok-keeps.keeps) (bgp_of w c.in_ok-left.left)
    (bgp_of w c.in_ok-made.made) (c.in_ok-goes.ensures.value w (keeps.builds.reads w kept)) (keeps.value w kept)
    (left.value w mapped) (made.value w reads)
