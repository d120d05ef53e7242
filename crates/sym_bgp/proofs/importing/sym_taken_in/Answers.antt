use Rattle.route_record.specs.Sides.{at_external}
use Rattle.term_store.specs.Terms.{at}
use Rattle.sym_policy.specs.Held.{bgp_at, bgp_of}
use Rattle.sym_policy.specs.Records.{prefix_of}
use Rattle.sym_bgp.proofs.TakenIn.{taken_in}
use Rattle.sym_bgp.proofs.importing.sym_taken_in.Goals as goal

pub returns-clause-value : goal.returns-clause-value
returns-clause-value c = λ w reads.
    let session = c.args.session.now in
    let there = c.in_ok-there.ensures in
    let before = c.in_ok-before.ensures in
    let left = c.in_ok-left.ensures in
    let made = c.in_ok-made.ensures in
    let mapped = made.builds.reads w reads in
    let received = left.builds.reads w mapped in
    let tested = before.builds.reads w received in
    taken_in session.tracked.now session.files.now session.file.now session.process.now session.neighbour.now
    session.end.now (prefix_of w c.args.dst.now c.args.len) (bgp_at w c.args.message.now) (at w c.args.message.now.valid)
    (at w c.in_ok-takes.takes) (at w c.in_ok-there.there) (at_external c.side_of-side.result)
    (bgp_of w c.in_ok-before.before.bgp) (bgp_of w c.in_ok-left.left) (bgp_of w c.in_ok-made.made)
    (c.in_ok-takes.ensures.value w (there.builds.reads w tested)) (there.value w tested) (before.value w received)
    c.side_of-side.ensures (left.value w mapped (before.type1 w received)) (made.value w reads)
