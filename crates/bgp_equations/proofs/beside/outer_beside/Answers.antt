use Rattle.std.proofs.Common.{map, not, ◌∙◌}
use Rattle.term_store.specs.Terms.{at}
use Rattle.term_arith.specs.Bits.{number}
use Rattle.net_parts.specs.Decisions.{peer_identifier}
use Rattle.sym_policy.specs.Held.{bgp_at, failures_of}
use Rattle.sym_policy.specs.Records.{address_of}
use Rattle.bgp_equations.proofs.LearntOver.{outer_with}
use Rattle.bgp_equations.proofs.beside.outer_beside.Goals as goal

pub returns-clause-value : goal.returns-clause-value
returns-clause-value c = λ w reads.
    let last = c.in_ok-beside.ensures in
    let cost = c.in_ok-cost.ensures in
    let there = c.in_ok-there.ensures in
    let before = last.builds.reads w reads in
    last.value w reads c.args.rec.now
    ∙ outer_with c.args.net.now.files (failures_of w c.args.sym.now) c.args.end.now (at w c.in_ok-there.there)
    (at w c.args.rec.now.valid) (not c.args.end.now.internal) (bgp_at w c.args.rec.now)
    (number w c.in_ok-cost.cost.nodes.items)
    (peer_identifier c.args.net.now.files (map (address_of w) c.args.env.now.ids) c.args.at c.args.end.now).0
    c.requires.outer (there.value w (cost.builds.reads w before)) (cost.value w before)
