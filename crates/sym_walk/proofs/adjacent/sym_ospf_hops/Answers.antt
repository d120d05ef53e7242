use Rattle.std.proofs.Common.{List, ◌≡◌, ◌∙◌, ap, sym, subst, arith, rules, drop}
use Rattle.net_parts.specs.declared.adjacencies.Adjacency.{Adjacency}
use Rattle.question_lang.specs.declared.walk.Hop.{Hop}
use Rattle.sym_policy.specs.Held.{failures_of, ospf_of}
use Rattle.sym_policy.specs.Records.{prefix_of}
use Rattle.sym_forwarding.specs.Aims.{sought_by}
use Rattle.sym_forwarding.specs.Offers.{offered_hops}
use Rattle.sym_policy.specs.Packets.{packet_of}
use Rattle.sym_forwarding.specs.Symbolic.{forwarding_of}
use Rattle.sym_forwarding.specs.Twins.{IsTwin}
use Rattle.sym_rib.specs.Worlds.{read_tables}
use Rattle.sym_forwarding.proofs.LeastWalks.{no_adjacency}
use Rattle.sym_walk.proofs.OfferedHops.{offered_all, offered_back}
use Rattle.sym_walk.proofs.adjacent.sym_ospf_hops.Goals as goal

pub loop-i-preserved : goal.loop-i-preserved
loop-i-preserved c = record {
  builds = search rules;
  within = search rules;
  value = λ w reads.
      let stop = c.args.stop.now in
      let net = stop.net.now.files in
      let failures = failures_of w stop.sym.now in
      let packet = packet_of w stop.packet.now in
      let tables = read_tables w stop.tables.now in
      let key = prefix_of w stop.packet.now.dst c.args.len in
      let held = ospf_of w c.args.held.now in
      let all = c.adjacencies-all.result.now in
      let step = c.in_ok-rest.ensures in
      let P : List Hop → Type 0 = λ hs. IsTwin (sought_by w c.args.aim.now) hs (forwarding_of w c.in_ok-rest.rest) in
      subst P
      (sym (offered_back net failures packet tables stop.router key held all c.loop-i.i no_adjacency (omega arith)
      (omega arith)))
      (step.value w reads (offered_hops net failures packet tables stop.router key held (drop c.loop-i.i all))
      (c.loop-i.invariant.value w (step.builds.reads w reads)));
}

pub returns-clause-value : goal.returns-clause-value
returns-clause-value c = λ w reads.
    let stop = c.args.stop.now in
    let none : c.loop-i.i ≡ 0 = omega arith in
    let net = stop.net.now.files in
    let failures = failures_of w stop.sym.now in
    let packet = packet_of w stop.packet.now in
    let tables = read_tables w stop.tables.now in
    let key = prefix_of w stop.packet.now.dst c.args.len in
    let held = ospf_of w c.args.held.now in
    let all = c.adjacencies-all.result.now in
    let P : List Adjacency → Type 0 = λ xs. IsTwin (sought_by w c.args.aim.now)
    (offered_hops net failures packet tables stop.router key held xs) (forwarding_of w c.loop-i.rest) in
    let Q : List Hop → Type 0 = λ hs. IsTwin (sought_by w c.args.aim.now) hs (forwarding_of w c.loop-i.rest) in
    subst Q (offered_all net failures packet tables stop.router key held)
    (subst P (ap (λ j. drop j all) none ∙ c.adjacencies-all.ensures.value) (c.loop-i.invariant.value w reads))
