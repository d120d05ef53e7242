use Rattle.std.proofs.Common.{List, ◌≡◌, ap, sym, subst, arith, rules, drop}
use Rattle.ios_ast.specs.declared.file.StaticRoute.{StaticRoute}
use Rattle.question_lang.specs.declared.walk.Hop.{Hop}
use Rattle.sym_policy.specs.Held.{failures_of}
use Rattle.sym_policy.specs.Records.{prefix_of}
use Rattle.term_arith.specs.Bits.{number}
use Rattle.sym_forwarding.specs.Aims.{sought_by}
use Rattle.sym_policy.specs.Packets.{packet_of}
use Rattle.sym_forwarding.specs.Statics.{routes_hops}
use Rattle.sym_forwarding.specs.Symbolic.{forwarding_of}
use Rattle.sym_forwarding.specs.Twins.{IsTwin}
use Rattle.sym_forwarding.proofs.StaticHops.{routes_back}
use Rattle.sym_forwarding.proofs.statics.sym_statics.Goals as goal

pub loop-i-preserved : goal.loop-i-preserved
loop-i-preserved c = record {
  builds = search rules;
  within = search rules;
  value = λ w reads.
      let sent = c.args.sent.now in
      let net = sent.net.now.files in
      let failures = failures_of w sent.sym.now in
      let packet = packet_of w sent.packet.now in
      let key = prefix_of w sent.packet.now.dst c.args.len in
      let distance = number w c.args.distance.now.nodes.items in
      let all = c.args.routes.now in
      let step = c.in_ok-rest.ensures in
      let P : List Hop → Type 0 = λ hs. IsTwin (sought_by w sent.aim.now) hs (forwarding_of w c.in_ok-rest.rest) in
      subst P
      (sym (routes_back net failures packet c.args.router key distance all c.loop-i.i c.index-routes-i.result
      (omega arith)
      (omega arith) c.index-routes-i.is))
      (step.value w reads (routes_hops net failures packet c.args.router key distance (drop c.loop-i.i all))
      (c.loop-i.invariant.value w (step.builds.reads w reads)));
}

pub returns-clause-value : goal.returns-clause-value
returns-clause-value c = λ w reads.
    let none : c.loop-i.i ≡ 0 = omega arith in
    let all = c.args.routes.now in
    let sent = c.args.sent.now in
    let P : List StaticRoute → Type 0 = λ xs. IsTwin (sought_by w sent.aim.now)
    (routes_hops sent.net.now.files (failures_of w sent.sym.now) (packet_of w sent.packet.now) c.args.router
    (prefix_of w sent.packet.now.dst c.args.len) (number w c.args.distance.now.nodes.items) xs) (forwarding_of w
    c.loop-i.rest) in
    subst P (ap (λ j. drop j all) none) (c.loop-i.invariant.value w reads)
