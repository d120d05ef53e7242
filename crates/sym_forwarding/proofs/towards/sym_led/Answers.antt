use Rattle.std.proofs.Common.{List, ◌≡◌, ◌∙◌, ap, sym, subst, arith, rules, drop, length}
use Rattle.std.proofs.lemmas.List.{drop_all}
use Rattle.net_parts.specs.declared.adjacencies.Adjacency.{Adjacency}
use Rattle.question_lang.specs.declared.walk.Hop.{Hop}
use Rattle.sym_policy.specs.Held.{failures_of}
use Rattle.sym_policy.specs.Records.{address_of}
use Rattle.sym_forwarding.specs.Aims.{sought_by}
use Rattle.sym_policy.specs.Packets.{packet_of}
use Rattle.sym_forwarding.specs.Symbolic.{forwarding_of}
use Rattle.sym_forwarding.specs.Towards.{led_hops}
use Rattle.sym_forwarding.specs.Twins.{IsTwin}
use Rattle.sym_forwarding.proofs.LeastWalks.{led_all, led_back, no_adjacency}
use Rattle.sym_forwarding.proofs.towards.sym_led.Goals as goal

pub loop-i-init : goal.loop-i-init
loop-i-init c = record {
  builds = search rules;
  within = search rules;
  value = λ w reads has.
      let sent = c.args.sent.now in
      let sought = sought_by w sent.aim.now in
      let all = c.adjacencies-all.result.now in
      let P : List Adjacency → Type 0 = λ xs. IsTwin sought
      (led_hops sent.net.now.files (failures_of w sent.sym.now) (packet_of w sent.packet.now) c.args.router
      (address_of w c.args.a.now) xs) (forwarding_of w c.in_ok-rest.rest) in
      subst P (sym (drop_all (length all) all (omega arith))) (c.in_ok-rest.ensures.value w reads sought);
}

pub loop-i-preserved : goal.loop-i-preserved
loop-i-preserved c = record {
  builds = search rules;
  within = search rules;
  value = λ w reads has.
      let sent = c.args.sent.now in
      let net = sent.net.now.files in
      let failures = failures_of w sent.sym.now in
      let packet = packet_of w sent.packet.now in
      let a = address_of w c.args.a.now in
      let all = c.adjacencies-all.result.now in
      let step = c.in_ok-rest-2.ensures in
      let P : List Hop → Type 0 = λ hs. IsTwin (sought_by w sent.aim.now) hs (forwarding_of w c.in_ok-rest-2.rest) in
      subst P
      (sym (led_back net failures packet c.args.router a all c.loop-i.i no_adjacency (omega arith) (omega arith)))
      (step.value w reads has (led_hops net failures packet c.args.router a (drop c.loop-i.i all))
      (c.loop-i.invariant.value w (step.builds.reads w reads) has));
}

pub returns-clause-value : goal.returns-clause-value
returns-clause-value c = λ w reads has.
    let sent = c.args.sent.now in
    let none : c.loop-i.i ≡ 0 = omega arith in
    let net = sent.net.now.files in
    let failures = failures_of w sent.sym.now in
    let packet = packet_of w sent.packet.now in
    let a = address_of w c.args.a.now in
    let all = c.adjacencies-all.result.now in
    let P : List Adjacency → Type 0 = λ xs. IsTwin (sought_by w sent.aim.now)
    (led_hops net failures packet c.args.router a xs) (forwarding_of w c.loop-i.rest) in
    let Q : List Hop → Type 0 = λ hs. IsTwin (sought_by w sent.aim.now) hs (forwarding_of w c.loop-i.rest) in
    subst Q (led_all net failures packet c.args.router a)
    (subst P (ap (λ j. drop j all) none ∙ c.adjacencies-all.ensures.value) (c.loop-i.invariant.value w reads has))
