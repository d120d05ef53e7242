use Rattle.std.proofs.Common.{List, ◌≡◌, ◌∙◌, ap, sym, subst, arith, rules, drop}
use Rattle.net_interfaces.specs.declared.interfaces.Addressed.{Addressed}
use Rattle.question_lang.specs.declared.walk.Hop.{Hop}
use Rattle.sym_policy.specs.Held.{failures_of}
use Rattle.sym_policy.specs.Records.{address_of}
use Rattle.sym_forwarding.specs.Aims.{sought_by}
use Rattle.sym_forwarding.specs.Owners.{over_hops}
use Rattle.sym_policy.specs.Packets.{packet_of}
use Rattle.sym_forwarding.specs.Symbolic.{forwarding_of}
use Rattle.sym_forwarding.specs.Twins.{IsTwin}
use Rattle.sym_forwarding.proofs.OwnerHops.{no_interface, over_back}
use Rattle.sym_forwarding.proofs.over.sym_send_over.Goals as goal

pub loop-i-preserved : goal.loop-i-preserved
loop-i-preserved c = record {
  builds = search rules;
  within = search rules;
  value = λ w reads.
      let net = c.args.net.now.files in
      let failures = failures_of w c.args.sym.now in
      let packet = packet_of w c.args.packet.now in
      let key = address_of w c.args.a.now in
      let all = c.addresses-all.result.now in
      let step = c.in_ok-rest.ensures in
      let P : List Hop → Type 0 = λ hs. IsTwin (sought_by w c.args.aim.now) hs (forwarding_of w c.in_ok-rest.rest) in
      subst P
      (sym (over_back net failures packet c.args.router key all c.loop-i.i no_interface (omega arith) (omega arith)))
      (step.value w reads (over_hops net failures packet c.args.router key (drop c.loop-i.i all))
      (c.loop-i.invariant.value w (step.builds.reads w reads)));
}

pub returns-clause-value : goal.returns-clause-value
returns-clause-value c = λ w reads.
    let none : c.loop-i.i ≡ 0 = omega arith in
    let all = c.addresses-all.result.now in
    let P : List Addressed → Type 0 = λ xs. IsTwin (sought_by w c.args.aim.now)
    (over_hops c.args.net.now.files (failures_of w c.args.sym.now) (packet_of w c.args.packet.now) c.args.router
    (address_of w c.args.a.now) xs) (forwarding_of w c.loop-i.rest) in
    subst P (ap (λ j. drop j all) none ∙ c.addresses-all.ensures) (c.loop-i.invariant.value w reads)
