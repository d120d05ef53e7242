use Rattle.std.proofs.Common.{◌≡◌, ◌∙◌, [], ◌∷◌, List, ap, sym, subst, arith, rules, drop}
use Rattle.net_interfaces.specs.declared.interfaces.Addressed.{Addressed}
use Rattle.question_lang.specs.declared.walk.Hop.{Hop}
use Rattle.sym_policy.specs.Held.{failures_of}
use Rattle.sym_policy.specs.Records.{address_of}
use Rattle.sym_forwarding.specs.Aims.{sought_by}
use Rattle.sym_forwarding.specs.Owners.{owner_hop}
use Rattle.sym_policy.specs.Packets.{packet_of}
use Rattle.sym_forwarding.specs.Symbolic.{forwarding_of}
use Rattle.sym_forwarding.specs.Twins.{IsTwin}
use Rattle.sym_forwarding.proofs.OwnerHops.{no_interface, owner_back}
use Rattle.sym_forwarding.proofs.owners.sym_owner.Goals as goal

pub loop-i-preserved : goal.loop-i-preserved
loop-i-preserved c = record {
  builds = search rules;
  within = search rules;
  value = λ w reads hop twin.
      let sent = c.args.sent.now in
      let net = sent.net.now.files in
      let failures = failures_of w sent.sym.now in
      let packet = packet_of w sent.packet.now in
      let subnet = c.args.subnet.now in
      let a = address_of w c.args.a.now in
      let all = c.addresses-all.result.now in
      let step = c.in_ok-put_owner.ensures in
      let P : Hop → Type 0 = λ h. IsTwin (sought_by w sent.aim.now) (h ∷ []) (forwarding_of w c.put_owner.new.rest) in
      subst P
      (sym (owner_back net failures packet subnet a hop all c.loop-i.i no_interface (omega arith) (omega arith)))
      (step.value w reads (owner_hop net failures packet subnet a hop (drop c.loop-i.i all))
      (c.loop-i.invariant.value w (step.builds.reads w reads) hop twin));
}

pub returns-clause-value : goal.returns-clause-value
returns-clause-value c = λ w reads hop twin.
    let sent = c.args.sent.now in
    let none : c.loop-i.i ≡ 0 = omega arith in
    let all = c.addresses-all.result.now in
    let P : List Addressed → Type 0 = λ xs. IsTwin (sought_by w sent.aim.now)
    (owner_hop sent.net.now.files (failures_of w sent.sym.now) (packet_of w sent.packet.now) c.args.subnet.now
    (address_of w c.args.a.now) hop xs ∷ []) (forwarding_of w c.loop-i.rest) in
    subst P (ap (λ j. drop j all) none ∙ c.addresses-all.ensures) (c.loop-i.invariant.value w reads hop twin)
