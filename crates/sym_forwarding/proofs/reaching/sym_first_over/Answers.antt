use Rattle.std.proofs.Common.{List, subst, arith, rules, take}
use Rattle.net_interfaces.specs.declared.interfaces.Addressed.{Addressed}
use Rattle.net_interfaces.specs.Interfaces.{addressed}
use Rattle.sym_policy.specs.Held.{failures_of}
use Rattle.sym_policy.specs.Records.{address_of}
use Rattle.sym_forwarding.specs.Aims.{sought_by}
use Rattle.sym_forwarding.specs.Firsts.{IsFirstIn, reaches, sent_to}
use Rattle.sym_policy.specs.Packets.{packet_of}
use Rattle.sym_forwarding.proofs.FirstHops.{taken_all, taken_more}
use Rattle.sym_forwarding.proofs.OwnerHops.{no_interface}
use Rattle.sym_forwarding.proofs.reaching.sym_first_over.Goals as goal

pub loop-x-init : goal.loop-x-init
loop-x-init c = record {
  builds = search rules;
  within = search rules;
  value = λ w reads.
      let sent = c.args.sent.now in
      c.in_ok-first.ensures.value w reads (sought_by w sent.aim.now)
      (reaches sent.net.now.files (failures_of w sent.sym.now) c.args.router (address_of w c.args.a.now))
      (sent_to sent.net.now.files (failures_of w sent.sym.now) (packet_of w sent.packet.now)
      (address_of w c.args.a.now));
}

pub loop-x-preserved : goal.loop-x-preserved
loop-x-preserved c = record {
  builds = search rules;
  within = search rules;
  value = λ w reads.
      let sent = c.args.sent.now in
      let step = c.in_ok-first-2.ensures in
      let all = c.addresses-x-items.result.now in
      let xs = addressed sent.net.now.files in
      let P : List Addressed → Type 0 = λ ys. IsFirstIn w (sought_by w sent.aim.now)
      (reaches sent.net.now.files (failures_of w sent.sym.now) c.args.router (address_of w c.args.a.now))
      (sent_to sent.net.now.files (failures_of w sent.sym.now) (packet_of w sent.packet.now)
      (address_of w c.args.a.now)) ys c.in_ok-first-2.first in
      subst P (taken_more all xs c.loop-x.x-index no_interface c.addresses-x-items.ensures
      (omega (arith, c.loop-x-test.true, c.loop-x.auto.x-index-end)))
      (step.value w reads (take c.loop-x.x-index xs) (c.loop-x.invariant.value w (step.builds.reads w reads)));
}

pub returns-clause-value : goal.returns-clause-value
returns-clause-value c = λ w reads.
    let sent = c.args.sent.now in
    let all = c.addresses-x-items.result.now in
    let P : List Addressed → Type 0 = λ xs. IsFirstIn w (sought_by w sent.aim.now)
    (reaches sent.net.now.files (failures_of w sent.sym.now) c.args.router (address_of w c.args.a.now))
    (sent_to sent.net.now.files (failures_of w sent.sym.now) (packet_of w sent.packet.now)
    (address_of w c.args.a.now)) xs c.loop-x.first in
    subst P (taken_all all (addressed sent.net.now.files) c.loop-x.x-index c.addresses-x-items.ensures
    (omega (arith, c.loop-x-test.false, c.loop-x.auto.x-index-end))) (c.loop-x.invariant.value w reads)
