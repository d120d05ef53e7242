use Rattle.std.proofs.Common.{◌-◌, ◌∙◌, ap, arith, rules, cond, get_or, length, Bool}
use Rattle.mw_text.specs.declared.address.Prefix.{Prefix}
use Rattle.mw_text.specs.Address.{covers}
use Rattle.net_parts.specs.Ospf.{advertised}
use Rattle.net_parts.specs.Sending.{is_on_least_walk}
use Rattle.sym_policy.specs.Held.{failures_of}
use Rattle.sym_policy.specs.Records.{address_of}
use Rattle.sym_forwarding.proofs.LeastWalks.{leads_back}
use Rattle.sym_forwarding.proofs.distances.sym_leads.Goals as goal

pub loop-k-preserved : goal.loop-k-preserved
loop-k-preserved c =
    let step = c.in_ok-rest-2.ensures in
    let net = c.args.net.now.files in
    let router = c.args.router in
    let none : Prefix = record { addr = record { 0 = 0 }; len = 0 } in
    let p = get_or c.advertised.result.now (c.loop-k.k - 1) none in
    let outer = ap length c.advertised-k.ensures.value in
    record {
      builds = search rules;
      within = search rules;
      value = λ w reads has.
          let failures = failures_of w c.args.sym.now in
          let a = address_of w c.args.a.now in
          step.value w reads has
          ∙ ap (λ (b : Bool). cond (covers p a) (is_on_least_walk net failures router p c.args.x.now) b)
          (c.loop-k.invariant.value w (step.builds.reads w reads) has)
          ∙ leads_back net failures router a c.args.x.now (advertised net) c.advertised.result.now c.loop-k.k none
          (omega arith) (omega (arith, outer)) c.advertised.ensures.value;
    }
