use Rattle.std.proofs.Common.{◌-◌, ◌∙◌, ap, arith, rules, if◌then◌else◌, get_or, length, Option, option_map}
use Rattle.mw_text.specs.declared.address.Prefix.{Prefix}
use Rattle.mw_text.specs.Address.{covers}
use Rattle.route_record.specs.declared.OspfRec.{OspfRec}
use Rattle.net_parts.specs.Distances.{interior_distance}
use Rattle.net_parts.specs.Ospf.{advertised}
use Rattle.sym_policy.specs.Held.{failures_of, internal_route}
use Rattle.sym_policy.specs.Records.{address_of}
use Rattle.sym_ospf.proofs.Reach.{found_step}
use Rattle.sym_ospf.proofs.resolution.sym_found.Goals as goal

pub loop-k-preserved : goal.loop-k-preserved
loop-k-preserved c =
    let step = c.in_ok-rest-2.ensures in
    let hop = c.args.hop.now in
    let net = hop.net.now.files in
    let router = hop.router in
    let none : Prefix = record { addr = record { 0 = 0 }; len = 0 } in
    let p = get_or c.advertised.result.now (c.loop-k.k - 1) none in
    let outer = ap length c.advertised-k.ensures.value in
    record {
      builds = search rules;
      within = search rules;
      value = λ w reads has.
          let failures = failures_of w hop.sym.now in
          let a = address_of w hop.a.now in
          step.value w reads has
          ∙ ap (λ (o : Option OspfRec). if covers p a
          then option_map internal_route (interior_distance net failures router p) else o)
          (c.loop-k.invariant.value w (step.builds.reads w reads) has)
          ∙ found_step net failures router a (advertised net) c.advertised.result.now c.loop-k.k none (omega arith)
          (omega (arith, outer)) c.advertised.ensures.value;
    }
