use Rattle.std.proofs.Common.{◌∙◌, Bool, ap, cond, sym}
use Rattle.mw_text.specs.Address.{covers}
use Rattle.net_parts.specs.Sending.{is_on_least_walk}
use Rattle.sym_policy.specs.Held.{failures_of}
use Rattle.sym_policy.specs.Records.{address_of}
use Rattle.term_store.specs.Terms.{at}
use Rattle.sym_forwarding.proofs.distances.sym_leads_at.Goals as goal

pub returns-clause-value : goal.returns-clause-value
returns-clause-value c = λ w reads has.
    let led = c.args.led.now in
    let made = c.in_ok-made.ensures in
    let least = c.in_ok-least.ensures in
    let after = made.builds.reads w reads in
    let on = is_on_least_walk led.net.now.files (failures_of w led.sym.now) led.router c.args.p.now led.x.now in
    made.value w reads
    ∙ ap (λ (b : Bool). cond b (at w c.in_ok-least.least) (at w c.args.behind))
    (c.in_ok-inside.ensures.value w (least.builds.reads w after))
    ∙ ap (λ (b : Bool). cond (covers c.args.p.now (address_of w led.a.now)) b (at w c.args.behind))
    (least.value w after has)

pub returns-then-is_never-clause-value : goal.returns-then-is_never-clause-value
returns-then-is_never-clause-value c = λ w reads has.
    let led = c.args.led.now in
    let net = led.net.now.files in
    let fails = sym (c.in_ok-inside.ensures.value w reads) ∙ c.is_never.ensures.never c.if-is_never.true w reads in
    sym (ap (λ (b : Bool). cond b (is_on_least_walk net (failures_of w led.sym.now) led.router c.args.p.now
    led.x.now) (at w c.args.behind)) fails)
