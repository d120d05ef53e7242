use Rattle.std.proofs.Common.{◌≡◌, ℕ, ap, subst}
use Rattle.mw_text.specs.declared.address.Addr.{Addr}
use Rattle.net_parts.specs.Routing.{up_interfaces}
use Rattle.question_lang.specs.Hops.{all_up, send_over}
use Rattle.sym_policy.specs.Held.{failures_of}
use Rattle.sym_forwarding.specs.Aims.{sought_by}
use Rattle.sym_policy.specs.Packets.{packet_of}
use Rattle.sym_forwarding.specs.Symbolic.{forwarding_of}
use Rattle.sym_forwarding.specs.Twins.{IsTwin}
use Rattle.term_arith.specs.Bits.{number}
use Rattle.sym_forwarding.proofs.statics.sym_to.Goals as goal

pub returns-clause-value : goal.returns-clause-value
returns-clause-value c = λ w reads.
    let made = c.in_ok-made.ensures in
    let net = c.args.net.now.files in
    let failures = failures_of w c.args.sym.now in
    let P : Addr → Type 0 = λ b. IsTwin (sought_by w c.args.aim.now)
    (send_over net (packet_of w c.args.packet.now) (all_up net failures) (up_interfaces net failures c.args.router) b)
    (forwarding_of w c.in_ok-made.made) in
    let value = c.in_ok-bits.ensures.value w (made.builds.reads w reads) in
    let same : number w c.in_ok-bits.bits.nodes.items ≡ c.args.a.0 = cc in
    let one : record { 0 = number w c.in_ok-bits.bits.nodes.items } ≡ c.args.a =
    ap (λ (n : ℕ). record { 0 = n }) same in
    subst P one (made.value w reads)
