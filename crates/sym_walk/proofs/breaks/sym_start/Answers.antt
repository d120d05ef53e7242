use Rattle.std.proofs.Common.{◌≡◌, ◌∙◌, subst}
use Rattle.question_lang.specs.declared.question.Start.{Start}
use Rattle.sym_policy.specs.Held.{failures_of}
use Rattle.sym_forwarding.specs.Beginnings.{begins_at}
use Rattle.sym_policy.specs.Packets.{packet_of}
use Rattle.sym_forwarding.specs.Symbolic.{beginning_of}
use Rattle.sym_walk.proofs.breaks.sym_start.Goals as goal

pub returns-in_ok-made-in-Some-clause-value : goal.returns-in_ok-made-in-Some-clause-value
returns-in_ok-made-in-Some-clause-value c = λ w reads start asked.
    let both = c.in-Some.ensures ∙ asked in
    let one : c.in-Some.first ≡ start = cc in
    let P : Start → Type 0 = λ s. beginning_of w c.in_ok-made-in-Some.made
    ≡ begins_at c.args.net.now.files (failures_of w c.args.sym.now) (packet_of w c.args.packet.now) s in
    subst P one (c.in_ok-made-in-Some.ensures.value w reads)
