use Rattle.std.proofs.Common.{sym, ◌∙◌}
use Rattle.mw_text.proofs.Octets.{addr_of_cuts}
use Rattle.mw_text.proofs.digits.read_addr.Goals as goal

pub returns : goal.returns
returns c =
    let whole = addr_of_cuts c.args.word.now (c.in_ok-first.first.now, c.in_ok-first.rest.now)
    (c.in_ok-second.second.now, c.in_ok-second.rest.now) (c.in_ok-third.third.now, c.in_ok-third.fourth.now)
    (sym c.in_ok-first.ensures) (sym c.in_ok-second.ensures) (sym c.in_ok-third.ensures) in
    let joined = simp (c.read_octets.ensures.value, c.read_octets-2.ensures.value) at c.join_octets.ensures in
    joined ∙ sym whole
