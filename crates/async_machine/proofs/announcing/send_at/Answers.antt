use Rattle.std.proofs.Common.{◌≡◌, true, false, List, arith, rules, ap}
use Rattle.std.proofs.lemmas.Grind.{common_steps}
use Rattle.route_record.specs.declared.BgpMsg.{BgpMsg}
use Rattle.machine_laws.specs.declared.state.Channel.{Channel}
use Rattle.machine_laws.specs.declared.state.State.{State}
use Rattle.machine_laws.specs.Sending.{arriving_at, session_up_at}
use Rattle.async_machine.proofs.Posted.{sent_state, unsent_at, up_within}
use Rattle.async_machine.proofs.announcing.send_at.Goals as goal

pub returns-then-not-session_up_at-clause-ok : goal.returns-then-not-session_up_at-clause-ok
returns-then-not-session_up_at-clause-ok c =
    let s = c.args.state.now in
    let off : session_up_at c.args.net.now.files s.failures c.args.end ≡ false =
    first_of (search rules, grind (arith, common_steps)) in
    ap (λ (x : List (Channel BgpMsg)). let made : State = record s { sessions = x } in made)
    (unsent_at c.args.end (session_up_at c.args.net.now.files s.failures)
    (arriving_at c.args.net.now.files c.args.d s.environment s.tables) c.args.len s.sessions off)

pub post_at-requires : goal.post_at-requires
post_at-requires c =
    let s = c.args.state.now in
    let on : session_up_at c.args.net.now.files s.failures c.args.end ≡ true =
    first_of (search rules, grind (arith, common_steps)) in
    omega (arith, c.requires.channels.sessions, up_within c.args.net.now.files s.failures c.args.end on)

pub returns-clause-ok : goal.returns-clause-ok
returns-clause-ok c =
    let s = c.args.state.now in
    let on : session_up_at c.args.net.now.files s.failures c.args.end ≡ true =
    first_of (search rules, grind (arith, common_steps)) in
    sent_state c.args.net.now.files c.args.d s c.args.end c.args.len c.in-Ok.what c.post_at.result
    c.post_at.new.sessions c.requires.channels.sessions on c.in-Ok.ensures c.post_at.ensures.ok
