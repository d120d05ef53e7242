use Rattle.std.proofs.Common.{◌≡◌, true, false, length, rules, arith}
use Rattle.std.specs.Prelude.{All}
use Rattle.std.proofs.lemmas.Grind.{common_steps}
use Rattle.net_parts.specs.Sessions.{ends_of}
use Rattle.machine_laws.specs.Sending.{arriving_at, comes_from, session_up_at}
use Rattle.machine_channels.specs.Changes.{IsSmall}
use Rattle.machine_sending.proofs.Leading.{told, told_nothing}
use Rattle.machine_sending.proofs.plans.tell_sessions.Goals as goal

pub returns-then-not-changed : goal.returns-then-not-changed
returns-then-not-changed c =
    let off : c.args.changed ≡ false = first_of (search rules, grind (arith, common_steps)) in
    told_nothing c.args.changed (comes_from c.args.net.now.files c.args.router)
    (session_up_at c.args.net.now.files c.args.state.now.failures) (arriving_at c.args.net.now.files c.args.d c.args.state.now.environment c.args.state.now.tables) c.args.len c.args.state.now.sessions off

pub returns : goal.returns
returns c =
    let on : c.args.changed ≡ true = first_of (search rules, grind (arith, common_steps)) in
    let room : All (λ x. IsSmall x) c.args.state.now.sessions = first_of (search rules, grind (arith, common_steps)) in
    told c.args.changed (comes_from c.args.net.now.files c.args.router)
    (session_up_at c.args.net.now.files c.args.state.now.failures) (arriving_at c.args.net.now.files c.args.d c.args.state.now.environment c.args.state.now.tables) c.args.len (length (ends_of c.args.net.now.files))
    c.args.state.now.sessions c.in_ok-changes.changes on c.in_ok-changes.ensures.value c.requires.channels.sessions room
    c.in_ok-changes.ensures.small
