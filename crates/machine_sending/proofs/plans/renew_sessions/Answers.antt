use Rattle.std.proofs.Common.{length, rules, arith}
use Rattle.std.specs.Prelude.{All}
use Rattle.std.proofs.lemmas.Grind.{common_steps}
use Rattle.net_parts.specs.Sessions.{ends_of}
use Rattle.machine_laws.specs.Sending.{arriving_at, session_up_at}
use Rattle.machine_channels.specs.Changes.{IsSmall}
use Rattle.machine_sending.proofs.Leading.{renewed}
use Rattle.machine_sending.proofs.plans.renew_sessions.Goals as goal

pub returns : goal.returns
returns c =
    let room : All (λ x. IsSmall x) c.args.state.now.sessions = first_of (search rules, grind (arith, common_steps)) in
    renewed (session_up_at c.args.net.now.files c.args.state.now.failures)
    (session_up_at c.args.net.now.files c.args.failures.now) (arriving_at c.args.net.now.files c.args.d c.args.state.now.environment c.args.state.now.tables) (length (ends_of c.args.net.now.files))
    c.args.state.now.sessions c.in_ok-changes.changes c.in_ok-changes.ensures.value c.requires.channels.sessions room
    c.in_ok-changes.ensures.small
