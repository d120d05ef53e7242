use Rattle.std.proofs.Common.{length, rules, arith}
use Rattle.std.specs.Prelude.{All}
use Rattle.std.proofs.lemmas.Grind.{common_steps}
use Rattle.net_parts.specs.Ospf.{adjacencies}
use Rattle.machine_laws.specs.Sending.{adjacency_up_at, offered_at}
use Rattle.machine_channels.specs.Changes.{IsSmall}
use Rattle.machine_sending.proofs.Leading.{renewed}
use Rattle.machine_sending.proofs.plans.renew_adjacencies.Goals as goal

pub returns : goal.returns
returns c =
    let room : All (λ x. IsSmall x) c.args.state.now.adjacencies = first_of (search rules, grind (arith, common_steps)) in
    renewed (adjacency_up_at c.args.net.now.files c.args.state.now.failures)
    (adjacency_up_at c.args.net.now.files c.args.failures.now) (offered_at c.args.net.now.files c.args.d c.args.state.now.tables) (length (adjacencies c.args.net.now.files))
    c.args.state.now.adjacencies c.in_ok-changes.changes c.in_ok-changes.ensures.value c.requires.channels.adjacencies room
    c.in_ok-changes.ensures.small
