use Rattle.std.proofs.Common.{◌≡◌, true, false, length, rules, arith}
use Rattle.std.specs.Prelude.{All}
use Rattle.std.proofs.lemmas.Grind.{common_steps}
use Rattle.net_parts.specs.Ospf.{adjacencies}
use Rattle.machine_laws.specs.Sending.{adjacency_up_at, offered_at, offers_from}
use Rattle.machine_channels.specs.Changes.{IsSmall}
use Rattle.machine_sending.proofs.Leading.{told, told_nothing}
use Rattle.machine_sending.proofs.plans.tell_adjacencies.Goals as goal

pub returns-then-not-changed : goal.returns-then-not-changed
returns-then-not-changed c =
    let off : c.args.changed ≡ false = first_of (search rules, grind (arith, common_steps)) in
    told_nothing c.args.changed (offers_from c.args.net.now.files c.args.router)
    (adjacency_up_at c.args.net.now.files c.args.state.now.failures) (offered_at c.args.net.now.files c.args.d c.args.state.now.tables) c.args.len c.args.state.now.adjacencies off

pub returns : goal.returns
returns c =
    let on : c.args.changed ≡ true = first_of (search rules, grind (arith, common_steps)) in
    let room : All (λ x. IsSmall x) c.args.state.now.adjacencies = first_of (search rules, grind (arith, common_steps)) in
    told c.args.changed (offers_from c.args.net.now.files c.args.router)
    (adjacency_up_at c.args.net.now.files c.args.state.now.failures) (offered_at c.args.net.now.files c.args.d c.args.state.now.tables) c.args.len (length (adjacencies c.args.net.now.files))
    c.args.state.now.adjacencies c.in_ok-changes.changes on c.in_ok-changes.ensures.value c.requires.channels.adjacencies room
    c.in_ok-changes.ensures.small
