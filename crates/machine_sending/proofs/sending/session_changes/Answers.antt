use Rattle.machine_channels.specs.Changes.{IsSmallChange, sending}
use Rattle.machine_channels.proofs.Made.{made_more}
use Rattle.machine_laws.specs.Sending.{arriving_at, comes_from, session_up_at}
use Rattle.machine_sending.proofs.sending.session_changes.Goals as goal

pub loop-at-preserved : goal.loop-at-preserved
loop-at-preserved c =
    made_more (λ x. IsSmallChange x) (sending (comes_from c.args.net.now.files c.args.router)
    (session_up_at c.args.net.now.files c.args.state.now.failures) (arriving_at c.args.net.now.files c.args.d c.args.state.now.environment c.args.state.now.tables) c.args.len)
    c.loop-at.at c.loop-at.made-inside.items.items _ c.in_ok-change.change c.loop-at.invariant c.in_ok-push.ensures.items
    c.in_ok-change.ensures.value c.in_ok-change.ensures.small
