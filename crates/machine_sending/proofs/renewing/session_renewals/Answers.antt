use Rattle.machine_channels.specs.Changes.{IsSmallChange, renewal}
use Rattle.machine_channels.proofs.Made.{made_more}
use Rattle.machine_laws.specs.Sending.{arriving_at, session_up_at}
use Rattle.machine_sending.proofs.renewing.session_renewals.Goals as goal

pub loop-at-preserved : goal.loop-at-preserved
loop-at-preserved c =
    made_more (λ x. IsSmallChange x) (λ k. renewal (session_up_at c.args.net.now.files c.args.state.now.failures k)
    (session_up_at c.args.net.now.files c.args.failures.now k) (arriving_at c.args.net.now.files c.args.d c.args.state.now.environment c.args.state.now.tables k))
    c.loop-at.at c.loop-at.made-inside.items.items _ c.in_ok-change.change c.loop-at.invariant c.in_ok-push.ensures.items
    c.in_ok-change.ensures.value c.in_ok-change.ensures.small
