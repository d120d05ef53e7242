use Rattle.std.proofs.Common.{◌∙◌, ap, sym, max, ◌||◌}
use Rattle.trimmed_logs.specs.Logs.{is_step}
use Rattle.trimmed_logs.proofs.Orders.{order_push}
use Rattle.trimmed_logs.proofs.holding.order_with.Goals as goal

pub returns-then-order : goal.returns-then-order
returns-then-order c = λ es o.
    order_push c.args.order _ es c.args.entry.now o (c.max.ensures ∙ ap (max c.args.order.top) c.number_given.ensures)
    (c.if-order.true ∙ sym (ap (λ b. b || is_step c.args.entry.now) c.if-order.true))

pub returns-else-order : goal.returns-else-order
returns-else-order c = λ es o.
    order_push c.args.order _ es c.args.entry.now o (c.max.ensures ∙ ap (max c.args.order.top) c.number_given.ensures)
    (c.is_step.ensures ∙ sym (ap (λ b. b || is_step c.args.entry.now) c.if-order.false))
