-- Where a decider that goes by order stands.
use Rattle.std.specs.Prelude.{ℕ, Bool}
use Rattle.deciders.specs.declared.order.OrderDecider.{OrderDecider}

-- the first variable that it has not passed
abbrev pub next_of : OrderDecider → ℕ
next_of decider = decider.next

-- whether it goes by order, and not by scores
abbrev pub goes_by_order : OrderDecider → Bool
goes_by_order decider = decider.is_ordered
