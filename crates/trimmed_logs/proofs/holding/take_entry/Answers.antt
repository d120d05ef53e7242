use Rattle.std.proofs.Common.{◌≡◌, ◌∙◌, ap, sym, subst, true, List, [], ◌∷◌, ◌++◌}
use Rattle.resolution_check.specs.declared.log.Entry.{Entry}
use Rattle.trimmed_logs.specs.Held.{IsHeld, IsOrder}
use Rattle.trimmed_logs.specs.Logs.{is_orderly}
use Rattle.trimmed_logs.proofs.Orders.{free_of, held_push}
use Rattle.trimmed_logs.proofs.holding.take_entry.Goals as goal

pub returns-clause-takes : goal.returns-clause-takes
returns-clause-takes c =
    let es = c.args.entries.now.items in
    let e = c.args.entry in
    let orderly : is_orderly es e ≡ true =
    sym (c.is_orderly.ensures es c.requires.held.orderly) ∙ c.if-not-is_orderly.false in (
      free_of c.step.new.self es e (c.in-Ok.ensures.ok es c.requires.held.read) orderly,
      c.in_ok-push.ensures.items ∙ ap (λ x. es ++ x ∷ []) c.in_ok-copy.ensures,
    )

pub returns-clause-held : goal.returns-clause-held
returns-clause-held c = λ right.
    let es = c.args.entries.now.items in
    let e = c.args.entry in
    let orderly : is_orderly es e ≡ true =
    sym (c.is_orderly.ensures es c.requires.held.orderly) ∙ c.if-not-is_orderly.false in
    let O : Entry → Type 0 = λ x. IsOrder c.order_with.result (es ++ x ∷ []) in
    let order = subst O c.in_ok-copy.ensures (c.order_with.ensures es c.requires.held.orderly) in
    let H : List Entry → Type 0 = λ xs. IsHeld c.step.new.self c.order_with.result xs in
    subst H (sym (c.in_ok-push.ensures.items ∙ ap (λ x. es ++ x ∷ []) c.in_ok-copy.ensures))
    (held_push c.step.new.self c.args.order.now c.order_with.result es e c.args.checker.now c.requires.held
    (c.in-Ok.ensures.ok es c.requires.held.read) orderly c.requires.text c.requires.goes_on order)
