use Rattle.std.proofs.Common.{sym, ◌∙◌, ap, ap₂, ◌||◌}
use Rattle.resolution_check.specs.Clauses.{opposite, has, without, clashing, the_one}
use Rattle.resolution_check.specs.Known.{held_on}
use Rattle.resolution_check.specs.Marked.{marked}
use Rattle.resolution_check.proofs.Chains.{next_shown}
use Rattle.resolution_check.proofs.chain.resolve_next.Goals as goal

pub returns : goal.returns
returns c = λ r shows.
    let lits = c.in-Some.clause.now.lits in
    let pivot = c.in-Some-find_pivot.pivot in
    next_shown (held_on c.args.shelf.now) c.args.marks.now c.mark_without.new.marks r c.args.at c.args.id
    c.in-Some.clause.now pivot
    (sym c.in-Some.ensures)
    (c.in-Some-find_pivot.ensures r shows ∙ ap (λ d. the_one (clashing r d)) c.as_slice-lits.ensures)
    shows
    (λ l. c.in_ok-mark_without.ensures l
    ∙ ap₂ (λ d q. has (without d q) l || marked c.unmark.new.self l) c.as_slice-lits.ensures c.opposite.ensures
    ∙ ap (λ b. has (without lits (opposite pivot)) l || b) (c.unmark.ensures l))
