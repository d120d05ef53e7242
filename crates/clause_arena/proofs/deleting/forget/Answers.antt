use Rattle.std.proofs.Common.{sym, ◌∙◌}
use Rattle.clause_arena.proofs.Places.{removed, found_ok, forgets_none, others_all}
use Rattle.clause_arena.proofs.deleting.forget.Goals as goal

pub returns-in-Ok : goal.returns-in-Ok
returns-in-Ok c =
    let xs = c.args.refs.now.items in
    let k = found_ok xs c.deref.result.now c.args.clause c.in-Ok.at c.binary_search.result c.deref.ensures.value
    c.requires c.binary_search.ensures.position c.in-Ok.is in
    c.remove.ensures.items ∙ removed xs c.args.clause c.in-Ok.at c.requires k.0 k.1

pub returns-in_default : goal.returns-in_default
returns-in_default c =
    let xs = c.args.refs.now.items in
    sym (others_all xs c.args.clause (forgets_none xs c.deref.result.now c.args.clause c.in_default.field-0
    c.binary_search.result c.deref.ensures.value c.requires c.binary_search.ensures.position c.in_default.is))
