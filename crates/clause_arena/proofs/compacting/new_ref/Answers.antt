use Rattle.std.specs.Prelude.{refl}
use Rattle.std.proofs.Common.{sym, ◌∙◌, ap}
use Rattle.clause_arena.specs.Compacted.{renamed}
use Rattle.clause_arena.proofs.Places.{found_ok, forgets_none}
use Rattle.clause_arena.proofs.Renaming.{renamed_at, renamed_none}
use Rattle.clause_arena.proofs.compacting.new_ref.Goals as goal

pub returns-in-Ok : goal.returns-in-Ok
returns-in-Ok c =
    let a = c.args in
    let k = found_ok a.refs.now a.refs.now a.clause c.in-Ok.at c.binary_search.result refl c.requires.rising
    c.binary_search.ensures.position c.in-Ok.is in
    sym (ap (renamed a.refs.now a.moved.now) (sym k.1)
    ∙ renamed_at a.refs.now a.moved.now c.in-Ok.at c.requires.rising c.requires.count k.0)

pub returns-in-Err : goal.returns-in-Err
returns-in-Err c =
    let a = c.args in
    sym (renamed_none a.refs.now a.moved.now a.clause (forgets_none a.refs.now a.refs.now a.clause c.in-Err.field-0
    c.binary_search.result refl c.requires.rising c.binary_search.ensures.position c.in-Err.is))
