use Rattle.std.specs.Prelude.{◌+◌, ◌<◌}
use Rattle.std.proofs.Common.{sym, subst}
use Rattle.clause_arena.specs.declared.names.ClauseRef.{ClauseRef}
use Rattle.clause_arena.specs.Links.{word}
use Rattle.mw_text.specs.Members.{In}
use Rattle.clause_arena.specs.Store.{Store}
use Rattle.clause_arena.proofs.arena.Arena.add.Goals as goal

pub add_in-requires-clause-above : goal.add_in-requires-clause-above
add_in-requires-clause-above c = λ s i.
    subst (λ (a : Store). (r : ClauseRef) → In r.0 a.refs → word a.words (r.0 + 1) < c.args.id)
    (sym c.self.view_is) c.requires.above
    (record { 0 = s }) i
