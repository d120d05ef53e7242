use Rattle.config_lint.proofs.Steps.{step_more}
use Rattle.config_lint.proofs.search.find_all.Goals as goal

pub search-preserved : goal.search-preserved
search-preserved c =
    step_more c.args.bytes.now c.search.told c.note_next.new.told c.search.flags c.note_next.new.flags
    c.in_ok-note_next.field-0 c.search.invariant.1 c.if-not-branch.false c.in_ok-note_next.ensures
