use Rattle.std.proofs.Common.{◌∙◌, sym}
use Rattle.sym_forwarding.specs.Symbolic.{beginning_of, table_of}
use Rattle.sym_walk.specs.Whole.{whole_of}
use Rattle.sym_walk.proofs.BrokenWorlds.{breaks_all, walk_breaks}
use Rattle.sym_walk.proofs.breaks.sym_breaks.Goals as goal

pub returns-clause-sound : goal.returns-clause-sound
returns-clause-sound c = λ w reads needed broken.
    let made = c.in_ok-made.ensures in
    let after_table = made.builds.reads w reads in
    let after_begin = c.in_ok-table.ensures.builds.reads w after_table in
    walk_breaks c.args.net.now.files (whole_of w c.args.net.now.files c.args.world.now) c.args.question.now.kind
    (beginning_of w c.in_ok-begin.begin) (table_of w c.in_ok-table.table)
    (c.in_ok-table.ensures.value w after_table needed)
    (c.in_ok-begin.ensures.value w after_begin) (sym (made.value w reads) ∙ broken)

pub returns-clause-complete : goal.returns-clause-complete
returns-clause-complete c = λ w reads needed walk breaks.
    let made = c.in_ok-made.ensures in
    let after_table = made.builds.reads w reads in
    let after_begin = c.in_ok-table.ensures.builds.reads w after_table in
    made.value w reads
    ∙ breaks_all c.args.net.now.files (whole_of w c.args.net.now.files c.args.world.now) c.args.question.now.kind
    (beginning_of w c.in_ok-begin.begin) (table_of w c.in_ok-table.table)
    (c.in_ok-table.ensures.value w after_table needed)
    (c.in_ok-begin.ensures.value w after_begin) walk breaks
