use Rattle.cnf_blaster.specs.Laws.{marked}
use Rattle.cnf_blaster.proofs.Steps.{reached-all}
use Rattle.cnf_blaster.proofs.marks.mark_from.Goals as goal

pub returns : goal.returns
returns c =
    reached-all c.args.terms.now.nodes c.args.roots.now (marked c.args.marks.now) (marked c.mark_all.new.marks)
    (marked c.mark_reached.new.marks) c.requires.none c.mark_all.ensures c.mark_reached.ensures
