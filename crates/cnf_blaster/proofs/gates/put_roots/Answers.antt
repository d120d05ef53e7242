use Rattle.std.proofs.lemmas.Option.{slice_get-get_or}
use Rattle.cnf_blaster.specs.Laws.{number_at}
use Rattle.cnf_blaster.proofs.Steps.{roots-then}
use Rattle.cnf_blaster.proofs.gates.put_roots.Goals as goal

pub loop-root-preserved : goal.loop-root-preserved
loop-root-preserved c = λ var same.
    roots-then var
    (number_at c.args.numbers.now) c.args.roots.now c.loop-root.root-index _ c.args.clauses.now c.loop-root.clauses _
    c.loop-root-test.true
    (same _ (c.requires c.loop-root.root-index _
    (slice_get-get_or c.args.roots.now c.loop-root.root-index _ c.loop-root-test.true)))
    (c.loop-root.invariant var same) (rw c.yes_of.ensures at c.in_ok-put.ensures)
