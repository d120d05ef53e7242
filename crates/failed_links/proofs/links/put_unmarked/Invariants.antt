use Rattle.term_store.specs.Reading.{Builds}
use Rattle.failed_links.proofs.links.put_unmarked.Given as goal

abbrev pub invariant-loop-i : goal.invariant-loop-i
invariant-loop-i l = Builds l.fn.terms l.terms
