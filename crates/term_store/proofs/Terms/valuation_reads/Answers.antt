use Rattle.std.proofs.Common.{subst}
use Rattle.term_store.specs.Terms.{reading_of}
use Rattle.term_store.specs.Reading.{Reads}
use Rattle.term_store.proofs.Values.{Reads-reading_of}
use Rattle.term_store.proofs.Terms.valuation_reads.Goals as goal

pub returns : goal.returns
returns c =
    λ valuation. subst (λ s. Reads (reading_of s.nodes valuation) s) c.self.view_is
    (Reads-reading_of _ valuation c.self.invariant)
