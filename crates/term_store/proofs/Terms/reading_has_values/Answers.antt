use Rattle.std.proofs.Common.{◌≡◌, ℕ, ◌<◌, Bool, List, subst}
use Rattle.term_store.specs.Terms.{Store, Reading, Agrees, size, value_of}
use Rattle.term_store.specs.Reading.{Reads}
use Rattle.term_store.proofs.Values.{value_of-reading}
use Rattle.term_store.proofs.Terms.reading_has_values.Goals as goal

pub returns : goal.returns
returns c =
    let Law : Store → Type 0 =
    λ s. (w : Reading) (valuation : List Bool) → Reads w s → Agrees w valuation s.vars →
    (i : ℕ) → i < size s → w.node i ≡ value_of s.nodes valuation i in
    subst Law c.self.view_is
    (λ w valuation reads agrees i h. value_of-reading _ w valuation c.self.invariant reads agrees i h)
