-- The values of the nodes so far, with one node more.
use Rattle.std.proofs.Common.{◌≡◌, ℕ, ◌+◌, Bool, List, [], ◌∷◌, ◌++◌, take, ap, ◌∙◌}
use Rattle.std.proofs.lemmas.List.{take_more}
use Rattle.std.proofs.lemmas.Option.{slice_get_within, get_or_from_slice_get}
use Rattle.term_store.specs.declared.Node.{Node}
use Rattle.term_store.specs.Terms.{Store, gate, reading_by, values_of}
use Rattle.term_store.specs.Reading.{Stands}
use Rattle.term_store.proofs.Growth.{Stands-slice_get}
use Rattle.term_store.proofs.Values.{values_after-append}

pub values_of-take : (s : Store) (valuation : List Bool) (i : ℕ) (n : Node) → Stands s i n
    → values_of (take (i + 1) s.nodes) valuation ≡ values_of (take i s.nodes) valuation ++ gate
    (reading_by valuation (values_of (take i s.nodes) valuation)) n ∷ []
values_of-take s valuation i n stands =
    let there = Stands-slice_get s i n stands in
    ap (λ l. values_of l valuation)
    (take_more s.nodes i n (slice_get_within s.nodes i n there)
    ∙ ap (λ m. take i s.nodes ++ m ∷ []) (get_or_from_slice_get s.nodes i n n there))
    ∙ values_after-append valuation (take i s.nodes) (n ∷ []) []
