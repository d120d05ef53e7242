-- Steps of the loops over marks and over routes.
use Rattle.std.proofs.Common.{◌≡◌, ℕ, ◌+◌, ◌&&◌, Bool, List, [], ◌∷◌, refl}
use Rattle.std.proofs.lemmas.Grind.{common_steps}
use Rattle.term_arith.proofs.NumberLemmas.{bits_push, ids_end_push}
use Rattle.failed_links.proofs.Steps.{grows_grown}
use Rattle.sym_rib.proofs.OneEach.{items_at}
use Rattle.bgp_variables.specs.Marks.{mark_width, marks_from, marks_width}

pub marks_next : (may : Bool) (mays : List Bool) (v : ℕ → Bool) (from : ℕ) →
    marks_from (may ∷ mays) v from ≡ (may && v from) ∷ marks_from mays v (from + mark_width may)
unfolding marks_from
marks_next may mays v from = refl

pub marks_none : (v : ℕ → Bool) (from : ℕ) → marks_from [] v from ≡ []
unfolding marks_from
marks_none v from = refl

pub width_next : (may : Bool) (mays : List Bool) →
    marks_width (may ∷ mays) ≡ mark_width may + marks_width mays
unfolding marks_width
width_next may mays = refl

pub width_none : marks_width [] ≡ 0
unfolding marks_width
width_none = refl

pub ruleset mark_steps =
    (common_steps, grows_grown, ids_end_push, bits_push, items_at, marks_next, marks_none, width_next, width_none)
