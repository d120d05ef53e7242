use Rattle.std.proofs.Common.{◌∙◌, ℕ, List, subst, sym}
use Rattle.announced_places.specs.Announced.{Ascend}
use Rattle.announced_places.proofs.PlacedThings.{lens_ascend}
use Rattle.plan_places.specs.Plans.{single_plan}
use Rattle.compared_terms.proofs.tied.sym_around.Goals as goal

pub same_peers-requires-clause-lens : goal.same_peers-requires-clause-lens
same_peers-requires-clause-lens c =
    subst (λ (ls : List ℕ). Ascend ls) (sym (c.as_slice.ensures.value ∙ c.requires.lens)) (lens_ascend single_plan)
