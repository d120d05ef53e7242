-- Of two candidates with one key both survive or none.
use Rattle.std.proofs.Common.{◌≡◌, Bool, true, false, not, List, [], ◌∷◌, fold, ap}
use Rattle.std.proofs.Common.{◌∙◌, if◌then◌else◌}
use Rattle.std.specs.List.{list_any}
use Rattle.mw_text.specs.Members.{In}
use Rattle.net_interfaces.proofs.Members.{filter-in}
use Rattle.net_parts.specs.declared.steps.Step.{Step}
use Rattle.net_parts.specs.Decisions.{Key, after_cost, is_compared_by, removes, step_by, survivors_by, to_cost}
use Rattle.net_parts.proofs.LeastWalks.{in-filter}

module _ {X : Type 0} (key : X → Key) (always : Bool) where
  steps_before : (steps : List Step) (left : List X) (c : X) → In c (fold (step_by key always) left steps) → In c left
  steps_before [] left c there = there
  steps_before (s ∷ steps) left c there =
      (in-filter (λ d. not (list_any (λ other. removes always s (key d) (key other)) left)) left c
      (steps_before steps (step_by key always left s) c there)).0

  steps_keep : (steps : List Step) (left : List X) (c d : X) → key c ≡ key d → In c left →
      In d (fold (step_by key always) left steps) → In c (fold (step_by key always) left steps)
  steps_keep [] left c d same there stays = there
  steps_keep (s ∷ steps) left c d same there stays =
      let passes = (in-filter (λ x. not (list_any (λ other. removes always s (key x) (key other)) left)) left d
      (steps_before steps (step_by key always left s) d stays)).1 in
      steps_keep steps (step_by key always left s) c d same
      (filter-in (λ x. not (list_any (λ other. removes always s (key x) (key other)) left)) left c there
      (ap (λ k. not (list_any (λ other. removes always s k (key other)) left)) same ∙ passes)) stays

  pub same_survives : (compare_id : Bool) (all : List X) (c d : X) → key c ≡ key d → In c all →
      In d (survivors_by key always compare_id all) → In c (survivors_by key always compare_id all)
  same_survives compare_id all c d same there stays =
      by (is_compared_by key compare_id (fold (step_by key always) all to_cost)) stays
    where
      left : List X
      left = fold (step_by key always) all to_cost

      by : (b : Bool) → In d (if b then fold (step_by key always) left after_cost else left) →
          In c (if b then fold (step_by key always) left after_cost else left)
      by true stays =
          steps_keep after_cost left c d same
          (steps_keep to_cost all c d same there (steps_before after_cost left d stays)) stays
      by false stays = steps_keep to_cost all c d same there stays
