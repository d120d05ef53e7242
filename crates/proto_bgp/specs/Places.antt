-- Candidates by their places.
use Rattle.std.specs.Prelude.{ℕ, ◌<◌, All, AllPairs, Bool, false, not, List, filter, slice_get, Option, option_map}
use Rattle.std.specs.List.{filter_map, list_any}
use Rattle.std.specs.Option.{option_map_or}
use Rattle.net_parts.specs.Decisions as decisions
use Rattle.proto_bgp.specs.declared.decision.Candidate.{Candidate}
use Rattle.net_parts.specs.declared.steps.Step.{Step}
use Rattle.proto_bgp.specs.Steps.{seen}

-- the candidate at a place
abbrev pub candidate_at : List Candidate → ℕ → Option decisions.Candidate
candidate_at candidates at = option_map seen (slice_get candidates at)

-- the candidates at some places, in their order
abbrev pub candidates_at : List Candidate → List ℕ → List decisions.Candidate
candidates_at candidates places = filter_map (candidate_at candidates) places

-- the second of two candidates removes the first in that step
abbrev pub removes : Bool → Step → decisions.Candidate → decisions.Candidate → Bool
removes always step c other = decisions.removes always step (decisions.key_of c) (decisions.key_of other)

-- whether the candidate at the second place removes that at the first
abbrev pub removes_at : Bool → Step → List Candidate → ℕ → ℕ → Bool
removes_at always step candidates at other =
    option_map_or (λ c. option_map_or (removes always step c) (candidate_at candidates other) false)
    (candidate_at candidates at) false

-- the places that a step leaves
abbrev pub places_left : Bool → List Candidate → List ℕ → Step → List ℕ
places_left always candidates left step =
    filter (λ at. not (list_any (removes_at always step candidates at) left)) left

-- places in a list of that length, in ascending order
pub record ArePlaces (count : ℕ) (places : List ℕ) : Type 0 where
  pub within : All (λ at. at < count) places
  pub ascending : AllPairs (λ a b. a < b) places
