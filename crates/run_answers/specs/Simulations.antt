-- What stands of a simulation.
use Rattle.std.specs.Prelude.{◌≡◌, ◌⊎◌, ℕ, Bool, List, [], Option, if◌then◌else◌}
use Rattle.mw_outside.specs.Taken.{Takes, TakesPart}
use Rattle.ios_ast.specs.declared.file.File.{File}
use Rattle.simulation.specs.declared.simulating.Simulated.{Simulated}
use Rattle.simulation.specs.Simulating.{IsTold, Last}
use Rattle.run_answers.specs.declared.status.Status.{Status}
use Rattle.run_answers.specs.declared.status.Status.TheVariants.{Good, Bad}

-- 0 of a quiet state, 1 of a busy one
abbrev pub state_status : Bool → Status
state_status quiet = if quiet then Good else Bad

-- what is said of the last state stands: whether it is quiet, which comes with stable tables alone, and the tables; and
-- the status is its
pub record IsSimulatedSo (files : List File) (last : Last) (status : Status) (before now : Option (List ℕ)) : Type 0
  where
    pub answer : Simulated
    pub right : IsTold files last answer
    pub ends : status ≡ state_status answer.is_quiet
    pub text : Takes before now answer.text

-- a front of it, where something was said
abbrev pub IsSimulationBegun : List File → Last → Option (List ℕ) → Option (List ℕ) → Type 0
IsSimulationBegun files last before now =
    (text : List ℕ)
    × ((text ≡ []) ⊎ ((answer : Simulated) × IsTold files last answer × (text ≡ answer.text)))
    × TakesPart before now text
