-- What stands of a simulation.
use Rattle.std.proofs.Common.{◌≡◌, ℕ, true, false, List, Option, refl, sym, ap, inr}
use Rattle.mw_outside.specs.Taken.{Takes, TakesPart}
use Rattle.ios_ast.specs.declared.file.File.{File}
use Rattle.simulation.specs.declared.simulating.Simulated.{Simulated}
use Rattle.simulation.specs.Simulating.{IsTold, Last}
use Rattle.run_answers.specs.declared.status.Status.TheVariants.{Good, Bad}
use Rattle.run_answers.specs.Simulations.{IsSimulatedSo, IsSimulationBegun, state_status}

-- of a quiet state
pub simulated_quiet : (files : List File) (last : Last) (answer : Simulated) (before now : Option (List ℕ)) →
    IsTold files last answer → answer.is_quiet ≡ true → Takes before now answer.text →
    IsSimulatedSo files last Good before now
simulated_quiet files last answer before now told is takes =
    record { answer = answer; right = told; ends = sym (ap state_status is); text = takes }

-- of a busy one
pub simulated_busy : (files : List File) (last : Last) (answer : Simulated) (before now : Option (List ℕ)) →
    IsTold files last answer → answer.is_quiet ≡ false → Takes before now answer.text →
    IsSimulatedSo files last Bad before now
simulated_busy files last answer before now told is takes =
    record { answer = answer; right = told; ends = sym (ap state_status is); text = takes }

-- a front of it
pub simulated_cut : (files : List File) (last : Last) (answer : Simulated) (before now : Option (List ℕ)) →
    IsTold files last answer → TakesPart before now answer.text → IsSimulationBegun files last before now
simulated_cut files last answer before now told part = (answer.text, inr (answer, told, refl), part)
