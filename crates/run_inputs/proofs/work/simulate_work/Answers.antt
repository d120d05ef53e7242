use Rattle.std.proofs.Common.{ℕ, List, Option, map, refl}
use Rattle.mw_outside.specs.Contents.{Contents}
use Rattle.simulation.specs.declared.simulating.Simulated.{Simulated}
use Rattle.run_inputs.specs.declared.work.Work.TheVariants.{Simulate}
use Rattle.run_inputs.specs.Due.{to_simulate}
use Rattle.run_inputs.proofs.Commands.{simulate_due_by, simulate_stopped, works_ok, works_stop}
use Rattle.run_inputs.proofs.work.simulate_work.Goals as goal

pub returns-in-Ok-clause-so : goal.returns-in-Ok-clause-so
returns-in-Ok-clause-so g c =
    let told : Option Contents = g.F.Files.contents c.args.files.now in
    let names : List (List ℕ) = map (λ s. s.now) c.args.configs.now in
    let events : List ℕ = c.args.events.now in
    let due = simulate_due_by told events names c.in-Ok.answer c.in-Ok.ensures.ok in
    works_ok told _ (to_simulate events names) (Simulate c.in-Ok.answer) due.0 _ _ _ _ refl due.1 due.2 tt
    c.in-Ok.ensures.quiet c.in-Ok.ensures.name_stays

pub returns-in-Err-clause-so : goal.returns-in-Err-clause-so
returns-in-Err-clause-so g c =
    let told : Option Contents = g.F.Files.contents c.args.files.now in
    let names : List (List ℕ) = map (λ s. s.now) c.args.configs.now in
    let events : List ℕ = c.args.events.now in
    works_stop Simulated told _ (to_simulate events names) c.in-Err.stop _ _ _ _ refl
    (simulate_stopped told events names c.in-Err.stop _ _ _ c.in-Err.ensures.stop)
    c.in-Err.ensures.quiet c.in-Err.ensures.name_stays
