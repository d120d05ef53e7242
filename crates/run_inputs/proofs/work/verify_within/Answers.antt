use Rattle.std.proofs.Common.{ℕ, List, Option, Some, map, refl, subst, sym}
use Rattle.mw_outside.specs.Contents.{Contents}
use Rattle.run_inputs.specs.declared.load.Loaded.{Loaded}
use Rattle.run_inputs.specs.declared.work.Work.TheVariants.{Answer}
use Rattle.run_inputs.specs.Due.{IsDueBy, answering, to_verify}
use Rattle.run_inputs.specs.Loading.{IsBudget}
use Rattle.run_inputs.proofs.Commands.{verify_due, verify_stopped, works_ok, works_stop}
use Rattle.run_inputs.proofs.work.verify_within.Goals as goal

pub returns-in-Ok-clause-so : goal.returns-in-Ok-clause-so
returns-in-Ok-clause-so g c =
    let told : Option Contents = g.F.Files.contents c.args.files.now in
    let names : List (List ℕ) = map (λ s. s.now) c.args.configs.now in
    let asked : List ℕ = c.args.questions.now in
    let budget : ℕ = c.args.budget in
    let files = c.in-Ok.loaded.net.files in
    let questions = c.in-Ok.loaded.questions in
    let D : ℕ → Type 0 = λ b. IsDueBy told (Some (to_verify budget asked names)) (answering files questions b) in
    let B : ℕ → Type 0 = λ b. IsBudget b in
    works_ok told _ (to_verify budget asked names) (Answer c.in-Ok.loaded) _ _ _ _ _ refl
    (subst D (sym c.in-Ok.ensures.budget)
    (verify_due told budget asked names (answering files questions budget) c.in-Ok.ensures.ok)) refl
    (c.in-Ok.ensures.few, subst B (sym c.in-Ok.ensures.budget) c.requires.budget) c.in-Ok.ensures.quiet
    c.in-Ok.ensures.name_stays

pub returns-in-Err-clause-so : goal.returns-in-Err-clause-so
returns-in-Err-clause-so g c =
    let told : Option Contents = g.F.Files.contents c.args.files.now in
    let names : List (List ℕ) = map (λ s. s.now) c.args.configs.now in
    let asked : List ℕ = c.args.questions.now in
    let budget : ℕ = c.args.budget in
    works_stop Loaded told _ (to_verify budget asked names) c.in-Err.stop _ _ _ _ refl
    (verify_stopped told budget asked names c.in-Err.stop _ _ _ c.in-Err.ensures.stop)
    c.in-Err.ensures.quiet c.in-Err.ensures.name_stays
