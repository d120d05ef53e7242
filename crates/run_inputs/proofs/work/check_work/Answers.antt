use Rattle.std.proofs.Common.{ℕ, List, Option, map, refl}
use Rattle.mw_outside.specs.Contents.{Contents}
use Rattle.run_inputs.specs.declared.told.Logged.{Logged}
use Rattle.run_inputs.specs.declared.work.Work.TheVariants.{Check}
use Rattle.run_inputs.specs.Due.{checking, to_check}
use Rattle.run_inputs.proofs.Commands.{check_due_by, check_stopped, works_ok, works_stop}
use Rattle.run_inputs.proofs.work.check_work.Goals as goal

pub returns-in-Ok-clause-so : goal.returns-in-Ok-clause-so
returns-in-Ok-clause-so g c =
    let told : Option Contents = g.F.Files.contents c.args.files.now in
    let names : List (List ℕ) = map (λ s. s.now) c.args.configs.now in
    let asked : List ℕ = c.args.questions.now in
    let own : List ℕ = c.args.log.now in
    works_ok told _ (to_check own asked names) (Check c.in-Ok.logged) _ _ _ _ _ refl
    (check_due_by told own asked names (checking c.in-Ok.logged.net.files c.in-Ok.logged.questions c.in-Ok.logged.log) c.in-Ok.ensures.ok) refl
    (c.in-Ok.ensures.few, c.in-Ok.ensures.small) c.in-Ok.ensures.quiet c.in-Ok.ensures.name_stays

pub returns-in-Err-clause-so : goal.returns-in-Err-clause-so
returns-in-Err-clause-so g c =
    let told : Option Contents = g.F.Files.contents c.args.files.now in
    let names : List (List ℕ) = map (λ s. s.now) c.args.configs.now in
    let asked : List ℕ = c.args.questions.now in
    let own : List ℕ = c.args.log.now in
    works_stop Logged told _ (to_check own asked names) c.in-Err.stop _ _ _ _ refl
    (check_stopped told own asked names c.in-Err.stop _ _ _ c.in-Err.ensures.stop)
    c.in-Err.ensures.quiet c.in-Err.ensures.name_stays
