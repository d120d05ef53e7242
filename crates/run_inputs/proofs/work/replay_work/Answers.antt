use Rattle.std.proofs.Common.{ℕ, List, Option, map, refl}
use Rattle.mw_outside.specs.Contents.{Contents}
use Rattle.run_inputs.specs.declared.told.Told.{Told}
use Rattle.run_inputs.specs.declared.work.Work.TheVariants.{Replay}
use Rattle.run_inputs.specs.Due.{replaying, to_replay}
use Rattle.run_inputs.proofs.Commands.{replay_due_by, replay_stopped, works_ok, works_stop}
use Rattle.run_inputs.proofs.work.replay_work.Goals as goal

pub returns-in-Ok-clause-so : goal.returns-in-Ok-clause-so
returns-in-Ok-clause-so g c =
    let told : Option Contents = g.F.Files.contents c.args.files.now in
    let names : List (List ℕ) = map (λ s. s.now) c.args.configs.now in
    let asked : List ℕ = c.args.questions.now in
    let own : List ℕ = c.args.cex.now in
    works_ok told _ (to_replay own asked names) (Replay c.in-Ok.told) _ _ _ _ _ refl
    (replay_due_by told own asked names (replaying c.in-Ok.told.net.files c.in-Ok.told.questions c.in-Ok.told.cex) c.in-Ok.ensures.ok) refl
    c.in-Ok.ensures.admitted c.in-Ok.ensures.quiet c.in-Ok.ensures.name_stays

pub returns-in-Err-clause-so : goal.returns-in-Err-clause-so
returns-in-Err-clause-so g c =
    let told : Option Contents = g.F.Files.contents c.args.files.now in
    let names : List (List ℕ) = map (λ s. s.now) c.args.configs.now in
    let asked : List ℕ = c.args.questions.now in
    let own : List ℕ = c.args.cex.now in
    works_stop Told told _ (to_replay own asked names) c.in-Err.stop _ _ _ _ refl
    (replay_stopped told own asked names c.in-Err.stop _ _ _ c.in-Err.ensures.stop)
    c.in-Err.ensures.quiet c.in-Err.ensures.name_stays
