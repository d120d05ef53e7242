use Rattle.std.proofs.Common.{ℕ, List, Option, map, option_map}
use Rattle.mw_outside.specs.Contents.{Contents}
use Rattle.run_inputs.proofs.Commands.{verify_command, verify_none, works_as, works_none}
use Rattle.run_inputs.proofs.work.verify_work.Goals as goal

pub returns-in-None-clause-so : goal.returns-in-None-clause-so
returns-in-None-clause-so g c =
    works_none (g.F.Files.contents c.args.files.now) _ _ _
    (verify_none (option_map (λ s. s.now) c.args.conflicts) c.args.questions.now (map (λ s. s.now) c.args.configs.now)
    c.budget_of.result c.budget_of.ensures.value c.in-None.is)

pub returns-in-Some-clause-so : goal.returns-in-Some-clause-so
returns-in-Some-clause-so g c =
    let told : Option Contents = g.F.Files.contents c.args.files.now in
    let names : List (List ℕ) = map (λ s. s.now) c.args.configs.now in
    works_as told _ _ _ _ _ _ c.verify_within.result
    (verify_command (option_map (λ s. s.now) c.args.conflicts) c.args.questions.now names c.budget_of.result
    c.in-Some.budget c.budget_of.ensures.value c.in-Some.is)
    c.verify_within.ensures.so
