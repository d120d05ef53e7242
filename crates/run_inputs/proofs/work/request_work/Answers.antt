use Rattle.std.proofs.Common.{Option, ap, map, option_map, sym, ◌∙◌}
use Rattle.mw_outside.specs.Contents.{Contents}
use Rattle.mw_words.specs.Asked.{asks, verify}
use Rattle.run_inputs.specs.Due.{command_by}
use Rattle.run_inputs.proofs.Commands.{works_as}
use Rattle.run_inputs.proofs.work.request_work.Goals as goal

pub returns-in-Verify-clause-so : goal.returns-in-Verify-clause-so
returns-in-Verify-clause-so g c =
    let told : Option Contents = g.F.Files.contents c.args.files.now in
    works_as told _ _ _ _ _ _ c.verify_work.result
    (ap (λ r. command_by (asks r)) c.in-Verify.is
    ∙ ap (λ xs. command_by (verify (option_map (λ s. s.now) c.in-Verify.conflicts) c.in-Verify.questions.now
    (map (λ s. s.now) xs))) (sym c.as_slice.ensures.value))
    c.verify_work.ensures.so

pub returns-in-Gen-clause-so : goal.returns-in-Gen-clause-so
returns-in-Gen-clause-so g c =
    let told : Option Contents = g.F.Files.contents c.args.files.now in
    works_as told _ _ _ _ _ _ c.gen_work.result (ap (λ r. command_by (asks r)) c.in-Gen.is)
    (c.gen_work.ensures told (g.F.Files.faults c.args.files.now) (g.F.Files.last_failed c.args.files.now))
