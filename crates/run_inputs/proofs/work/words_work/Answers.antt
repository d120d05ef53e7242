use Rattle.std.proofs.Common.{◌≡◌, ℕ, List, map, refl}
use Rattle.std.specs.Prelude.{string_bytes}
use Rattle.mw_words.specs.Asked.{asks}
use Rattle.run_inputs.proofs.Commands.{words_command, words_none, works_for, works_none}
use Rattle.run_inputs.proofs.work.words_work.Goals as goal

pub returns-in-Ok-Some-clause-so : goal.returns-in-Ok-Some-clause-so
returns-in-Ok-Some-clause-so g c =
    let words : List (List ℕ) = map string_bytes c.args.words.now in
    works_for (g.F.Files.contents c.args.files.now) _ words _ _ _ _ c.request_work.result
    (words_command asks c.in-Ok-Some.request words (rw c.in-Ok-Some.field-0-is at c.in-Ok-Some.ensures)) c.request_work.ensures.so

pub returns-in-Ok-None-clause-so : goal.returns-in-Ok-None-clause-so
returns-in-Ok-None-clause-so g c =
    let words : List (List ℕ) = map string_bytes c.args.words.now in
    works_none (g.F.Files.contents c.args.files.now) _ _ _ (words_none asks words (rw c.in-Ok-None.field-0-is at c.in-Ok-None.ensures))

pub returns-in-Err-clause-so : goal.returns-in-Err-clause-so
returns-in-Err-clause-so g c = (refl, refl)
