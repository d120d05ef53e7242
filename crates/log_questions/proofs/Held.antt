-- A section held against clauses that encode a question.
use Rattle.std.proofs.Common.{◌≡◌, ℕ, List, drop, Result, Ok, Err, None, subst}
use Rattle.std.specs.Prelude.{IfOk, IfSome}
use Rattle.resolution_check.specs.declared.log.Clause.{Clause}
use Rattle.ios_ast.specs.declared.file.File.{File}
use Rattle.log_checker.specs.declared.sections.Checked.{Checked}
use Rattle.log_checker.specs.Sections.{IsShownBefore, IsWrongAfter}
use Rattle.log_answers.specs.Answers.{IsEncodedBy}
use Rattle.log_answers.specs.Sections.{IsHeld}
use Rattle.question_lang.specs.declared.question.Question.{Question}

pub held_by : {E : Type 0} (files : List File) (question : Question) (name : List ℕ) (clauses : List Clause)
    (bytes : List ℕ) (result : Result Checked E) → name ≡ question.name → IsEncodedBy files question clauses →
    IfOk result (λ c. c.wrong ≡ None → IsShownBefore name clauses bytes c.lines (drop c.used bytes)) →
    IfOk result (λ c. IfSome c.wrong (IsWrongAfter name clauses bytes c.lines)) →
    IfOk result (IsHeld files question bytes)
held_by files question name clauses bytes (Err why) is encoded shown wrong = tt
held_by files question name clauses bytes (Ok checked) is encoded shown wrong =
    let S : List ℕ → Type 0 = λ n. IsShownBefore n clauses bytes checked.lines (drop checked.used bytes) in
    let W : List ℕ → Type 0 = λ n. IfSome checked.wrong (IsWrongAfter n clauses bytes checked.lines) in
    record { clauses = clauses; encoded = encoded; shown = λ whole. subst S is (shown whole); wrong = subst W is wrong }
