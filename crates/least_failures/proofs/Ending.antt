-- How the command ends, and what follows of it.
use Rattle.std.proofs.Common.{◌≡◌, ◌∙◌, ℕ, List, Option, Some, None, sym, subst, inl, inr}
use Rattle.ios_ast.specs.declared.file.File.{File}
use Rattle.log_trim.specs.Printing.{PrintsSo}
use Rattle.log_trim.specs.Running.{NoReadFailed, Reads}
use Rattle.log_trim.specs.Texts.{usage_text}
use Rattle.mw_load.specs.declared.ended.Ended.{Ended}
use Rattle.mw_load.specs.declared.ended.Ended.TheVariants.{Good, Bad, Unknown, Usage, Refused, ReadFault, WriteFault, Memory}
use Rattle.mw_outside.specs.Contents.{Contents}
use Rattle.question_lang.specs.declared.question.Question.{Question}
use Rattle.run_inputs.specs.Due.{answering, refused}
use Rattle.asked_files.specs.Ending.{IsComplete, NoFault, Writes}
use Rattle.asked_files.specs.Words.{Asking}
use Rattle.least_failures.specs.Answering.{AnswersSo}
use Rattle.least_failures.specs.Due.{IsDue, due_by}
use Rattle.least_failures.specs.Running.{EndsSo, IsAccepted}
use Rattle.least_failures.specs.Words.{asked_of}

-- with answers
pub ends_answers : (told : Option Contents) (words : List (List ℕ)) (r : Reads) (w : Writes) (Unlogged : Type 0)
    (files : List File) (questions : List Question) (budget : ℕ) (how : Ended) → NoReadFailed r →
    IsDue told words (answering files questions budget) → AnswersSo files questions budget w how →
    EndsSo told words r w Unlogged how
ends_answers told words r w Unlogged files questions budget Good quiet due so =
    (quiet, so.0, (files, questions, budget, due, so.1))
ends_answers told words r w Unlogged files questions budget Bad quiet due so =
    (quiet, so.0, (files, questions, budget, due, so.1))
ends_answers told words r w Unlogged files questions budget Unknown quiet due so =
    (quiet, so.0, (files, questions, budget, due, so.1))
ends_answers told words r w Unlogged files questions budget Usage quiet due so = absurd so
ends_answers told words r w Unlogged files questions budget Refused quiet due so = absurd so
ends_answers told words r w Unlogged files questions budget ReadFault quiet due so = absurd so
ends_answers told words r w Unlogged files questions budget WriteFault quiet due so =
    (quiet, so.0, inr (inr (inr (files, questions, budget, due, so.1))))
ends_answers told words r w Unlogged files questions budget Memory quiet due so =
    (quiet, so.0, inr (inr (inr (files, questions, budget, due, so.1))))

-- with the line of usage
pub ends_usage : (told : Option Contents) (words : List (List ℕ)) (r : Reads) (w : Writes) (Unlogged : Type 0)
    (how : Ended) → NoReadFailed r → asked_of words ≡ None → w.logged_now ≡ w.logged →
    w.log_faults_now ≡ w.log_faults → Unlogged →
    PrintsSo w.taken w.taken_now w.faults w.faults_now usage_text Usage how → EndsSo told words r w Unlogged how
ends_usage told words r w Unlogged how quiet none kept still unlogged (inl (is, takes, stays)) =
    let E : Ended → Type 0 = EndsSo told words r w Unlogged in
    subst E (sym is) (quiet, (stays, still), unlogged, none, takes)
ends_usage told words r w Unlogged how quiet none kept still unlogged (inr (is, part, rose)) =
    let E : Ended → Type 0 = EndsSo told words r w Unlogged in
    subst E (sym is) (quiet, inl rose, inr (inl (none, (part, kept))))

-- with that of a refusal
pub ends_refused : (told : Option Contents) (words : List (List ℕ)) (r : Reads) (w : Writes) (Unlogged : Type 0)
    (line : List ℕ) (how : Ended) → NoReadFailed r → IsDue told words (refused line) → w.logged_now ≡ w.logged →
    w.log_faults_now ≡ w.log_faults → Unlogged →
    PrintsSo w.taken w.taken_now w.faults w.faults_now line Refused how → EndsSo told words r w Unlogged how
ends_refused told words r w Unlogged line how quiet due kept still unlogged (inl (is, takes, stays)) =
    let E : Ended → Type 0 = EndsSo told words r w Unlogged in
    subst E (sym is) (quiet, (stays, still), unlogged, (line, due, takes))
ends_refused told words r w Unlogged line how quiet due kept still unlogged (inr (is, part, rose)) =
    let E : Ended → Type 0 = EndsSo told words r w Unlogged in
    subst E (sym is) (quiet, inl rose, inr (inr (inl (line, due, (part, kept)))))

-- ---- completeness

accepted_asks : (contents : Contents) (asking : Option Asking) (files : List File) (questions : List Question)
    (budget : ℕ) → due_by contents asking ≡ answering files questions budget → asking ≡ None → ⊥
accepted_asks contents None files questions budget due none = absurd cc
accepted_asks contents (Some asking) files questions budget due none = absurd cc

accepted_due : (contents : Contents) (words : List (List ℕ)) (line : List ℕ) (files : List File)
    (questions : List Question) (budget : ℕ) → due_by contents (asked_of words) ≡ answering files questions budget →
    IsDue (Some contents) words (refused line) → ⊥
accepted_due contents words line files questions budget due refusal =
    let clash : answering files questions budget ≡ refused line = sym due ∙ refusal.by_contents in absurd cc

pub so_complete : (told : Option Contents) (words : List (List ℕ)) (r : Reads) (w : Writes) (Unlogged : Type 0)
    (how : Ended) → EndsSo told words r w Unlogged how → IsAccepted told words → NoFault r w → IsComplete how
so_complete None words r w Unlogged how so accepted fault = absurd accepted
so_complete (Some contents) words r w Unlogged Good so accepted fault = tt
so_complete (Some contents) words r w Unlogged Bad so accepted fault = tt
so_complete (Some contents) words r w Unlogged Unknown so accepted fault = tt
so_complete (Some contents) words r w Unlogged Usage (quiet, written, unlogged, none, line)
    (files, questions, budget, due) fault = accepted_asks contents (asked_of words) files questions budget due none
so_complete (Some contents) words r w Unlogged Refused (quiet, written, unlogged, (line, refusal, stands))
    (files, questions, budget, due) fault = accepted_due contents words line files questions budget due refusal
so_complete (Some contents) words r w Unlogged ReadFault so accepted fault = fault.0 so.0.0
so_complete (Some contents) words r w Unlogged WriteFault so accepted fault = fault.1 so.1
so_complete (Some contents) words r w Unlogged Memory so accepted fault = tt
