-- How runs end.
use Rattle.std.proofs.Common.{◌≡◌, ℕ, false, List, [], Option, refl, inl, inr}
use Rattle.mw_outside.specs.Contents.{Contents}
use Rattle.mw_outside.specs.Taken.{Takes, TakesPart, part_of_all, part_of_none}
use Rattle.ios_ast.specs.declared.file.File.{File}
use Rattle.question_lang.specs.declared.question.Question.{Question}
use Rattle.run_inputs.specs.Due.{IsDue, Outcome, is_command, usage, unread, refused, answering, replaying, checking}
use Rattle.run_inputs.specs.Due.{generating, simulating}
use Rattle.run_inputs.specs.Texts.{usage_text}
use Rattle.run_inputs.proofs.Commands.{due_usage, some_due}
use Rattle.run_answers.specs.Lines.{size_text}
use Rattle.run_answers.specs.declared.status.Status.{Status}
use Rattle.run_answers.specs.declared.status.Status.TheVariants.{Good, Bad, Unknown, Usage, Refused, ReadFault}
use Rattle.run_answers.specs.declared.status.Status.TheVariants.{WriteFault, Memory}
use Rattle.run_answers.specs.Running.{AnswersSo, Stands}
use Rattle.mw_verify.proofs.Answering.{put-none}

-- nothing stands, which is a front of what may
pub nothing_stands : (outcome : Outcome) (taken logged : Option (List ℕ)) → Stands outcome taken taken logged logged
nothing_stands usage taken logged = (part_of_none taken usage_text, refl)
nothing_stands unread taken logged = (refl, refl)
nothing_stands (refused line) taken logged = (part_of_none taken line, refl)
nothing_stands (replaying files questions cex) taken logged = (([], inl refl, part_of_none taken []), refl)
nothing_stands (checking files questions log) taken logged = (([], inl refl, part_of_none taken []), refl)
nothing_stands (simulating files last) taken logged = (([], inl refl, part_of_none taken []), refl)
nothing_stands (generating routers files questions budget) taken logged =
    inl (part_of_none taken (size_text routers), refl)
nothing_stands (answering files questions budget) taken logged =
    let none = put-none files questions budget taken logged [] in record {
      count = 0;
      answers = none.answers;
      right = none.right;
      text = part_of_all taken taken _ none.text;
      middle = logged;
      logged = none.logged;
      next = [];
      begun = inl refl;
      part = part_of_none logged [];
    }

pub cut_nothing : (told : Option Contents) (words : List (List ℕ)) (taken logged : Option (List ℕ)) →
    (outcome : Outcome) × IsDue told words outcome × Stands outcome taken taken logged logged
cut_nothing told words taken logged =
    let some = some_due told words in (some.0, some.1, nothing_stands some.0 taken logged)

-- a front of the line stands that says how the program is used
pub cut_usage : (told : Option Contents) (words : List (List ℕ)) (before now logged : Option (List ℕ)) →
    is_command words ≡ false → TakesPart before now usage_text →
    (outcome : Outcome) × IsDue told words outcome × Stands outcome before now logged logged
cut_usage told words before now logged none part = (usage, due_usage told words none, (part, refl))

-- answers after the line of the size
pub answers_sized : (routers : ℕ) (files : List File) (questions : List Question) (budget : ℕ) (status : Status)
    (before sized now logged_before logged_now : Option (List ℕ)) (tolds : List (Option (List ℕ))) (rose more : Type 0) →
    Takes before sized (size_text routers) → (rose → more) →
    AnswersSo (answering files questions budget) status sized now logged_before logged_now tolds rose →
    AnswersSo (generating routers files questions budget) status before now logged_before logged_now tolds more
answers_sized routers files questions budget Good before sized now logged_before logged_now tolds rose more takes from
    so = record { sized = sized; size = takes; answered = so }
answers_sized routers files questions budget Bad before sized now logged_before logged_now tolds rose more takes from
    so = record { sized = sized; size = takes; answered = so }
answers_sized routers files questions budget Unknown before sized now logged_before logged_now tolds rose more takes from
    so = record { sized = sized; size = takes; answered = so }
answers_sized routers files questions budget Usage before sized now logged_before logged_now tolds rose more takes from
    so = absurd so
answers_sized routers files questions budget Refused before sized now logged_before logged_now tolds rose more takes from
    so = absurd so
answers_sized routers files questions budget ReadFault before sized now logged_before logged_now tolds rose more takes
    from so = absurd so
answers_sized routers files questions budget WriteFault before sized now logged_before logged_now tolds rose more takes
    from so = (inr (sized, takes, so.0), from so.1)
answers_sized routers files questions budget Memory before sized now logged_before logged_now tolds rose more takes from
    so = inr (sized, takes, so)
