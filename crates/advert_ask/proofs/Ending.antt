-- How the command ends with answers.
use Rattle.std.proofs.Common.{◌≡◌, ℕ, List, Option, Some, Ok, subst}
use Rattle.asked_files.specs.Answering.{AnswersSo}
use Rattle.asked_files.specs.Ending.{Writes}
use Rattle.asked_files.specs.Running.{ComesTo, EndsSo}
use Rattle.asked_files.specs.Words.{Asking}
use Rattle.asked_files.proofs.Running.{ends_answers}
use Rattle.export_asks.specs.declared.ask.Ask.{Ask}
use Rattle.ios_ast.specs.declared.file.File.{File}
use Rattle.log_trim.specs.Running.{NoReadFailed, Reads}
use Rattle.mw_load.specs.declared.ended.Ended.{Ended}
use Rattle.mw_outside.specs.Contents.{Contents}
use Rattle.advert_ask.specs.Answering.{answering}
use Rattle.advert_ask.specs.Running.{advertising}

-- with answers to all asks, or to the first ones
pub ends_advertised : (told : Option Contents) (asks : Option Asking) (r : Reads) (w : Writes) (Unlogged : Type 0)
    (asked : Asking) (files : List File) (all : List Ask) (budget : ℕ) (how : Ended) → NoReadFailed r →
    asks ≡ Some asked → ComesTo advertising told asked (Ok (files, all)) → budget ≡ asked.budget →
    AnswersSo (answering files budget) all w how → EndsSo advertising told asks r w Unlogged how
ends_advertised told asks r w Unlogged asked files all budget how quiet is comes same so =
    ends_answers advertising (answering files asked.budget) told asks r w Unlogged asked (files, all) all how
    (λ e done. done) (λ begun. begun) quiet is comes
    (subst (λ (n : ℕ). AnswersSo (answering files n) all w how) same so)
