-- How the command ends with answers.
use Rattle.std.proofs.Common.{◌≡◌, ◌∙◌, ℕ, List, Option, Some, Ok, arith, length, subst, sym}
use Rattle.std.specs.Prelude.{All, slice_get}
use Rattle.std.proofs.lemmas.Option.{get_or_from_slice_get, slice_get_within}
use Rattle.asked_files.specs.Answering.{AnswersSo}
use Rattle.asked_files.specs.Ending.{Writes}
use Rattle.asked_files.specs.Running.{ComesTo, EndsSo}
use Rattle.asked_files.proofs.Running.{ends_answers}
use Rattle.compare_words.specs.Words.{Asking}
use Rattle.ios_ast.specs.declared.file.File.{File}
use Rattle.log_trim.specs.Running.{NoReadFailed, Reads}
use Rattle.mw_load.specs.declared.ended.Ended.{Ended}
use Rattle.mw_outside.specs.Contents.{Contents}
use Rattle.same_asks.specs.declared.same.Same.{Same}
use Rattle.same_asks.specs.Asking.{AreKnown, IsKnown}
use Rattle.net_compare.specs.Answering.{answering}
use Rattle.net_compare.specs.Running.{comparing}

-- each ask of known ones is known
pub known_at : (left right : List File) (asks : List Same) (at : ℕ) (ask : Same) → AreKnown left right asks →
    slice_get asks at ≡ Some ask → IsKnown left right ask
known_at left right asks at ask known there =
    subst (IsKnown left right) (get_or_from_slice_get asks at ask ask there)
    (known at ask (slice_get_within asks at ask there))

-- with answers to all asks, or to the first ones
pub ends_compared : (told : Option Contents) (asks : Option Asking) (r : Reads) (w : Writes) (Unlogged : Type 0)
    (asked : Asking) (left right : List File) (all : List Same) (budget : ℕ) (how : Ended) → NoReadFailed r →
    asks ≡ Some asked → ComesTo comparing told asked (Ok (left, right, all)) → budget ≡ asked.budget →
    AnswersSo (answering left right budget) all w how → EndsSo comparing told asks r w Unlogged how
ends_compared told asks r w Unlogged asked left right all budget how quiet is comes same so =
    ends_answers comparing (answering left right asked.budget) told asks r w Unlogged asked (left, right, all) all how
    (λ e done. done) (λ begun. begun) quiet is comes
    (subst (λ (n : ℕ). AnswersSo (answering left right n) all w how) same so)
