-- What is held of an open section while its lines are read.
use Rattle.std.specs.Prelude.{◌≡◌, false, List, [], ◌∷◌, ◌++◌, length, Option, Some, None}
use Rattle.std.specs.List.{AllByRecursion, list_any}
use Rattle.resolution_check.specs.declared.log.Entry.{Entry}
use Rattle.resolution_check.specs.Entries.{has_ended}
use Rattle.resolution_check.specs.Known.{HasRead, Known}
use Rattle.resolution_check.specs.Text.{HasText}
use Rattle.log_checker.specs.declared.cause.Cause.{Cause}
use Rattle.trimmed_logs.specs.declared.holding.Order.{Order}
use Rattle.trimmed_logs.specs.Logs.{entry_cause, is_step, top}
use Rattle.trimmed_logs.specs.Trimmed.{HasInputsFirst, IsNumberedFrom, input_entries}

-- the greatest number so far, and whether an entry other than an input came
pub record IsOrder (order : Order) (es : List Entry) : Type 0 where
  pub top : order.top ≡ top es
  pub begun : order.begun ≡ list_any is_step es

-- as long as only inputs came, they are numbered from 1 on
pub record AreInputs (es : List Entry) : Type 0 where
  pub same : input_entries es ≡ es
  pub numbered : IsNumberedFrom 1 es
  pub count : top es ≡ length es

-- the entries were read, none of them the end, each with a text; the inputs stand first
pub record IsHeld (known : Known) (order : Order) (es : List Entry) : Type 0 where
  pub read : HasRead known es
  pub orderly : IsOrder order es
  pub texts : AllByRecursion HasText es
  pub goes_on : has_ended es ≡ false
  pub inputs : list_any is_step es ≡ false → AreInputs es
  pub first : HasInputsFirst es

-- the entry was taken behind the others, or is wrong for this cause
abbrev pub TakesEntry : (old new : List Entry) → Entry → Option Cause → Type 0
TakesEntry old new e None = (entry_cause old e ≡ None) × (new ≡ old ++ e ∷ [])
TakesEntry old new e (Some cause) = entry_cause old e ≡ Some cause
