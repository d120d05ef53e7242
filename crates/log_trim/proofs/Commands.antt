-- What comes of the words and of the log.
use Rattle.std.proofs.Common.{◌≡◌, ◌∙◌, refl, ap, sym, subst, arith, ℕ, ◌<◌, ◌≤◌, true, false, cond, nat_le, List, length}
use Rattle.std.proofs.Common.{Option, Some, None, is_some, inl, inr}
use Rattle.std.specs.Prelude.{IfSome, IsSomeAnd}
use Rattle.std.specs.Option.{option_map_or}
use Rattle.std.proofs.lemmas.Bool.{le-leb, lt-leb, true≢false}
use Rattle.mw_outside.specs.Contents.{Contents, Has, TellsOnly, get}
use Rattle.mw_load.specs.declared.ended.Ended.{Ended}
use Rattle.mw_load.specs.declared.ended.Ended.TheVariants as ended
use Rattle.log_trim.specs.declared.work.TheConstants.{MOST_BYTES}
use Rattle.log_trim.specs.declared.work.Work.{Work}
use Rattle.log_trim.specs.declared.work.Work.TheVariants as work
use Rattle.log_trim.specs.Bytes.{BecomesOf, LogWorksSo, OnRefused}
use Rattle.log_trim.specs.Due.{IsDue, IsTextOf, Outcome, bytes_due, due_by, log_due, read_as, refused, trimming, unread, usage}
use Rattle.log_trim.specs.Printing.{PrintsSo}
use Rattle.log_trim.specs.Running.{EndsSo, IsPrinted, NoReadFailed, NoWriteFailed, Reads, WorksSo, Writes}
use Rattle.log_trim.specs.Texts.{log_too_long, usage_text}
use Rattle.log_trim.specs.Words.{log_named}
use Rattle.trimmed_logs.specs.Logs.{sections_in}

-- ---- the log

whole_due : (told : Option Contents) (name bytes : List ℕ) (outcome : Outcome) → Has told name (λ file. file ≡ bytes) →
    length bytes ≤ MOST_BYTES → read_as name (sections_in bytes) ≡ outcome →
    IfSome told (λ contents. log_due contents name ≡ outcome)
whole_due None name bytes outcome whole small is = tt
whole_due (Some contents) name bytes outcome whole small is = there (get contents name) whole
  where
    there : (o : Option (List ℕ)) → IsSomeAnd o (λ file. file ≡ bytes) → option_map_or (bytes_due name) o unread ≡ outcome
    there None h = absurd h
    there (Some file) h =
        ap (bytes_due name) h
        ∙ ap (λ b. cond b (read_as name (sections_in bytes)) (refused (log_too_long name)))
        (le-leb (length bytes) MOST_BYTES small)
        ∙ is

-- the log was read, and this comes of its bytes
pub log_read : (told : Option Contents) (name bytes : List ℕ) (r : Reads) (w : Work) → Has told name (λ file. file ≡ bytes) →
    length bytes ≤ MOST_BYTES → NoReadFailed r → BecomesOf (read_as name (sections_in bytes)) w → LogWorksSo told name r w
log_read told name bytes r work.Usage whole small quiet so = so
log_read told name bytes r (work.Refused line) whole small quiet so =
    (quiet, whole_due told name bytes (refused line) whole small so)
log_read told name bytes r (work.Trimmed text) whole small quiet so =
    (quiet, (so.0, whole_due told name bytes (trimming so.0) whole small so.1, so.2))
log_read told name bytes r work.ReadFault whole small quiet so = absurd so
log_read told name bytes r work.Memory whole small quiet so = quiet

long_due : (told : Option Contents) (name : List ℕ) → Has told name (λ file. MOST_BYTES < length file) →
    IfSome told (λ contents. log_due contents name ≡ refused (log_too_long name))
long_due None name long = tt
long_due (Some contents) name long = there (get contents name) long
  where
    there : (o : Option (List ℕ)) → IsSomeAnd o (λ file. MOST_BYTES < length file) →
        option_map_or (bytes_due name) o unread ≡ refused (log_too_long name)
    there None h = absurd h
    there (Some file) h =
        ap (λ b. cond b (read_as name (sections_in file)) (refused (log_too_long name)))
        (lt-leb (length file) MOST_BYTES h)

-- it has too many bytes
pub log_long : (told : Option Contents) (name : List ℕ) (r : Reads) (w : Work) →
    Has told name (λ file. MOST_BYTES < length file) → NoReadFailed r → OnRefused w (λ line. line ≡ log_too_long name) →
    LogWorksSo told name r w
log_long told name r work.Usage long quiet so = so
log_long told name r (work.Refused line) long quiet so =
    let P : List ℕ → Type 0 = λ l. IfSome told (λ contents. log_due contents name ≡ refused l) in
    (quiet, subst P (sym so) (long_due told name long))
log_long told name r (work.Trimmed text) long quiet so = absurd so
log_long told name r work.ReadFault long quiet so = absurd so
log_long told name r work.Memory long quiet so = quiet

-- ---- the words

some_apart : (name : List ℕ) → Some name ≡ None → ⊥
some_apart name h =
    let is_there : true ≡ false = ap is_some h in absurd (true≢false is_there)

due_all : (told : Option Contents) (words : List (List ℕ)) (name : List ℕ) (outcome : Outcome) →
    log_named words ≡ Some name → IfSome told (λ contents. log_due contents name ≡ outcome) →
    IfSome told (λ contents. due_by contents (log_named words) ≡ outcome)
due_all None words name outcome named said = tt
due_all (Some contents) words name outcome named said = ap (due_by contents) named ∙ said

due_of : (told : Option Contents) (words : List (List ℕ)) (name : List ℕ) (outcome : Outcome) →
    log_named words ≡ Some name → IfSome told (λ contents. log_due contents name ≡ outcome) → IsDue told words outcome
due_of told words name outcome named said = record {
  no_command = λ none. absurd (some_apart name (sym named ∙ none));
  by_contents = due_all told words name outcome named said;
}

-- what comes of the log that the words name
pub words_work : (told : Option Contents) (words : List (List ℕ)) (name : List ℕ) (r : Reads) (w : Work) →
    log_named words ≡ Some name → LogWorksSo told name r w → WorksSo told words r w
words_work told words name r work.Usage named so = absurd so
words_work told words name r (work.Refused line) named so =
    (so.0, due_of told words name (refused line) named so.1)
words_work told words name r (work.Trimmed text) named so =
    (so.0, (so.1.0, due_of told words name (trimming so.1.0) named so.1.1, so.1.2))
words_work told words name r work.ReadFault named so = (so.0, tells r.last_now so.1)
  where
    tells : (o : Option (List ℕ)) → TellsOnly name o → IfSome o (λ n. log_named words ≡ Some n)
    tells None only = tt
    tells (Some other) only = named ∙ ap Some (sym only)
words_work told words name r work.Memory named so = so

usage_all : (told : Option Contents) (words : List (List ℕ)) → log_named words ≡ None →
    IfSome told (λ contents. due_by contents (log_named words) ≡ usage)
usage_all None words none = tt
usage_all (Some contents) words none = ap (due_by contents) none

-- words that are no command
pub words_usage : (told : Option Contents) (words : List (List ℕ)) (r : Reads) → log_named words ≡ None →
    NoReadFailed r → WorksSo told words r work.Usage
words_usage told words r none quiet =
    (quiet, record { no_command = λ h. refl; by_contents = usage_all told words none })

-- ---- what is printed

printed : (told : Option Contents) (words : List (List ℕ)) (r : Reads) (w : Writes) (outcome : Outcome) (text : List ℕ)
    (wanted result : Ended) → NoReadFailed r → IsDue told words outcome → IsTextOf outcome text →
    (NoReadFailed r → NoWriteFailed w → IsPrinted told words w outcome → EndsSo told words r w wanted) →
    PrintsSo w.taken w.taken_now w.faults w.faults_now text wanted result → EndsSo told words r w result
printed told words r w outcome text wanted result quiet due is ends (inl (same, takes, still)) =
    let E : Ended → Type 0 = λ e. EndsSo told words r w e in
    subst E (sym same) (ends quiet still (record { due = due; text = text; is = is; takes = takes }))
printed told words r w outcome text wanted result quiet due is ends (inr (same, part, rose)) =
    let E : Ended → Type 0 = λ e. EndsSo told words r w e in
    subst E (sym same) (quiet, rose, record { outcome = outcome; due = due; text = text; is = is; part = part })

pub put_usage_so : (told : Option Contents) (words : List (List ℕ)) (r : Reads) (w : Writes) (result : Ended) →
    WorksSo told words r work.Usage →
    PrintsSo w.taken w.taken_now w.faults w.faults_now usage_text ended.Usage result → EndsSo told words r w result
put_usage_so told words r w result so puts =
    printed told words r w usage usage_text ended.Usage result so.0 so.1 refl (λ q s p. (q, s, p)) puts

pub put_refused_so : (told : Option Contents) (words : List (List ℕ)) (r : Reads) (w : Writes) (line : List ℕ)
    (result : Ended) → WorksSo told words r (work.Refused line) →
    PrintsSo w.taken w.taken_now w.faults w.faults_now line ended.Refused result → EndsSo told words r w result
put_refused_so told words r w line result so puts =
    printed told words r w (refused line) line ended.Refused result so.0 so.1 refl (λ q s p. (q, s, (line, p))) puts

pub put_trimmed_so : (told : Option Contents) (words : List (List ℕ)) (r : Reads) (w : Writes) (text : List ℕ)
    (result : Ended) → WorksSo told words r (work.Trimmed text) →
    PrintsSo w.taken w.taken_now w.faults w.faults_now text ended.Good result → EndsSo told words r w result
put_trimmed_so told words r w text result so puts =
    printed told words r w (trimming so.1.0) text ended.Good result so.0 so.1.1 so.1.2
    (λ q s p. (q, s, (so.1.0, p))) puts

-- words whose first is no command
pub usage_so : (told : Option Contents) (words : List (List ℕ)) (r : Reads) (w : Writes) (result : Ended) →
    log_named words ≡ None → NoReadFailed r →
    PrintsSo w.taken w.taken_now w.faults w.faults_now usage_text ended.Usage result → EndsSo told words r w result
usage_so told words r w result none quiet puts =
    put_usage_so told words r w result (words_usage told words r none quiet) puts
