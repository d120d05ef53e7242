-- How runs end, and what follows of it.
use Rattle.std.proofs.Common.{◌≡◌, ◌≢◌, ◌∙◌, ℕ, Bool, true, false, List, Option, refl, sym, ap, subst, inl, inr}
use Rattle.std.specs.Prelude.{◌⊎◌}
use Rattle.std.proofs.lemmas.Bool.{false≢true}
use Rattle.mw_outside.specs.Taken.{Takes}
use Rattle.run_inputs.specs.Due.{IsDue, Outcome, is_command, refused}
use Rattle.run_inputs.specs.Texts.{usage_text}
use Rattle.run_answers.specs.declared.status.Status.{Status}
use Rattle.run_answers.specs.declared.status.Status.TheVariants.{Good, Bad, Unknown, Usage, Refused, ReadFault}
use Rattle.run_answers.specs.declared.status.Status.TheVariants.{WriteFault, Memory}
use Rattle.run_answers.specs.Running.{AnswersSo, OnAnswered, OnCut, OnUnanswered, Stands}
use Rattle.mw_verify.specs.Runs.{Course, EndsAnswered, EndsCut, EndsRefused, EndsSo, EndsUnread, IsRead, IsUnwritten}
use Rattle.mw_verify.specs.Runs.{IsWritten, PrintsSo}
use Rattle.mw_verify.proofs.Ending.{cut_usage}

abbrev is_fault : Status → Bool
is_fault Good = false
is_fault Bad = false
is_fault Unknown = false
is_fault Usage = false
is_fault Refused = false
is_fault ReadFault = false
is_fault WriteFault = true
is_fault Memory = false

no_fault : (status : Status) → is_fault status ≡ false → status ≢ WriteFault
no_fault status is = λ h. false≢true (sym is ∙ ap is_fault h)

-- ---- the ends

-- with the answers
pub ends_answers : (c : Course) (Unlogged : Type 0) (outcome : Outcome) (status : Status) → is_command c.words ≡ true →
    IsDue c.told c.words outcome → IsRead c →
    AnswersSo outcome status c.before c.now c.logged_before c.logged_now c.tolds (IsUnwritten c) →
    (status ≢ WriteFault → IsWritten c) → EndsSo c Unlogged status
ends_answers c Unlogged outcome Good is due read so writes =
    (is, (outcome, due, so), read, writes (no_fault Good refl))
ends_answers c Unlogged outcome Bad is due read so writes = (is, (outcome, due, so), read, writes (no_fault Bad refl))
ends_answers c Unlogged outcome Unknown is due read so writes =
    (is, (outcome, due, so), read, writes (no_fault Unknown refl))
ends_answers c Unlogged outcome Usage is due read so writes = absurd so
ends_answers c Unlogged outcome Refused is due read so writes = absurd so
ends_answers c Unlogged outcome ReadFault is due read so writes = absurd so
ends_answers c Unlogged outcome WriteFault is due read so writes = (so.1, (outcome, due, so.0), read)
ends_answers c Unlogged outcome Memory is due read so writes =
    ((outcome, due, so), read, writes (no_fault Memory refl))

-- with the line that says how the program is used
pub ends_usage : (c : Course) (Unlogged : Type 0) (status : Status) → is_command c.words ≡ false → IsRead c →
    c.logged_now ≡ c.logged_before → c.logs_now ≡ c.logs → Unlogged →
    PrintsSo usage_text Usage status c.before c.now c.writes c.writes_now → EndsSo c Unlogged status
ends_usage c Unlogged status none read kept stays unlogged (inl (is, takes, still)) =
    let E : Status → Type 0 = EndsSo c Unlogged in subst E (sym is) (none, takes, read, (still, stays), unlogged)
ends_usage c Unlogged status none read kept stays unlogged (inr (is, part, rose)) =
    let E : Status → Type 0 = EndsSo c Unlogged in
    let S : Option (List ℕ) → Type 0 = λ l.
    (outcome : Outcome) × IsDue c.told c.words outcome × Stands outcome c.before c.now c.logged_before l in
    subst E (sym is)
    (inl rose, subst S (sym kept) (cut_usage c.told c.words c.before c.now c.logged_before none part), read)

-- with the line of a refusal
pub ends_refused : (c : Course) (Unlogged : Type 0) (line : List ℕ) (status : Status) → is_command c.words ≡ true →
    IsDue c.told c.words (refused line) → IsRead c → c.logged_now ≡ c.logged_before → c.logs_now ≡ c.logs → Unlogged →
    PrintsSo line Refused status c.before c.now c.writes c.writes_now → EndsSo c Unlogged status
ends_refused c Unlogged line status command due read kept stays unlogged (inl (is, takes, still)) =
    let E : Status → Type 0 = EndsSo c Unlogged in
    subst E (sym is) (command, (line, takes, due), read, (still, stays), unlogged)
ends_refused c Unlogged line status command due read kept stays unlogged (inr (is, part, rose)) =
    let E : Status → Type 0 = EndsSo c Unlogged in
    subst E (sym is) (inl rose, (refused line, due, (part, kept)), read)

-- ---- what follows of each end

pub so_answered : (c : Course) (Unlogged : Type 0) (status : Status) → EndsSo c Unlogged status →
    OnAnswered status (EndsAnswered c status)
so_answered c Unlogged Good so = so.1
so_answered c Unlogged Bad so = so.1
so_answered c Unlogged Unknown so = so.1
so_answered c Unlogged Usage so = tt
so_answered c Unlogged Refused so = tt
so_answered c Unlogged ReadFault so = tt
so_answered c Unlogged WriteFault so = tt
so_answered c Unlogged Memory so = tt

pub so_usage : (c : Course) (Unlogged : Type 0) (status : Status) → EndsSo c Unlogged status → status ≡ Usage →
    (is_command c.words ≡ false) × Takes c.before c.now usage_text
so_usage c Unlogged status so is =
    let E : Status → Type 0 = EndsSo c Unlogged in let usage = subst E is so in (usage.0, usage.1)

unasked : {P : Type 0} {b : Bool} → b ≡ true → b ≡ false → P
unasked asked none = absurd (false≢true (sym none ∙ asked))

pub so_no_command : (c : Course) (Unlogged : Type 0) (status : Status) → EndsSo c Unlogged status →
    is_command c.words ≡ false → (status ≡ Usage) ⊎ ((status ≡ WriteFault) ⊎ (status ≡ Memory))
so_no_command c Unlogged Good so none = unasked so.0 none
so_no_command c Unlogged Bad so none = unasked so.0 none
so_no_command c Unlogged Unknown so none = unasked so.0 none
so_no_command c Unlogged Usage so none = inl refl
so_no_command c Unlogged Refused so none = unasked so.0 none
so_no_command c Unlogged ReadFault so none = unasked so.0 none
so_no_command c Unlogged WriteFault so none = inr (inl refl)
so_no_command c Unlogged Memory so none = inr (inr refl)

pub so_refused : (c : Course) (Unlogged : Type 0) (status : Status) → EndsSo c Unlogged status → status ≡ Refused →
    EndsRefused c
so_refused c Unlogged status so is =
    let E : Status → Type 0 = EndsSo c Unlogged in let refusal = subst E is so in refusal.1

pub so_unread : (c : Course) (Unlogged : Type 0) (status : Status) → EndsSo c Unlogged status → status ≡ ReadFault →
    EndsUnread c
so_unread c Unlogged status so is =
    let E : Status → Type 0 = EndsSo c Unlogged in let unread = subst E is so in unread.1

pub so_read : (c : Course) (Unlogged : Type 0) (status : Status) → EndsSo c Unlogged status → status ≢ ReadFault →
    IsRead c
so_read c Unlogged Good so other = so.2
so_read c Unlogged Bad so other = so.2
so_read c Unlogged Unknown so other = so.2
so_read c Unlogged Usage so other = so.2
so_read c Unlogged Refused so other = so.2
so_read c Unlogged ReadFault so other = absurd (other refl)
so_read c Unlogged WriteFault (rose, cut, read) other = read
so_read c Unlogged Memory so other = so.1

pub so_unwritten : (c : Course) (Unlogged : Type 0) (status : Status) → EndsSo c Unlogged status →
    status ≡ WriteFault → IsUnwritten c
so_unwritten c Unlogged status so is =
    let E : Status → Type 0 = EndsSo c Unlogged in let fault = subst E is so in fault.0

pub so_written : (c : Course) (Unlogged : Type 0) (status : Status) → EndsSo c Unlogged status →
    status ≢ WriteFault → IsWritten c
so_written c Unlogged Good (is, answered, read, written) other = written
so_written c Unlogged Bad (is, answered, read, written) other = written
so_written c Unlogged Unknown (is, answered, read, written) other = written
so_written c Unlogged Usage so other = so.3
so_written c Unlogged Refused so other = so.3
so_written c Unlogged ReadFault so other = so.2
so_written c Unlogged WriteFault so other = absurd (other refl)
so_written c Unlogged Memory (cut, read, written) other = written

pub so_cut : (c : Course) (Unlogged : Type 0) (status : Status) → EndsSo c Unlogged status →
    OnCut status (EndsCut c)
so_cut c Unlogged Good so = tt
so_cut c Unlogged Bad so = tt
so_cut c Unlogged Unknown so = tt
so_cut c Unlogged Usage so = tt
so_cut c Unlogged Refused so = tt
so_cut c Unlogged ReadFault so = tt
so_cut c Unlogged WriteFault so = so.1
so_cut c Unlogged Memory so = so.0

pub so_unlogged : (c : Course) (Unlogged : Type 0) (status : Status) → EndsSo c Unlogged status →
    OnUnanswered status Unlogged
so_unlogged c Unlogged Good so = tt
so_unlogged c Unlogged Bad so = tt
so_unlogged c Unlogged Unknown so = tt
so_unlogged c Unlogged Usage so = so.4
so_unlogged c Unlogged Refused so = so.4
so_unlogged c Unlogged ReadFault so = so.3
so_unlogged c Unlogged WriteFault so = tt
so_unlogged c Unlogged Memory so = tt
