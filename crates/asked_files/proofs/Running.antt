-- How a command ends, and what follows of it.
use Rattle.std.proofs.Common.{◌≡◌, ◌∙◌, ℕ, List, Option, Some, None, Result, Ok, Err, ap, sym, subst, inl, inr}
use Rattle.std.proofs.lemmas.Option.{same_Some}
use Rattle.log_trim.specs.Printing.{PrintsSo}
use Rattle.log_trim.specs.Running.{NoReadFailed, Reads}
use Rattle.log_trim.specs.Texts.{usage_text}
use Rattle.mw_load.specs.declared.ended.Ended.{Ended}
use Rattle.mw_load.specs.declared.ended.Ended.TheVariants.{Good, Bad, Unknown, Usage, Refused, ReadFault, WriteFault, Memory}
use Rattle.mw_outside.specs.Contents.{Contents}
use Rattle.mw_outside.specs.Faults.{Rose}
use Rattle.run_inputs.specs.Due.{refused}
use Rattle.asked_files.specs.Answering.{AnswersSo, Answering, IsBegun, IsDone}
use Rattle.asked_files.specs.Ending.{IsComplete, NoFault, Writes}
use Rattle.asked_files.specs.Running.{ComesTo, EndsSo, IsAccepted, Work}

-- with answers, where what is done and begun of the work are these
pub ends_answers : {W D Q A : Type 0} (work : Work W D) (k : Answering Q A) (told : Option Contents) (asks : Option W)
    (r : Reads) (w : Writes) (Unlogged : Type 0) (asked : W) (due : D) (all : List Q) (how : Ended) →
    ((e : Ended) → IsDone k all w e → work.Done asked due w e) → (IsBegun k all w → work.Begun asked due w) →
    NoReadFailed r → asks ≡ Some asked → ComesTo work told asked (Ok due) → AnswersSo k all w how →
    EndsSo work told asks r w Unlogged how
ends_answers work k told asks r w Unlogged asked due all Good done begun quiet is comes so =
    (quiet, so.0, (asked, is, (due, comes, done Good so.1)))
ends_answers work k told asks r w Unlogged asked due all Bad done begun quiet is comes so =
    (quiet, so.0, (asked, is, (due, comes, done Bad so.1)))
ends_answers work k told asks r w Unlogged asked due all Unknown done begun quiet is comes so =
    (quiet, so.0, (asked, is, (due, comes, done Unknown so.1)))
ends_answers work k told asks r w Unlogged asked due all Usage done begun quiet is comes so = absurd so
ends_answers work k told asks r w Unlogged asked due all Refused done begun quiet is comes so = absurd so
ends_answers work k told asks r w Unlogged asked due all ReadFault done begun quiet is comes so = absurd so
ends_answers work k told asks r w Unlogged asked due all WriteFault done begun quiet is comes so =
    (quiet, so.0, inr (inr (inr (asked, is, (due, comes, begun so.1)))))
ends_answers work k told asks r w Unlogged asked due all Memory done begun quiet is comes so =
    (quiet, so.0, inr (inr (inr (asked, is, (due, comes, begun so.1)))))

-- with the line of usage
pub ends_usage : {W D : Type 0} (work : Work W D) (told : Option Contents) (asks : Option W) (r : Reads) (w : Writes)
    (Unlogged : Type 0) (how : Ended) → NoReadFailed r → asks ≡ None → w.logged_now ≡ w.logged →
    w.log_faults_now ≡ w.log_faults → Unlogged →
    PrintsSo w.taken w.taken_now w.faults w.faults_now usage_text Usage how → EndsSo work told asks r w Unlogged how
ends_usage work told asks r w Unlogged how quiet none kept still unlogged (inl (is, takes, stays)) =
    let E : Ended → Type 0 = EndsSo work told asks r w Unlogged in
    subst E (sym is) (quiet, (stays, still), unlogged, none, takes)
ends_usage work told asks r w Unlogged how quiet none kept still unlogged (inr (is, part, rose)) =
    let E : Ended → Type 0 = EndsSo work told asks r w Unlogged in
    subst E (sym is) (quiet, inl rose, inr (inl (none, (part, kept))))

-- with that of a refusal
pub ends_refused : {W D : Type 0} (work : Work W D) (told : Option Contents) (asks : Option W) (r : Reads) (w : Writes)
    (Unlogged : Type 0) (asked : W) (line : List ℕ) (how : Ended) → NoReadFailed r → asks ≡ Some asked →
    ComesTo work told asked (Err (refused line)) → w.logged_now ≡ w.logged → w.log_faults_now ≡ w.log_faults →
    Unlogged → PrintsSo w.taken w.taken_now w.faults w.faults_now line Refused how →
    EndsSo work told asks r w Unlogged how
ends_refused work told asks r w Unlogged asked line how quiet is due kept still unlogged (inl (ends, takes, stays)) =
    let E : Ended → Type 0 = EndsSo work told asks r w Unlogged in
    subst E (sym ends) (quiet, (stays, still), unlogged, (asked, is, (line, due, takes)))
ends_refused work told asks r w Unlogged asked line how quiet is due kept still unlogged (inr (ends, part, rose)) =
    let E : Ended → Type 0 = EndsSo work told asks r w Unlogged in
    subst E (sym ends) (quiet, inl rose, inr (inr (inl (asked, is, (line, due, (part, kept))))))

-- ---- completeness

both_ends : {A E : Type 0} (r : Result A E) (x : A) (why : E) → r ≡ Ok x → r ≡ Err why → ⊥
both_ends (Ok y) x why good bad = absurd cc
both_ends (Err e) x why good bad = absurd cc

no_refusal : {W D : Type 0} (work : Work W D) (contents : Contents) (asks : Option W) (asked other : W) (line : List ℕ)
    (due : D) → asks ≡ Some asked → work.due contents asked ≡ Ok due → asks ≡ Some other →
    work.due contents other ≡ Err (refused line) → ⊥
no_refusal work contents asks asked other line due is accepted too refusal =
    let same : other ≡ asked = same_Some other asked (sym too ∙ is) in
    both_ends (work.due contents other) due (refused line) (ap (work.due contents) same ∙ accepted) refusal

-- where what is asked for is accepted and no fault comes, all is answered, but for want of memory
pub so_complete : {W D : Type 0} (work : Work W D) (told : Option Contents) (asks : Option W) (r : Reads) (w : Writes)
    (Unlogged : Type 0) (how : Ended) →
    ((told : Option Contents) (asked : W) → work.Unread told asked r → Rose r.faults r.faults_now) →
    EndsSo work told asks r w Unlogged how → IsAccepted work told asks → NoFault r w → IsComplete how
so_complete work None asks r w Unlogged how rises so accepted fault = absurd accepted
so_complete work (Some contents) asks r w Unlogged Good rises so accepted fault = tt
so_complete work (Some contents) asks r w Unlogged Bad rises so accepted fault = tt
so_complete work (Some contents) asks r w Unlogged Unknown rises so accepted fault = tt
so_complete work (Some contents) asks r w Unlogged Usage rises (quiet, written, unlogged, none, line)
    (asked, is, rest) fault =
    let clash : Some asked ≡ None = sym is ∙ none in absurd cc
so_complete work (Some contents) asks r w Unlogged Refused rises
    (quiet, written, unlogged, (other, too, (line, refusal, stands))) (asked, is, (due, accepted)) fault =
    no_refusal work contents asks asked other line due is accepted too refusal
so_complete work (Some contents) asks r w Unlogged ReadFault rises (written, unlogged, same, (asked, is, unread)) accepted
    fault = fault.0 (rises (Some contents) asked unread)
so_complete work (Some contents) asks r w Unlogged WriteFault rises so accepted fault = fault.1 so.1
so_complete work (Some contents) asks r w Unlogged Memory rises so accepted fault = tt
