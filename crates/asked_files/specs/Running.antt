-- How a command ends that reads what its words ask for and answers it, and what stands then.
use Rattle.std.specs.Prelude.{◌≡◌, ◌⊎◌, ℕ, List, Option, Some, None, IfSome, IsSomeAnd, Result, Ok, Err}
use Rattle.log_trim.specs.Running.{NoReadFailed, Reads}
use Rattle.log_trim.specs.Texts.{usage_text}
use Rattle.mw_load.specs.declared.ended.Ended.{Ended}
use Rattle.mw_load.specs.declared.ended.Ended.TheVariants.{Good, Bad, Unknown, Usage, Refused, ReadFault, WriteFault, Memory}
use Rattle.mw_outside.specs.Contents.{Contents}
use Rattle.mw_outside.specs.Taken.{Takes}
use Rattle.run_inputs.specs.Due.{Outcome, refused}
use Rattle.asked_files.specs.Ending.{IsLineBegun, NoWriteFailed, SomeWriteFailed, Writes}

-- what words ask for, and what is answered: what the files of these contents come to, that a read of one of them failed,
-- that all is answered and the command ends so, and that a front of the answers stands
pub record Work (W D : Type 0) : Type 1 where
  pub due : Contents → W → Result D Outcome
  pub Unread : Option Contents → W → Reads → Type 0
  pub Done : W → D → Writes → Ended → Type 0
  pub Begun : W → D → Writes → Type 0

-- where contents are told, what is asked for comes to this
abbrev pub ComesTo : {W D : Type 0} → Work W D → Option Contents → W → Result D Outcome → Type 0
ComesTo k told asked result = IfSome told (λ contents. k.due contents asked ≡ result)

-- P of what is asked for
abbrev pub OfAsked : {W : Type 0} → Option W → (W → Type 0) → Type 0
OfAsked {W} asks P = (asked : W) × (asks ≡ Some asked) × P asked

-- it is answered
abbrev pub EndsAnswered : {W D : Type 0} → Work W D → Option Contents → Option W → Writes → Ended → Type 0
EndsAnswered {W} {D} k told asks w how =
    OfAsked asks (λ asked. (due : D) × ComesTo k told asked (Ok due) × k.Done asked due w how)

-- the line of the refusal stands
abbrev pub EndsRefused : {W D : Type 0} → Work W D → Option Contents → Option W → Writes → Type 0
EndsRefused k told asks w =
    OfAsked asks (λ asked. (line : List ℕ) × ComesTo k told asked (Err (refused line))
    × Takes w.taken w.taken_now line)

-- a front of what is due stands: nothing; of the line of usage or of a refusal; or of the answers
abbrev pub EndsCut : {W D : Type 0} → Work W D → Option Contents → Option W → Writes → Type 0
EndsCut {W} {D} k told asks w =
    ((w.taken_now ≡ w.taken) × (w.logged_now ≡ w.logged))
    ⊎ (((asks ≡ None) × IsLineBegun w usage_text)
    ⊎ (OfAsked asks (λ asked. (line : List ℕ) × ComesTo k told asked (Err (refused line)) × IsLineBegun w line)
    ⊎ OfAsked asks (λ asked. (due : D) × ComesTo k told asked (Ok due) × k.Begun asked due w)))

-- With 0, 1 or 2 all is answered, and this says how. With 3 the words are no command, and the line of usage is printed;
-- with 4 the line of the first refusal. With 5 a read of a named file failed, and nothing is printed; with these three
-- nothing is logged, as `Unlogged` says. With 6 a write failed; with 6 and 7 a front of what is due stands.
abbrev pub EndsSo : {W D : Type 0} → Work W D → Option Contents → Option W → Reads → Writes → Type 0 → Ended → Type 0
EndsSo k told asks r w Unlogged Good = NoReadFailed r × NoWriteFailed w × EndsAnswered k told asks w Good
EndsSo k told asks r w Unlogged Bad = NoReadFailed r × NoWriteFailed w × EndsAnswered k told asks w Bad
EndsSo k told asks r w Unlogged Unknown = NoReadFailed r × NoWriteFailed w × EndsAnswered k told asks w Unknown
EndsSo k told asks r w Unlogged Usage =
    NoReadFailed r × NoWriteFailed w × Unlogged × (asks ≡ None) × Takes w.taken w.taken_now usage_text
EndsSo k told asks r w Unlogged Refused = NoReadFailed r × NoWriteFailed w × Unlogged × EndsRefused k told asks w
EndsSo k told asks r w Unlogged ReadFault =
    NoWriteFailed w × Unlogged × (w.taken_now ≡ w.taken) × OfAsked asks (λ asked. k.Unread told asked r)
EndsSo k told asks r w Unlogged WriteFault = NoReadFailed r × SomeWriteFailed w × EndsCut k told asks w
EndsSo k told asks r w Unlogged Memory = NoReadFailed r × NoWriteFailed w × EndsCut k told asks w

-- ---- completeness

-- the words are a command, and the files that they name are accepted
abbrev pub IsAccepted : {W D : Type 0} → Work W D → Option Contents → Option W → Type 0
IsAccepted {W} {D} k told asks =
    IsSomeAnd told (λ contents. OfAsked asks (λ asked. (due : D) × (k.due contents asked ≡ Ok due)))
