-- Answers to what a file asks, one after another, whatever it asks: their lines are printed, and the section of each stands
-- in the log.
use Rattle.std.specs.Prelude.{◌≡◌, ◌⊎◌, ℕ, Bool, List, [], ◌∷◌, ◌++◌, take, slice_get, IfSome, Option, Some, None}
use Rattle.std.specs.List.{last_or, list_any}
use Rattle.mw_load.specs.declared.ended.Ended.{Ended}
use Rattle.mw_load.specs.declared.ended.Ended.TheVariants as ended
use Rattle.mw_outside.specs.Taken.{Takes, TakesPart}
use Rattle.asked_files.specs.Ending.{NoWriteFailed, SomeWriteFailed, Writes, ended_by}

-- what is asked, and what answers it: when an answer is right, its lines, its section of the log, whether it is broken or
-- unknown, that deciders tell the bumps of its section, and what a search may leave in the log that ends early
pub record Answering (Q A : Type 0) : Type 1 where
  pub Right : Q → A → Type 0
  pub lines : Q → A → List ℕ
  pub section : Q → A → List ℕ
  pub broken : A → Bool
  pub unknown : A → Bool
  pub Tells : List (Option (List ℕ)) → A → Type 0
  pub Unfinished : Q → Option (List ℕ) → Option (List ℕ) → Type 0

-- ---- answers

-- the answers are right, in the order of the asks
abbrev pub AreRight : {Q A : Type 0} → Answering Q A → List Q → List A → Type 0
AreRight k [] [] = Unit {0}
AreRight k [] (answer ∷ others) = ⊥
AreRight k (ask ∷ rest) [] = ⊥
AreRight k (ask ∷ rest) (answer ∷ others) = k.Right ask answer × AreRight k rest others

-- what f makes of each ask with its answer, one after another
abbrev pub texts_of : {Q A : Type 0} → (Q → A → List ℕ) → List Q → List A → List ℕ
texts_of f [] answers = []
texts_of f (ask ∷ rest) [] = []
texts_of f (ask ∷ rest) (answer ∷ others) = f ask answer ++ texts_of f rest others

-- how the command ends where some answer is broken, or some is unknown
abbrev pub ended_of : {Q A : Type 0} → Answering Q A → List A → Ended
ended_of k answers = ended_by (list_any k.broken answers) (list_any k.unknown answers)

-- each decider that tells its bumps tells those of the section of the last answer, if there is one
abbrev pub TellLast : {Q A : Type 0} → Answering Q A → List (Option (List ℕ)) → List A → Type 0
TellLast k tolds answers = IfSome (last_or None answers) (k.Tells tolds)

-- ---- one ask

-- the answer is right, its section stands in the log, deciders tell its bumps, and its lines are printed
abbrev pub IsPut : {Q A : Type 0} → Answering Q A → Q → Option (List ℕ) → Option (List ℕ) → Option (List ℕ)
    → Option (List ℕ) → List (Option (List ℕ)) → A → Type 0
IsPut k ask before now logged_before logged_now tolds answer =
    k.Right ask answer × Takes logged_before logged_now (k.section ask answer) × k.Tells tolds answer
    × Takes before now (k.lines ask answer)

-- that was cut short: in its search, where nothing is printed, or while its lines were printed
abbrev pub IsCutShort : {Q A : Type 0} → Answering Q A → Q → Option (List ℕ) → Option (List ℕ) → Option (List ℕ)
    → Option (List ℕ) → Type 0
IsCutShort {Q} {A} k ask before now logged_before logged_now =
    ((now ≡ before) × k.Unfinished ask logged_before logged_now)
    ⊎ ((answer : A) × k.Right ask answer × Takes logged_before logged_now (k.section ask answer)
    × TakesPart before now (k.lines ask answer))

-- ---- all asks

-- right answers to all asks in their order, and the command ends as they say
pub record AreAnswered {Q A : Type 0} (k : Answering Q A) (asks : List Q)
    (before now logged_before logged_now : Option (List ℕ)) (tolds : List (Option (List ℕ))) (how : Ended) : Type 0
  where
    pub answers : List A
    pub right : AreRight k asks answers
    pub ends : how ≡ ended_of k answers
    pub text : Takes before now (texts_of k.lines asks answers)
    pub logged : Takes logged_before logged_now (texts_of k.section asks answers)
    pub bumps : TellLast k tolds answers

-- the command ended early: right answers to the first asks. A front of their lines is printed; their sections stand whole
-- in the log, and after them nothing, or what the search for the next answer left
pub record AreBegun {Q A : Type 0} (k : Answering Q A) (asks : List Q)
    (before now logged_before logged_now : Option (List ℕ)) : Type 0 where
  pub count : ℕ
  pub answers : List A
  pub right : AreRight k (take count asks) answers
  pub text : TakesPart before now (texts_of k.lines (take count asks) answers)
  pub middle : Option (List ℕ)
  pub logged : Takes logged_before middle (texts_of k.section (take count asks) answers)
  pub next : (logged_now ≡ middle) ⊎ ((ask : Q) × (slice_get asks count ≡ Some ask)
      × k.Unfinished ask middle logged_now)

-- ---- how they end

-- every ask is answered
abbrev pub IsDone : {Q A : Type 0} → Answering Q A → List Q → Writes → Ended → Type 0
IsDone k asks w how = AreAnswered k asks w.taken w.taken_now w.logged w.logged_now w.tolds how

-- the first ones are
abbrev pub IsBegun : {Q A : Type 0} → Answering Q A → List Q → Writes → Type 0
IsBegun k asks w = AreBegun k asks w.taken w.taken_now w.logged w.logged_now

-- the answers end with all of them, or early
abbrev pub AnswersSo : {Q A : Type 0} → Answering Q A → List Q → Writes → Ended → Type 0
AnswersSo k asks w ended.Good = NoWriteFailed w × IsDone k asks w ended.Good
AnswersSo k asks w ended.Bad = NoWriteFailed w × IsDone k asks w ended.Bad
AnswersSo k asks w ended.Unknown = NoWriteFailed w × IsDone k asks w ended.Unknown
AnswersSo k asks w ended.Usage = ⊥
AnswersSo k asks w ended.Refused = ⊥
AnswersSo k asks w ended.ReadFault = ⊥
AnswersSo k asks w ended.WriteFault = SomeWriteFailed w × IsBegun k asks w
AnswersSo k asks w ended.Memory = NoWriteFailed w × IsBegun k asks w
