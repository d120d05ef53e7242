-- How a command ends that answers what a file asks, one after another, with a section of the log for each.
use Rattle.std.specs.Prelude.{◌≡◌, ◌⊎◌, ℕ, Bool, List, Option, if◌then◌else◌}
use Rattle.log_trim.specs.Running.{Reads}
use Rattle.mw_load.specs.declared.ended.Ended.{Ended}
use Rattle.mw_load.specs.declared.ended.Ended.TheVariants.{Good, Bad, Unknown, Usage, Refused, ReadFault, WriteFault, Memory}
use Rattle.mw_outside.specs.Faults.{Rose}
use Rattle.mw_outside.specs.Taken.{TakesPart}

-- by whether some answer is broken, and whether some is unknown
abbrev pub ended_by : Bool → Bool → Ended
ended_by broken unknown = if broken then Bad else (if unknown then Unknown else Good)

-- what the output and the log took before and now, how many writes of each failed, and what the deciders tell
pub record Writes : Type 0 where
  pub taken : Option (List ℕ)
  pub taken_now : Option (List ℕ)
  pub faults : ℕ
  pub faults_now : ℕ
  pub logged : Option (List ℕ)
  pub logged_now : Option (List ℕ)
  pub log_faults : ℕ
  pub log_faults_now : ℕ
  pub tolds : List (Option (List ℕ))

-- no write failed
abbrev pub NoWriteFailed : Writes → Type 0
NoWriteFailed w = (w.faults_now ≡ w.faults) × (w.log_faults_now ≡ w.log_faults)

-- some write did
abbrev pub SomeWriteFailed : Writes → Type 0
SomeWriteFailed w = Rose w.faults w.faults_now ⊎ Rose w.log_faults w.log_faults_now

-- a front of the line stands, and nothing is logged
abbrev pub IsLineBegun : Writes → List ℕ → Type 0
IsLineBegun w line = TakesPart w.taken w.taken_now line × (w.logged_now ≡ w.logged)

-- ---- completeness

-- no count of faults rose
abbrev pub NoFault : Reads → Writes → Type 0
NoFault r w = (Rose r.faults r.faults_now → ⊥) × (SomeWriteFailed w → ⊥)

-- all is answered, or memory was refused
abbrev pub IsComplete : Ended → Type 0
IsComplete Good = Unit {0}
IsComplete Bad = Unit {0}
IsComplete Unknown = Unit {0}
IsComplete Usage = ⊥
IsComplete Refused = ⊥
IsComplete ReadFault = ⊥
IsComplete WriteFault = ⊥
IsComplete Memory = Unit {0}
