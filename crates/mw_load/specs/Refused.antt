-- Refusals, and their lines.
use Rattle.std.specs.Prelude.{⊤, ℕ, List, [], ◌∷◌, ◌++◌, codes, Result, Ok, Err}
use Rattle.std.specs.Fmt.{decimal}
use Rattle.mw_load.specs.declared.refused.LoadRefused.{LoadRefused}
use Rattle.mw_load.specs.declared.refused.LoadRefused.TheVariants.{Fault, Refused, Memory}

-- a refusal: the place of the file among those that are named, its line, and the cause by its number and its words
pub record Refusal : Type 0 where
  pub name : ℕ
  pub line : ℕ
  pub number : ℕ
  pub cause : List ℕ

-- refused FILE:LINE NUMBER CAUSE, and a line feed
abbrev pub refused_text : (name : List ℕ) (line number : ℕ) (cause : List ℕ) → List ℕ
refused_text name line number cause =
    codes "refused " ++ name ++ codes ":" ++ decimal line ++ codes " " ++ decimal number ++ codes " " ++ cause ++ 10 ∷ []

-- P of a refusal, Q at a fault of reading
abbrev pub OnRefused : LoadRefused → (Refusal → Type 0) → Type 0 → Type 0
OnRefused Fault P Q = Q
OnRefused (Refused name line number cause) P Q =
    P (record { name = name; line = line; number = number; cause = cause })
OnRefused Memory P Q = ⊤

-- P unless a read failed
abbrev pub UnlessFault : {A : Type 0} → Result A LoadRefused → Type 0 → Type 0
UnlessFault (Ok x) P = P
UnlessFault (Err Fault) P = ⊤
UnlessFault (Err (Refused name line number cause)) P = P
UnlessFault (Err Memory) P = P
