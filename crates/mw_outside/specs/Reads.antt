-- What a read of a whole file answers.
use Rattle.std.specs.Prelude.{⊤, Result, Ok, Err}
use Rattle.mw_outside.specs.declared.whole.ReadRefused.{ReadRefused}
use Rattle.mw_outside.specs.declared.whole.ReadRefused.TheVariants.{Failed, TooLong, Memory}

-- P where the answer is `Failed`
abbrev pub OnFailed : {T : Type 0} → Result T ReadRefused → Type 0 → Type 0
OnFailed (Err Failed) P = P
OnFailed (Err TooLong) P = ⊤
OnFailed (Err Memory) P = ⊤
OnFailed (Ok x) P = ⊤

-- P where the answer is another
abbrev pub UnlessFailed : {T : Type 0} → Result T ReadRefused → Type 0 → Type 0
UnlessFailed (Err Failed) P = ⊤
UnlessFailed (Err TooLong) P = P
UnlessFailed (Err Memory) P = P
UnlessFailed (Ok x) P = P

-- P where the answer is `TooLong`
abbrev pub OnTooLong : {T : Type 0} → Result T ReadRefused → Type 0 → Type 0
OnTooLong (Err Failed) P = ⊤
OnTooLong (Err TooLong) P = P
OnTooLong (Err Memory) P = ⊤
OnTooLong (Ok x) P = ⊤
