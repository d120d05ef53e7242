-- The lines that are printed.
use Rattle.std.specs.Prelude.{ℕ, List, [], ◌∷◌, ◌++◌, codes}
use Rattle.resolution_check.specs.declared.log.Bad.{Bad}
use Rattle.resolution_check.specs.declared.log.Bad.TheVariants as bad
use Rattle.log_checker.specs.declared.cause.Cause.{Cause}
use Rattle.log_checker.specs.declared.cause.Cause.TheVariants.{BadLine, InputDiffers, Refused, NotRefuted, Missing}
use Rattle.mw_load.specs.Refused.{refused_text}
use Rattle.trimmed_logs.specs.Logs.{WrongLine}

-- what is wrong with a line, by its number
abbrev pub bad_number : Bad → ℕ
bad_number (bad.UnknownId id) = 31
bad_number (bad.NoPivot at) = 32
bad_number bad.NotCovered = 33
bad_number (bad.UsedId id) = 34
bad_number bad.AfterEnd = 35
bad_number bad.Memory = 0

abbrev pub cause_number : Cause → ℕ
cause_number BadLine = 36
cause_number (InputDiffers wanted) = 37
cause_number (Refused why) = bad_number why
cause_number NotRefuted = 38
cause_number Missing = 39

-- and its name
abbrev pub bad_words : Bad → List ℕ
bad_words (bad.UnknownId id) = codes "UnknownId"
bad_words (bad.NoPivot at) = codes "NoPivot"
bad_words bad.NotCovered = codes "NotCovered"
bad_words (bad.UsedId id) = codes "UsedId"
bad_words bad.AfterEnd = codes "AfterEnd"
bad_words bad.Memory = []

abbrev pub cause_words : Cause → List ℕ
cause_words BadLine = codes "BadLine"
cause_words (InputDiffers wanted) = codes "InputDiffers"
cause_words (Refused why) = bad_words why
cause_words NotRefuted = codes "NotRefuted"
cause_words Missing = codes "Missing"

-- the log of that name is refused at a line
abbrev pub log_refused : List ℕ → WrongLine → List ℕ
log_refused name wrong = refused_text name wrong.line (cause_number wrong.cause) (cause_words wrong.cause)

-- it has too many bytes
abbrev pub log_too_long : List ℕ → List ℕ
log_too_long name = refused_text name 0 25 (codes "TooLong")

-- words that are no command
abbrev pub usage_text : List ℕ
usage_text = codes "usage: mw_extra advert, compare, least or trim" ++ 10 ∷ []
