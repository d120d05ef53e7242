-- What is due for words over the contents of files.
use Rattle.std.specs.Prelude.{◌≡◌, ℕ, List, length, nat_le, Option, Some, None, IfSome, Result, Ok, Err}
use Rattle.std.specs.Prelude.{if◌then◌else◌}
use Rattle.std.specs.Option.{option_map_or}
use Rattle.mw_outside.specs.Contents.{Contents, get}
use Rattle.log_trim.specs.declared.work.TheConstants.{MOST_BYTES}
use Rattle.log_trim.specs.Texts.{log_refused, log_too_long, usage_text}
use Rattle.log_trim.specs.Words.{log_named}
use Rattle.trimmed_logs.specs.Logs.{Section, WrongLine, sections_in}
use Rattle.trimmed_logs.specs.Texts.{AreTrimmed}

pub data Outcome : Type 0 where
  -- the words are no command
  usage : Outcome
  -- the log is not there
  unread : Outcome
  -- it is refused, with this line
  refused : List ℕ → Outcome
  -- these sections are trimmed
  trimming : List Section → Outcome

-- the bytes of the log of that name
abbrev pub read_as : List ℕ → Result (List Section) WrongLine → Outcome
read_as name (Ok sections) = trimming sections
read_as name (Err wrong) = refused (log_refused name wrong)

abbrev pub bytes_due : List ℕ → List ℕ → Outcome
bytes_due name bytes =
    if nat_le (length bytes) MOST_BYTES then read_as name (sections_in bytes) else refused (log_too_long name)

-- the log of that name
abbrev pub log_due : Contents → List ℕ → Outcome
log_due contents name = option_map_or (bytes_due name) (get contents name) unread

-- what the contents come to, where the words name a log; and usage where they do not
abbrev pub due_by : Contents → Option (List ℕ) → Outcome
due_by contents None = usage
due_by contents (Some name) = log_due contents name

-- what is due for the words: usage where they are no command, whatever the files hold; and where these are told, what
-- they come to
pub record IsDue (told : Option Contents) (words : List (List ℕ)) (outcome : Outcome) : Type 0 where
  pub no_command : log_named words ≡ None → outcome ≡ usage
  pub by_contents : IfSome told (λ contents. due_by contents (log_named words) ≡ outcome)

-- the text that is printed
abbrev pub IsTextOf : Outcome → List ℕ → Type 0
IsTextOf usage text = text ≡ usage_text
IsTextOf unread text = ⊥
IsTextOf (refused line) text = text ≡ line
IsTextOf (trimming sections) text = AreTrimmed sections text
