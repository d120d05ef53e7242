-- The text of a log: what its lines come to, one after another.
use Rattle.std.specs.Prelude.{ℕ, ◌+◌, ◌==◌, ◌&&◌, ◌||◌, Bool, true, false, not, max, nat_lt, take, drop, if◌then◌else◌}
use Rattle.std.specs.Prelude.{List, [], ◌∷◌, ◌++◌, codes, Option, Some, None, option_map, is_some, Result, Ok, Err}
use Rattle.std.specs.List.{list_all, list_any}
use Rattle.std.specs.Option.{option_map_or}
use Rattle.mw_text.specs.Reading.{following}
use Rattle.mw_text.specs.Text.{same_text}
use Rattle.mw_text.specs.Words.{is_blank}
use Rattle.resolution_check.specs.declared.log.Entry.{Entry}
use Rattle.resolution_check.specs.declared.log.Entry.TheVariants.{Input, Add, Delete, End}
use Rattle.resolution_check.specs.Entries.{adds_empty, fault_of, is_end}
use Rattle.resolution_check.specs.Words.{entry_in, words_in}
use Rattle.log_checker.specs.declared.cause.Cause.{Cause}
use Rattle.log_checker.specs.declared.cause.Cause.TheVariants.{BadLine, Refused, NotRefuted, Missing}
use Rattle.log_checker.specs.Lines.{pieces}
use Rattle.trimmed_logs.specs.Trimmed.{is_input}

-- ---- the order of entries

-- the greatest number that is given, or 0
abbrev pub number_given : Entry → ℕ
number_given (Input id clause) = id
number_given (Add id clause chain) = id
number_given (Delete id) = 0
number_given End = 0

abbrev pub top : List Entry → ℕ
top [] = 0
top (e ∷ es) = max (number_given e) (top es)

abbrev pub is_step : Entry → Bool
is_step e = not (is_input e)

-- whether the entry may stand behind these: an input only behind inputs, with the next number; an addition with a number
-- above all before it
abbrev pub is_orderly : List Entry → Entry → Bool
is_orderly es (Input id clause) = not (list_any is_step es) && (id == top es + 1)
is_orderly es (Add id clause chain) = nat_lt (top es) id
is_orderly es (Delete id) = true
is_orderly es End = true

-- what is wrong with an entry other than the end, behind these
abbrev pub entry_cause : List Entry → Entry → Option Cause
entry_cause es e = if is_orderly es e then option_map Refused (fault_of es e) else Some BadLine

-- ---- lines

-- a name of a section is one or more bytes, none of them a blank
abbrev pub is_name : List ℕ → Bool
is_name [] = false
is_name (b ∷ bs) = list_all (λ byte. not (is_blank byte)) (b ∷ bs)

-- the name of the section that the line opens: q NAME
abbrev pub name_in : List ℕ → Option (List ℕ)
name_in line = if same_text (take 2 line) (codes "q ") && is_name (drop 2 line) then Some (drop 2 line) else None

-- a section without its end
pub record Section : Type 0 where
  pub name : List ℕ
  pub entries : List Entry

-- so many lines were taken: the sections that are whole, and the one that is open
pub record Taken : Type 0 where
  pub lines : ℕ
  pub sections : List Section
  pub open_one : Option Section

-- the first line that is wrong, from 1 on, and what is wrong with it
pub record WrongLine : Type 0 where
  pub line : ℕ
  pub cause : Cause

abbrev pub wrong_next : Taken → Cause → Result Taken WrongLine
wrong_next t cause = Err (record { line = t.lines + 1; cause = cause })

-- a line where a section must open
abbrev pub take_opening : Taken → List ℕ → Result Taken WrongLine
take_opening t line =
    option_map_or (λ name. Ok (record {
      lines = t.lines + 1;
      sections = t.sections;
      open_one = Some (record { name = name; entries = [] });
    })) (name_in line) (wrong_next t BadLine)

-- the end of the open section, before which the empty clause was added
abbrev pub take_end : Taken → Section → Result Taken WrongLine
take_end t s =
    if adds_empty s.entries then Ok (record {
      lines = t.lines + 1;
      sections = t.sections ++ s ∷ [];
      open_one = None;
    }) else wrong_next t NotRefuted

-- another entry of it
abbrev pub take_entry : Taken → Section → Entry → Result Taken WrongLine
take_entry t s e =
    option_map_or (λ cause. wrong_next t cause) (entry_cause s.entries e) (Ok (record {
      lines = t.lines + 1;
      sections = t.sections;
      open_one = Some (record { name = s.name; entries = s.entries ++ e ∷ [] });
    }))

abbrev pub take_either : Taken → Section → Entry → Result Taken WrongLine
take_either t s e = if is_end e then take_end t s else take_entry t s e

-- a line inside the open section
abbrev pub take_inner : Taken → Section → List ℕ → Result Taken WrongLine
take_inner t s line = option_map_or (take_either t s) (entry_in (words_in line)) (wrong_next t BadLine)

abbrev pub take_line : Taken → List ℕ → Result Taken WrongLine
take_line t line = option_map_or (λ s. take_inner t s line) t.open_one (take_opening t line)

-- where no line feed comes: a line that is not ended is wrong; behind the last line a section, or its end, may be missing
abbrev pub has_none : List Section → Bool
has_none [] = true
has_none (s ∷ ss) = false

abbrev pub is_missing : Taken → Bool
is_missing t = is_some t.open_one || has_none t.sections

abbrev pub at_end : Taken → List ℕ → Result (List Section) WrongLine
at_end t [] = if is_missing t then Err (record { line = t.lines + 1; cause = Missing }) else Ok t.sections
at_end t (b ∷ bs) = Err (record { line = t.lines + 1; cause = BadLine })

abbrev pub is_none : List (List ℕ) → Bool
is_none [] = true
is_none (p ∷ ps) = false

-- the pieces between line feeds, of which the last is what no line feed ends
unfoldable pub read_pieces : Taken → List (List ℕ) → Result (List Section) WrongLine
read_pieces t [] = at_end t []
read_pieces t (piece ∷ rest) =
    if is_none rest then at_end t piece else following (λ next. read_pieces next rest) (take_line t piece)

-- the sections of a log, or the first line that is wrong
abbrev pub sections_in : List ℕ → Result (List Section) WrongLine
sections_in bytes = read_pieces (record { lines = 0; sections = []; open_one = None }) (pieces bytes)
