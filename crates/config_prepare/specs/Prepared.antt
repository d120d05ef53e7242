-- A text that is made ready, and what is said of it.
use Rattle.std.specs.Prelude.{ℕ, ◌+◌, ◌==◌, Bool, false, List, [], ◌∷◌, ◌++◌, length, codes, count_by, Option, Some, None}
use Rattle.std.specs.Prelude.{is_some, if◌then◌else◌}
use Rattle.std.specs.Option.{option_map_or}
use Rattle.std.specs.List.{flat_map, zip}
use Rattle.std.specs.Fmt.{decimal}
use Rattle.bstr.specs.Text.{lines_of as pieces_in}
use Rattle.ios_policy_reader.specs.declared.heads.Context.{Context}
use Rattle.ios_policy_reader.specs.declared.heads.Context.TheVariants.{Top, InInterface, InOspf, InBgp, InMap}
use Rattle.ios_policy_reader.specs.declared.heads.Context.TheVariants.{InStandard, InExtended}
use Rattle.config_prepare.specs.declared.kinds.Class.{Class}
use Rattle.config_prepare.specs.declared.kinds.Class.TheVariants.{NoEffect, MayChange, OtherSpelling}
use Rattle.config_prepare.specs.declared.kinds.Kind.{Kind}
use Rattle.config_prepare.specs.declared.kind_table.TheConstants.{KINDS}
use Rattle.config_prepare.specs.Kinds.{unfilled}
use Rattle.config_prepare.specs.Places.{marks_in}

-- ---- the text

-- a line with what ends it: as it stands, or where it is left out as a comment
abbrev pub out_line : Option ℕ → List ℕ → List ℕ
out_line None line = line
out_line (Some at) line = codes "! left out: " ++ line

-- lines with what ends them, and for each the kind by which it is left out
abbrev pub prepared_lines : List (List ℕ) → List (Option ℕ) → List ℕ
prepared_lines lines marks = flat_map (λ pair. out_line pair.1 pair.0) (zip lines marks)

-- the text in which exactly the lines of a kind without an effect, with their blocks, are comments
abbrev pub prepared : List ℕ → List ℕ
prepared bytes = prepared_lines (pieces_in bytes) (marks_in bytes)

-- ---- what is said of it

-- where lines stand
abbrev pub area_text : Context → List ℕ
area_text Top = codes "top"
area_text InInterface = codes "interface"
area_text InOspf = codes "router ospf"
area_text InBgp = codes "router bgp"
area_text InMap = codes "route-map"
area_text InStandard = codes "ip access-list standard"
area_text InExtended = codes "ip access-list extended"

-- the mark says that kind
abbrev pub is_by : ℕ → Option ℕ → Bool
is_by at mark = option_map_or (λ kind. kind == at) mark false

-- how many lines are left out by a kind
abbrev pub count_of : ℕ → List (Option ℕ) → ℕ
count_of at marks = count_by (is_by at) marks

-- left out N PLACE: KIND
abbrev pub counted_line : List ℕ → List ℕ → List ℕ → List ℕ
counted_line number area head =
    codes "left out " ++ number ++ codes " " ++ area ++ codes ": " ++ head ++ codes "\n"

abbrev pub counted_text : ℕ → Kind → List ℕ
counted_text count kind = counted_line (decimal count) (area_text kind.0) (unfilled kind.1)

-- the row of a kind, where it has lines
abbrev pub row_text : List (Option ℕ) → ℕ → Kind → List ℕ
row_text marks at kind = if count_of at marks == 0 then [] else counted_text (count_of at marks) kind

-- the rows of these kinds, of which the first is at that place of the table
unfoldable pub rows_from : List (Option ℕ) → ℕ → List Kind → List ℕ
rows_from marks at [] = []
rows_from marks at (kind ∷ rest) = row_text marks at kind ++ rows_from marks (at + 1) rest

-- left out N of M lines
abbrev pub total_text : List (Option ℕ) → List ℕ
total_text marks =
    codes "left out " ++ decimal (count_by (λ mark. is_some mark) marks) ++ codes " of " ++ decimal (length marks)
    ++ codes " lines\n"

-- how many lines are left out by each kind that has some, in the order of the table, and of how many in all
abbrev pub report : List (Option ℕ) → List ℕ
report marks = rows_from marks 0 KINDS ++ total_text marks

-- ---- the table

abbrev pub class_text : Class → List ℕ
class_text NoEffect = codes "no effect"
class_text MayChange = codes "may change the verdict"
class_text OtherSpelling = codes "another spelling"

-- | PLACE | `WORDS` | CLASS | REASON |
abbrev pub table_line : List ℕ → List ℕ → List ℕ → List ℕ → List ℕ
table_line area head class reason =
    codes "| " ++ area ++ codes " | `" ++ head ++ codes "` | " ++ class ++ codes " | " ++ reason ++ codes " |\n"

abbrev pub table_row : Kind → List ℕ
table_row kind = table_line (area_text kind.0) (unfilled kind.1) (class_text kind.2) (unfilled kind.3)

-- all kinds
abbrev pub table_text : List ℕ
table_text = flat_map table_row KINDS
