-- The refusals of several files, by the kinds of their lines.
use Rattle.std.specs.Prelude.{ℕ, suc, ◌≡◌, Bool, List, [], ◌∷◌, ◌++◌, length, map, filter, take, codes, count_by, slice_get}
use Rattle.std.specs.Prelude.{Result, Ok, Err, if◌then◌else◌}
use Rattle.std.specs.Fmt.{decimal}
use Rattle.std.specs.List.{concat, flat_map, list_any, range_with_len}
use Rattle.std.specs.Option.{option_map_or}
use Rattle.mw_text.specs.Text.{same_text}
use Rattle.ios_ast.specs.declared.file.File.{File}
use Rattle.ios_policy_reader.specs.declared.cause.Refused.{Refused}
use Rattle.run_inputs.specs.declared.text.Text.{Text}
use Rattle.run_inputs.specs.Due.{network_due, Outcome, refused}
use Rattle.config_prepare.specs.declared.run.Status.{Status}
use Rattle.config_prepare.specs.declared.run.Status.TheVariants as status
use Rattle.config_prepare.specs.declared.run.Status.TheVariants.{Done}
use Rattle.config_lint.specs.declared.labels.Entry.{Entry}
use Rattle.config_lint.specs.Labels.{entry_of}
use Rattle.config_lint.specs.Listed.{AreListed}

-- all refusals of a text, in their order
abbrev pub IsLinted : Text → List Entry → Type 0
IsLinted text entries = (told : List Refused) × AreListed text.bytes [] told × (entries ≡ map (entry_of text) told)

-- those of all texts, one text after another
unfoldable pub AreEntries : List Text → List Entry → Type 0
AreEntries [] entries = entries ≡ []
AreEntries (text ∷ rest) entries =
    (own : List Entry) × (later : List Entry) × IsLinted text own × (entries ≡ own ++ later) × AreEntries rest later

-- ---- by kinds

abbrev pub has_label : List ℕ → Entry → Bool
has_label label entry = same_text entry.label label

-- N of KIND
abbrev pub head_text : ℕ → List ℕ → List ℕ
head_text count label = decimal count ++ codes " of " ++ label ++ codes "\n"

-- the lines of the refusals of a kind
abbrev pub lines_text : List Entry → List ℕ → List ℕ
lines_text entries label = flat_map (λ entry. entry.line) (filter (has_label label) entries)

abbrev pub group_text : List Entry → List ℕ → List ℕ
group_text entries label = head_text (count_by (has_label label) entries) label ++ lines_text entries label

-- the group of a refusal, where no refusal before it has its kind
abbrev pub group_of : List Entry → ℕ → Entry → List ℕ
group_of entries at entry =
    if list_any (has_label entry.label) (take at entries) then [] else group_text entries entry.label

-- that of each of these, of which the first is at that place
unfoldable pub groups_from : List Entry → ℕ → List Entry → List ℕ
groups_from entries at [] = []
groups_from entries at (entry ∷ rest) = group_of entries at entry ++ groups_from entries (suc at) rest

-- refused lines: N
abbrev pub total_text : List Entry → List ℕ
total_text entries = codes "refused lines: " ++ decimal (length entries) ++ codes "\n"

-- all refusals by their kinds, in the order in which these come first, and how many they are
abbrev pub grouped : List Entry → List ℕ
grouped entries = groups_from entries 0 entries ++ total_text entries

-- ---- what is printed

-- nothing is refused, or the files break a rule together
abbrev pub network_text : Result (List File) Outcome → List ℕ
network_text (Ok files) = codes "no line is refused\n"
network_text (Err (refused line)) = line
network_text (Err _) = []

abbrev pub network_status : Result (List File) Outcome → Status
network_status (Ok files) = Done
network_status (Err _) = status.Refused

-- the refusals of the texts, or where there is none the first of the network
abbrev pub linted_text : List Text → List Entry → List ℕ
linted_text texts [] = network_text (network_due texts)
linted_text texts (entry ∷ rest) = grouped (entry ∷ rest)

abbrev pub linted_status : List Text → List Entry → Status
linted_status texts [] = network_status (network_due texts)
linted_status texts (entry ∷ rest) = status.Refused
