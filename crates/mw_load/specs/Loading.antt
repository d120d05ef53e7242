-- What the files that are named come to.
use Rattle.std.specs.Prelude.{◌≡◌, ◌≤◌, ℕ, ◌+◌, List, [], ◌∷◌, ◌++◌, length, nat_le, codes, slice_get, Option, Some}
use Rattle.std.specs.Prelude.{Result, Ok, Err, IfSome, if◌then◌else◌}
use Rattle.std.specs.Option.{option_map_or}
use Rattle.mw_text.specs.Reading.{each, following}
use Rattle.mw_outside.specs.Contents.{Contents, get}
use Rattle.ios_ast.specs.declared.file.File.{File}
use Rattle.ios_policy_reader.specs.declared.cause.Refused.{Refused}
use Rattle.ios_reader.specs.Reading.{reading}
use Rattle.net_refusals.specs.declared.refusals.NetRefused.{NetRefused}
use Rattle.net_refusals.specs.Refusals.{first_refusal}
use Rattle.mw_load.specs.declared.loading.Placed.{Placed}
use Rattle.mw_load.specs.declared.loading.TheConstants.{MOST_BYTES}
use Rattle.mw_load.specs.Causes.{cause_number, cause_words, net_cause_number, net_cause_words}
use Rattle.mw_load.specs.Refused.{Refusal}

-- why they are no network
pub data Unloaded : Type 0 where
  -- one of them is not there
  unread : Unloaded
  -- one of them is refused
  refused : Refusal → Unloaded

-- the names with their places from this one on
abbrev pub placed : ℕ → List (List ℕ) → List (ℕ × List ℕ)
placed at [] = []
placed at (name ∷ names) = (at, name) ∷ placed (at + 1) names

-- a file with too many bytes
abbrev pub too_long : ℕ → Refusal
too_long at = record { name = at; line = 0; number = 25; cause = codes "TooLong" }

-- the bytes of the file of a name
abbrev pub text_of : Contents → ℕ × List ℕ → Result Placed Unloaded
text_of contents named =
    option_map_or (λ bytes. if nat_le (length bytes) MOST_BYTES then Ok (record { at = named.0; bytes = bytes })
    else Err (refused (too_long named.0)))
    (get contents named.1) (Err unread)

-- a refusal of its text
abbrev pub refused_at : ℕ → Refused → Refusal
refused_at at why =
    record { name = at; line = why.line; number = cause_number why.cause; cause = cause_words why.cause }

abbrev pub read_as : ℕ → Result File Refused → Result File Unloaded
read_as at (Ok file) = Ok file
read_as at (Err why) = Err (refused (refused_at at why))

-- the file that a text reads as
abbrev pub file_of : Placed → Result File Unloaded
file_of text = read_as text.at (reading text.bytes)

-- files that form no network: the first rule that is broken, at its first file and line
abbrev pub net_refusal : NetRefused → Refusal
net_refusal why =
    record { name = why.file; line = why.line; number = net_cause_number why.cause; cause = net_cause_words why.cause }

abbrev pub network_of : List File → Result (List File) Unloaded
network_of files = option_map_or (λ why. Err (refused (net_refusal why))) (first_refusal files) (Ok files)

-- the network of some texts: each is parsed in its turn, and then the network is built
abbrev pub parsed_due : List Placed → Result (List File) Unloaded
parsed_due texts = following network_of (each file_of texts)

-- the network of the files of these names: all are read in their order, and then their texts are parsed
abbrev pub network_due : Contents → List (List ℕ) → Result (List File) Unloaded
network_due contents names = following parsed_due (each (text_of contents) (placed 0 names))

-- each text has few enough bytes
abbrev pub AreSmall : List Placed → Type 0
AreSmall texts = (k : ℕ) (text : Placed) → slice_get texts k ≡ Some text → length text.bytes ≤ MOST_BYTES

-- the files of these names are there, each with few enough bytes
abbrev pub AreThere : Contents → List (List ℕ) → Type 0
AreThere files names = (texts : List Placed) × (each (text_of files) (placed 0 names) ≡ Ok texts)

-- where the last failed name is told, it is one of these names; and where contents are told, every file before it is
-- there and small enough
abbrev pub StopsAt : Option Contents → List (List ℕ) → Option (List ℕ) → Type 0
StopsAt contents names last_failed =
    IfSome last_failed (λ name. (front : List (List ℕ)) × (rest : List (List ℕ)) × (names ≡ front ++ name ∷ rest)
    × IfSome contents (λ files. AreThere files front))
