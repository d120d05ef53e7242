-- Which text reads as which file (Cisco IOS command references).
use Rattle.std.specs.Prelude.{ℕ, ◌==◌, ◌&&◌, ◌||◌, Bool, true, false, List, [], ◌∷◌, length, nat_eq, nat_lt, codes}
use Rattle.std.specs.Prelude.{Option, Some, None, Result, Ok, Err, if◌then◌else◌}
use Rattle.std.specs.List.{starts_with}
use Rattle.std.specs.Option.{option_map_or}
use Rattle.mw_text.specs.declared.words.Line.{Line}
use Rattle.mw_text.specs.Text.{same_text}
use Rattle.mw_text.specs.Words.{is_skipped, text_lines}
use Rattle.ios_ast.specs.declared.file.TheConstants.{MOST_LINES}
use Rattle.ios_ast.specs.declared.file.File.{File}
use Rattle.ios_policy_reader.specs.declared.cause.Cause.{Cause}
use Rattle.ios_policy_reader.specs.declared.cause.Cause.TheVariants.{OutOfPlace, Limit, NoHostname}
use Rattle.ios_policy_reader.specs.declared.cause.Refused.{Refused}
use Rattle.ios_policy_reader.specs.declared.heads.Context.{Context}
use Rattle.ios_policy_reader.specs.declared.heads.Context.TheVariants.{Top, InInterface, InOspf, InBgp}
use Rattle.ios_policy_reader.specs.declared.heads.Row.{Row}
use Rattle.ios_policy_reader.specs.declared.heads.Row.TheVariants.{Neighbor}
use Rattle.ios_policy_reader.specs.declared.heads.Found.{Found}
use Rattle.ios_policy_reader.specs.declared.said.Said.{Said}
use Rattle.ios_policy_reader.specs.Heads.{row_of, said_in}
use Rattle.ios_policy_reader.specs.Policies.{Taken, context_of, policy_reading}
use Rattle.ios_reader.specs.declared.draft.Block.{Block}
use Rattle.ios_reader.specs.declared.draft.Block.TheVariants.{Closed, Interface, Ospf, Bgp, Ignored}
use Rattle.ios_reader.specs.declared.draft.Delimiter.{Delimiter}
use Rattle.ios_reader.specs.declared.draft.Draft.{Draft}
use Rattle.ios_reader.specs.Drafts.{empty_draft, closed}
use Rattle.mw_text.specs.Reading.{following}
use Rattle.ios_reader.specs.Banners.{holds}
use Rattle.ios_reader.specs.BgpRows.{is_unnamed}
use Rattle.ios_reader.specs.TopRows.{top_row}
use Rattle.ios_reader.specs.SubRows.{sub_row}

-- ---- the row of a line

-- the lines that stand before a configuration that was shown
abbrev pub is_preamble : List ℕ → Bool
is_preamble raw =
    same_text raw (codes "Building configuration...") || starts_with nat_eq raw (codes "Current configuration")

abbrev pub is_ignored : Block → Bool
is_ignored Ignored = true
is_ignored _ = false

-- where the lines of the open block stand
abbrev pub block_context : Block → Option Context → Option Context
block_context Closed of_policies = of_policies
block_context Interface of_policies = Some InInterface
block_context Ospf of_policies = Some InOspf
block_context Bgp of_policies = Some InBgp
block_context Ignored of_policies = None

-- where a line stands: with a blank before it in the open block, else at the top
abbrev pub line_context : Line → Draft → Option Context
line_context line draft =
    if line.indented then block_context draft.block (context_of draft.policy_block draft.file.policies) else Some Top

-- a line on a neighbour that no `remote-as` line has named
abbrev pub is_misplaced : Row → List (List ℕ) → Draft → Bool
is_misplaced Neighbor words draft = option_map_or (λ bgp. is_unnamed words bgp.neighbours) draft.file.bgp false
is_misplaced _ words draft = false

-- the row of a line of a router: out of place where no block is open, and on a neighbour that is not named
abbrev pub found_in : Line → Draft → Result Found Cause
found_in line draft =
    option_map_or
    (λ context. following
    (λ found. if is_misplaced found.row line.words draft then Err OutOfPlace else Ok found) (row_of context line.words))
    (line_context line draft) (Err OutOfPlace)

-- ---- the draft with a line more

-- a line of a router; a top line closes the open block
abbrev pub put_row : Row → Line → List Line → List Said → Draft → Result Draft Cause
put_row row line rest said draft =
    if line.indented then sub_row row line said draft else top_row row line rest said (closed draft)

-- a line in a block whose lines are ignored
abbrev pub in_ignored : Line → Draft → Bool
in_ignored line draft = line.indented && is_ignored draft.block

-- a line of a row of a router: its row first, then its words, then what it does
abbrev pub row_line : Line → List Line → Draft → Result Draft Cause
row_line line rest draft = following
    (λ found. following (λ said. put_row found.row line rest said draft) (said_in found line.words))
    (found_in line draft)

-- a line that is no policy's
abbrev pub own_line : Line → List Line → Draft → Result Draft Cause
own_line line rest draft =
    if in_ignored line draft then Ok draft
    else if is_preamble line.raw then Ok (closed draft)
    else row_line line rest draft

abbrev pub from_policies : Draft → Taken → Draft
from_policies draft taken =
    record draft { file = record draft.file { policies = taken.policies }; policy_block = taken.block }

-- a line that says something: a policy's, or else a router's
abbrev pub policy_first : Line → List Line → Draft → Result Draft Cause
policy_first line rest draft = following
    (λ taken. if taken.taken then Ok (record (from_policies draft taken) { block = Closed })
    else own_line line rest (from_policies draft taken))
    (policy_reading line draft.policy_block draft.file.policies)

-- a line of an open banner
abbrev pub in_banner : Delimiter → Line → Draft → Draft
in_banner delimiter line draft = if holds delimiter line.raw then (record draft { banner = None }) else draft

-- the draft with a line more, or why that line is refused; the lines after it tell whether a banner ends
abbrev pub with_line : Line → List Line → Draft → Result Draft Cause
with_line line rest draft =
    if nat_lt MOST_LINES line.number then Err Limit
    else option_map_or (λ delimiter. Ok (in_banner delimiter line draft)) draft.banner
    (if is_skipped line.words then Ok draft else policy_first line rest draft)

-- ---- all lines

-- refused at that line
abbrev pub at_line : {T : Type 0} → ℕ → Result T Cause → Result T Refused
at_line line (Ok x) = Ok x
at_line line (Err cause) = Err (record { line = line; cause = cause })

-- a file has a hostname
abbrev pub finished : Draft → Result File Refused
finished draft =
    if length draft.file.hostname == 0 then Err (record { line = 1; cause = NoHostname }) else Ok draft.file

-- the file of a draft and the lines after it, or the refusal at the first line with a cause
unfoldable pub read_lines : Draft → List Line → Result File Refused
read_lines draft [] = finished draft
read_lines draft (line ∷ rest) =
    following (λ next. read_lines next rest) (at_line line.number (with_line line rest draft))

-- the file that a text reads as, or its refusal
abbrev pub reading : List ℕ → Result File Refused
reading bytes = read_lines empty_draft (text_lines bytes)
