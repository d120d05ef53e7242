-- Where the lines of a text stand, and which are left out.
use Rattle.std.specs.Prelude.{ℕ, ◌&&◌, ◌||◌, not, List, [], ◌∷◌, codes, Option, Some, None, is_some}
use Rattle.std.specs.Prelude.{if◌then◌else◌}
use Rattle.std.specs.Option.{option_map_or}
use Rattle.mw_text.specs.declared.words.Line.{Line}
use Rattle.mw_text.specs.Words.{is_skipped, text_lines}
use Rattle.ios_policy_reader.specs.declared.heads.Context.TheVariants.{Top, InInterface, InOspf, InBgp, InMap}
use Rattle.ios_reader.specs.declared.draft.Delimiter.{Delimiter}
use Rattle.ios_reader.specs.Banners.{banner_text, delimiter_of, ends_on_line, holds}
use Rattle.config_prepare.specs.declared.places.Block.{Block}
use Rattle.config_prepare.specs.declared.places.Block.TheVariants.{In, LeftOut, Other}
use Rattle.config_prepare.specs.declared.places.Place.{Place}
use Rattle.config_prepare.specs.Kinds.{begins, left_out_kind}

-- no block is open, and no banner
abbrev pub at_start : Place
at_start = record { block = Other; banner = None }

-- the block that a top line of these words opens, where it is none that is left out
abbrev pub opened_by : List (List ℕ) → Block
opened_by words =
    if begins (codes "interface") words then In InInterface
    else if begins (codes "router ospf") words then In InOspf
    else if begins (codes "router bgp") words then In InBgp
    else if begins (codes "route-map") words then In InMap
    else Other

-- the block that a top line of these words opens: where it is of a kind without an effect, one that is left out
abbrev pub block_by : List (List ℕ) → Block
block_by words = option_map_or (λ at. LeftOut at) (left_out_kind Top words) (opened_by words)

-- what ends the banner that a top line opens, unless it ends on that line
abbrev pub banner_by : Line → Option Delimiter
banner_by line =
    if begins (codes "banner") line.words && not (ends_on_line line.raw)
    then Some (delimiter_of (banner_text line.raw))
    else None

-- after a line that says something: a sub-line stays in the open block
abbrev pub after_words : Place → Line → Place
after_words place line =
    if line.indented then place else record { block = block_by line.words; banner = banner_by line }

-- where the line after this one stands: lines of a banner and lines that say nothing open and close no block
abbrev pub place_after : Place → Line → Place
place_after place line =
    option_map_or (λ delimiter. if holds delimiter line.raw then (record place { banner = None }) else place)
    place.banner
    (if is_skipped line.words then place else after_words place line)

-- the kind by which a sub-line of these words in that block is left out
abbrev pub left_out_in : Block → List (List ℕ) → Option ℕ
left_out_in (In context) words = left_out_kind context words
left_out_in (LeftOut at) words = Some at
left_out_in Other words = None

-- The kind by which a line that stands there is left out, where it is: that of its words, or of its block. Lines of a
-- banner and lines that say nothing are not left out.
abbrev pub left_out_by : Place → Line → Option ℕ
left_out_by place line =
    if is_some place.banner || is_skipped line.words then None
    else if line.indented then left_out_in place.block line.words
    else left_out_kind Top line.words

-- for each of these lines, of which the first stands there, the kind by which it is left out
unfoldable pub left_out_from : Place → List Line → List (Option ℕ)
left_out_from place [] = []
left_out_from place (line ∷ rest) = left_out_by place line ∷ left_out_from (place_after place line) rest

-- the same for each line of a text
abbrev pub marks_in : List ℕ → List (Option ℕ)
marks_in bytes = left_out_from at_start (text_lines bytes)
