-- What is due for the words over the contents of files.
use Rattle.std.specs.Prelude.{◌≡◌, ℕ, List, ◌++◌, Option, IfSome, Result, Ok, Err}
use Rattle.std.specs.Option.{option_map_or}
use Rattle.ios_ast.specs.declared.file.File.{File}
use Rattle.mw_outside.specs.Contents.{Contents}
use Rattle.mw_text.specs.Reading.{following}
use Rattle.net_model.specs.Kept.{Network}
use Rattle.net_parts.specs.Tracked.{tracked_of}
use Rattle.paired_nets.specs.declared.refused.PairRefused.{PairRefused}
use Rattle.paired_nets.specs.Refusals.{pair_refusal}
use Rattle.run_inputs.specs.declared.text.Text.{Text}
use Rattle.run_inputs.specs.Due.{Outcome, read_as, refused, text_of}
use Rattle.same_asks.specs.declared.same.Same.{Same}
use Rattle.same_asks.specs.Asking as asks
use Rattle.asked_files.specs.Network.{network_of, refusal_line}
use Rattle.compare_words.specs.Words.{Asking, Sides}
use Rattle.compare_files.specs.Causes.{cause_number, cause_words}

-- ---- the networks

-- the names of the configurations in the order in which they are read: the left network's, and then the right one's
abbrev pub configs_of : Sides → List (List ℕ)
configs_of sides = sides.left ++ sides.right

-- the network that is built of files: it tracks the values that they name
abbrev pub built : List File → Network
built files = record { files = files; tracked = tracked_of files }

-- the line of a pair of networks that is refused, of which the right one's files have these names
abbrev pub pair_line : List (List ℕ) → PairRefused → List ℕ
pair_line names why = refusal_line names (record {
  name = why.file;
  line = why.line;
  number = cause_number why.cause;
  cause = cause_words why.cause;
})

-- the files of a pair of networks, where they are compared
abbrev pub pair_of : List (List ℕ) → Network → Network → Result (List File × List File) Outcome
pair_of names left right =
    option_map_or (λ why. Err (refused (pair_line names why))) (pair_refusal left right) (Ok (left.files, right.files))

-- the network of the files of these names beside that of the left files
abbrev pub beside : Contents → List (List ℕ) → List File → Result (List File × List File) Outcome
beside contents names left =
    following (λ right. pair_of names (built left) (built right)) (network_of contents names)

-- the left network, then the right one, and then whether they are compared
abbrev pub pair_in : Contents → Sides → Result (List File × List File) Outcome
pair_in contents sides = following (beside contents sides.right) (network_of contents sides.left)

-- ---- the asks

-- those of a text over both networks
abbrev pub asks_of : Text → List File → List File → Result (List Same) Outcome
asks_of text left right = read_as text.name (asks.asking left right text.bytes)

-- those of the file of that name
abbrev pub asks_in : Contents → List ℕ → List File → List File → Result (List Same) Outcome
asks_in contents name left right = following (λ text. asks_of text left right) (text_of contents name)

-- a pair of networks, and the asks over both
abbrev pub asked_over : Contents → List ℕ → List File × List File → Result (List File × List File × List Same) Outcome
asked_over contents name pair =
    following (λ all. Ok (pair.0, pair.1, all)) (asks_in contents name pair.0 pair.1)

-- ---- what is asked for

-- the pair of networks, and then the asks over it
abbrev pub files_due : Contents → Asking → Result (List File × List File × List Same) Outcome
files_due contents asked = following (asked_over contents asked.asks) (pair_in contents asked.sides)

-- where contents are told, what is asked for comes to this: asks over the networks of some files, or a refusal
abbrev pub ComesTo : Option Contents → Asking → Result (List File × List File × List Same) Outcome → Type 0
ComesTo told asked result = IfSome told (λ contents. files_due contents asked ≡ result)
