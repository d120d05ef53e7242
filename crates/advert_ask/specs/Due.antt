-- What is due for the words over the contents of files.
use Rattle.std.specs.Prelude.{◌≡◌, ℕ, List, Option, IfSome, Result, Ok}
use Rattle.ios_ast.specs.declared.file.File.{File}
use Rattle.mw_outside.specs.Contents.{Contents}
use Rattle.mw_text.specs.Reading.{following}
use Rattle.run_inputs.specs.declared.text.Text.{Text}
use Rattle.run_inputs.specs.Due.{Outcome, read_as, text_of}
use Rattle.export_asks.specs.declared.ask.Ask.{Ask}
use Rattle.export_asks.specs.Asking as asks
use Rattle.asked_files.specs.Network.{network_of}
use Rattle.asked_files.specs.Words.{Asking}

-- ---- the asks

-- those of a text over the network of these files
abbrev pub asks_of : Text → List File → Result (List Ask) Outcome
asks_of text files = read_as text.name (asks.asking files text.bytes)

-- those of the file of that name
abbrev pub asks_in : Contents → List ℕ → List File → Result (List Ask) Outcome
asks_in contents name files = following (λ text. asks_of text files) (text_of contents name)

-- the network, and then the asks over it
abbrev pub files_due : Contents → Asking → Result (List File × List Ask) Outcome
files_due contents asked =
    following (λ files. following (λ all. Ok (files, all)) (asks_in contents asked.own files))
    (network_of contents asked.configs)

-- ---- what is asked for

-- where contents are told, what is asked for comes to this: asks over the network of some files, or a refusal
abbrev pub ComesTo : Option Contents → Asking → Result (List File × List Ask) Outcome → Type 0
ComesTo told asked result = IfSome told (λ contents. files_due contents asked ≡ result)
