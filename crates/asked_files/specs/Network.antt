-- The network of the configurations that are named.
use Rattle.std.specs.Prelude.{ℕ, List, [], ◌∷◌, ◌++◌, slice_get, unwrap_or, Result, Ok, Err}
use Rattle.ios_ast.specs.declared.file.File.{File}
use Rattle.mw_load.specs.Loading.{Unloaded, network_due}
use Rattle.mw_load.specs.Loading as load
use Rattle.mw_load.specs.Refused.{Refusal, refused_text}
use Rattle.mw_outside.specs.Contents.{Contents}
use Rattle.run_inputs.specs.Due.{Outcome, refused, unread}
use Rattle.asked_files.specs.Words.{Asking}

abbrev pub name_at : List (List ℕ) → ℕ → List ℕ
name_at names at = unwrap_or (slice_get names at) []

-- the line of a refusal of one of the files of these names
abbrev pub refusal_line : List (List ℕ) → Refusal → List ℕ
refusal_line names refusal =
    refused_text (name_at names refusal.name) refusal.line refusal.number refusal.cause

abbrev pub loaded_as : List (List ℕ) → Result (List File) Unloaded → Result (List File) Outcome
loaded_as names (Ok files) = Ok files
loaded_as names (Err load.unread) = Err unread
loaded_as names (Err (load.refused refusal)) = Err (refused (refusal_line names refusal))

-- the network of the files of these names: they are read in their order, parsed in it, and their network is built
abbrev pub network_of : Contents → List (List ℕ) → Result (List File) Outcome
network_of contents names = loaded_as names (network_due contents names)

-- the names of the files in the order in which they are read: the configurations, and then the command's own file
abbrev pub in_order : Asking → List (List ℕ)
in_order asked = asked.configs ++ asked.own ∷ []
