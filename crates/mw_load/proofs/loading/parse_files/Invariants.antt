use Rattle.std.proofs.Common.{◌≡◌, true}
use Rattle.std.specs.List.{list_all}
use Rattle.ios_ast.specs.Limits.{keeps_limits}
use Rattle.mw_load.specs.Loading.{file_of}
use Rattle.mw_text.proofs.Reading.{EachTo}
use Rattle.mw_load.proofs.loading.parse_files.Given as goal

-- the files so far are those of the texts so far, and keep the limits
abbrev pub invariant-loop-text : goal.invariant-loop-text
invariant-loop-text l =
    EachTo file_of l.texts l.text-index l.files-inside.items.items
    × (list_all keeps_limits l.files-inside.items.items ≡ true)
