-- Lines, ended by line feeds.
use Rattle.std.specs.Prelude.{ℕ, List}
use Rattle.std.specs.List.{slice_split}
use Rattle.resolution_check.specs.Text.{is_line_feed}

-- the pieces between line feeds
abbrev pub pieces : List ℕ → List (List ℕ)
pieces bytes = slice_split is_line_feed bytes
