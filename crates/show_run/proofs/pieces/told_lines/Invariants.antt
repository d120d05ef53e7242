use Rattle.std.proofs.Common.{◌≡◌, map, filter, take}
use Rattle.show_run.specs.Pieces.{is_told, piece_of}
use Rattle.show_run.proofs.pieces.told_lines.Given as goal

-- those of the lines so far
abbrev pub invariant-loop-line : goal.invariant-loop-line
invariant-loop-line l =
    l.told-inside.items.items ≡ map (piece_of l.name) (filter is_told (take l.line-index l.lines))
