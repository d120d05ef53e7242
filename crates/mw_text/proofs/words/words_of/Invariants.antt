use Rattle.std.proofs.Common.{◌≡◌, take, map, length}
use Rattle.std.specs.Prelude.{filter, nat_lt}
use Rattle.mw_text.proofs.words.words_of.Given as goal

-- the words are the pieces so far that are not empty
abbrev pub invariant-loop-piece : goal.invariant-loop-piece
invariant-loop-piece l =
    l.words-inside.items.items
    ≡ filter (λ w. nat_lt 0 (length w)) (map (λ piece. piece.now) (take l.piece-index l.piece-items))
