use Rattle.std.proofs.Common.{◌≡◌, take}
use Rattle.std.specs.List.{flat_map}
use Rattle.config_prepare.proofs.text.joined.Given as goal

-- the pieces so far are joined
abbrev pub invariant-loop-piece : goal.invariant-loop-piece
invariant-loop-piece l = l.text-inside.items.items ≡ flat_map (λ piece. piece.now) (take l.piece-index l.pieces)
