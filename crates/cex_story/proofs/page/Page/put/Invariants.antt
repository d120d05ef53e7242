use Rattle.std.proofs.Common.{take}
use Rattle.std.specs.List.{flat_map}
use Rattle.cex_story.specs.Pages.{Adds}
use Rattle.cex_story.proofs.page.Page.put.Given as goal

-- the pieces so far
abbrev pub invariant-loop-piece : goal.invariant-loop-piece
invariant-loop-piece l = Adds l.initial.self l.self (flat_map (λ piece. piece.now) (take l.piece-index l.pieces))
