use Rattle.std.proofs.Common.{◌≡◌, drop, max}
use Rattle.std.specs.Prelude.{fold}
use Rattle.slot_places.proofs.rooms.dearest_of.Given as goal

abbrev pub invariant-loop-r : goal.invariant-loop-r
invariant-loop-r l = fold (λ most r. max most r.cost) l.most (drop l.r-index l.origins)
    ≡ fold (λ most r. max most r.cost) 0 l.origins
