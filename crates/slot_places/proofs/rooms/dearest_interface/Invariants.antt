use Rattle.std.proofs.Common.{◌≡◌, drop, max}
use Rattle.std.specs.Prelude.{fold}
use Rattle.slot_places.proofs.rooms.dearest_interface.Given as goal

abbrev pub invariant-loop-x : goal.invariant-loop-x
invariant-loop-x l = fold (λ most x. max most x.cost) l.most (drop l.x-index l.interfaces)
    ≡ fold (λ most x. max most x.cost) 0 l.interfaces
