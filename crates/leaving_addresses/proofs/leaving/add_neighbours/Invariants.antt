use Rattle.std.proofs.Common.{◌≡◌, ◌++◌, drop, map}
use Rattle.leaving_addresses.proofs.leaving.add_neighbours.Given as goal

-- the addresses so far, with those that are left, are all
abbrev pub invariant-loop-neighbour : goal.invariant-loop-neighbour
invariant-loop-neighbour l =
    l.out-inside.items.items ++ map (λ neighbour. neighbour.addr) (drop l.neighbour-index l.process.neighbours)
    ≡ l.fn.out ++ map (λ neighbour. neighbour.addr) l.process.neighbours
