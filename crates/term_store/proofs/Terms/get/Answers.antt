use Rattle.std.proofs.Common.{◌≡◌, ◌<◌, length, ap, arith}
use Rattle.term_store.specs.Terms.{size}
use Rattle.term_store.proofs.Growth.{IsBelow-at, Reads-get_or, Stands-get_or}
use Rattle.term_store.proofs.Terms.get.Goals as goal

pub returns-clause-below : goal.returns-clause-below
returns-clause-below c =
    let within : c.args.id.0 < length c.self.inside.nodes.keys = omega (arith, ap size c.self.view_is, c.requires) in
    rw (c.as_slice.ensures.keys, ← c.self.view_is) (IsBelow-at _ _ _ _ c.self.invariant within)

pub returns-clause-value : goal.returns-clause-value
returns-clause-value c = λ w reads.
    let same : c.as_slice.result.now ≡ c.args.self.now.nodes = rw (← c.self.view_is) c.as_slice.ensures.keys in
    rw same (Reads-get_or w c.args.self.now c.args.id.0 _ c.requires reads)

pub returns-clause-node : goal.returns-clause-node
returns-clause-node c =
    let same : c.as_slice.result.now ≡ c.args.self.now.nodes = rw (← c.self.view_is) c.as_slice.ensures.keys in
    rw same (Stands-get_or c.args.self.now c.args.id.0 _ c.requires)
