use Rattle.std.proofs.Math.Nat.{le_trans}
use Rattle.sym_policy.proofs.SameNodes.{made_joined}
use Rattle.sym_policy.proofs.maps.with_made.Goals as goal

pub returns-clause-made : goal.returns-clause-made
returns-clause-made c =
    let valid = c.in_ok-valid.ensures in
    made_joined c.both.new.terms c.args.rec.now c.joined.result c.args.made c.in_ok-valid.valid c.in_ok-rest.rest
    (le_trans c.requires.nodes valid.builds.larger) (le_trans c.requires.made valid.builds.larger) valid.within
    valid.value c.in_ok-rest.ensures c.joined.ensures
