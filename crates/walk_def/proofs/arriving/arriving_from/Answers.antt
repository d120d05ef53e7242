use Rattle.std.proofs.Common.{arith, length, ap, ◌∙◌}
use Rattle.std.proofs.Math.ListN.{length-set}
use Rattle.walk_def.proofs.Arrivals.{first_arrive, known_stays, marked_arrives}
use Rattle.walk_def.proofs.Known.{fewer_known}
use Rattle.walk_def.specs.Marks.{known}
use Rattle.walk_def.proofs.arriving.arriving_from.Goals as goal

pub rounds-smaller : goal.rounds-smaller
rounds-smaller c =
    let found = c.in-Some.ensures.found in
    fewer_known c.rounds.marks.items c.as_slice.result.now c.in-Some.router c.as_slice.ensures.value
    (omega (arith, found.0, c.rounds.invariant.0)) found.1

pub rounds-preserved : goal.rounds-preserved
rounds-preserved c =
    let found = c.in-Some.ensures.found in (
      simp length-set c.rounds.invariant.0,
      marked_arrives c.args.hops.now c.args.landing.now c.rounds.marks.items c.as_slice.result.now c.in-Some.router
          c.as_slice.ensures.value
          found.0 found.2 c.rounds.invariant.1,
      λ router marked. known_stays c.rounds.marks.items c.in-Some.router router (c.rounds.invariant.2 router marked),
    )

pub rounds-init : goal.rounds-init
rounds-init c = (
  ap length c.requires.first ∙ c.requires.same,
  first_arrive c.args.hops.now c.args.landing.now c.args.first.items c.requires.first,
  λ router marked. ap (λ xs. known xs router) c.requires.first ∙ marked,
)
