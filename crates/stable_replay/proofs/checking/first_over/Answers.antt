use Rattle.std.proofs.Common.{Option, length, ap, arith, subst}
use Rattle.std.specs.Prelude.{MatchOption}
use borrow.Author.Count.{below_more}
use Rattle.stable_replay.specs.declared.differs.Differs.{Differs}
use Rattle.stable_replay.specs.Differences.{IsDifferenceAt, IsStableAt}
use Rattle.stable_replay.proofs.AllPlaces.{first_at, stable_everywhere}
use Rattle.stable_replay.proofs.checking.first_over.Goals as goal

-- what the test of the place answers
pub returns-in-Some : goal.returns-in-Some
returns-in-Some c =
    let routing = c.args.routing.now in
    let Tested : Option Differs → Type 0 = λ found. MatchOption found
    (IsStableAt routing.net.now.files c.args.d routing.failures.now routing.env.now routing.tables.now c.loop-place.place)
    (IsDifferenceAt routing.net.now.files c.args.d routing.failures.now routing.env.now routing.tables.now
    c.loop-place.place) in
    first_at routing.net.now.files c.args.d routing.failures.now routing.env.now routing.tables.now c.loop-place.place
    c.in-Some.found
    (subst Tested c.in-Some.is c.in_ok-found.ensures) c.loop-place.invariant

pub loop-place-preserved : goal.loop-place-preserved
loop-place-preserved c =
    let routing = c.args.routing.now in
    let Tested : Option Differs → Type 0 = λ found. MatchOption found
    (IsStableAt routing.net.now.files c.args.d routing.failures.now routing.env.now routing.tables.now c.loop-place.place)
    (IsDifferenceAt routing.net.now.files c.args.d routing.failures.now routing.env.now routing.tables.now
    c.loop-place.place) in
    below_more (IsStableAt routing.net.now.files c.args.d routing.failures.now routing.env.now routing.tables.now)
    c.loop-place.place c.loop-place.invariant (subst Tested c.in_default.is c.in_ok-found.ensures)

-- all places are stable
pub returns : goal.returns
returns c =
    let routing = c.args.routing.now in
    stable_everywhere routing.net.now.files c.args.d routing.failures.now routing.env.now routing.tables.now c.requires.size
    c.read_tables.ensures
    (λ k within. c.loop-place.invariant k (omega (arith, within, ap length c.routers.ensures.all)))
