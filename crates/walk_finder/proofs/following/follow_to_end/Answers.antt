use Rattle.std.proofs.Common.{ℕ, ◌-◌, length, List, sym, subst, arith, ◌∙◌}
use Rattle.mw_text.proofs.Lists.{item_there}
use Rattle.question_lang.specs.declared.question.Start.{Start}
use Rattle.question_lang.specs.declared.walk.Hop.{Hop}
use Rattle.walk_def.proofs.Following.{Begun, Followed, begun-start, followed-start}
use Rattle.walk_finder.specs.Rows.{AreRowsOf}
use Rattle.walk_finder.proofs.Marked.{arriving_all, arriving_within}
use Rattle.walk_finder.proofs.Trails.{arrived, begun_on, ends_lead, ends_left, ends_marked, followed_on}
use Rattle.walk_finder.proofs.following.follow_to_end.Goals as goal

pub walk-init : goal.walk-init
walk-init c =
    let P : List Start → Type 0 =
    λ hs. (hops : ℕ → List Hop) → AreRowsOf hops c.args.rows.now → Followed hops hs c.args.start in
    let Q : List Start → Type 0 = λ hs. Begun c.args.start hs c.args.start in (
      omega arith,
      arriving_all c.args.rows.now c.args.start.router c.requires.marked,
      subst P (sym c.new.ensures) (λ hops are. followed-start hops c.args.start),
      subst Q (sym c.new.ensures) (begun-start c.args.start),
    )

pub has_end-requires : goal.has_end-requires
has_end-requires c = arriving_within c.args.rows.now c.walk.left c.walk.trail.now.router c.walk.invariant.1

pub overflow_sub-left : goal.overflow_sub-left
overflow_sub-left c =
    let within = arriving_within c.args.rows.now c.walk.left c.walk.trail.now.router c.walk.invariant.1 in
    let (row, found) = item_there c.args.rows.now c.walk.trail.now.router within in
    let some = ends_left c.args.rows.now c.walk.left c.walk.trail.now.router row c.walk.invariant.1 found
    (c.has_end.ensures row found ∙ c.walk-test.true) in omega (arith, some)

pub step-requires-clause-within : goal.step-requires-clause-within
step-requires-clause-within c = arriving_within c.args.rows.now c.walk.left c.walk.trail.now.router c.walk.invariant.1

pub step-requires-clause-leads : goal.step-requires-clause-leads
step-requires-clause-leads c =
    ends_lead c.args.rows.now (length c.args.rows.now) c.walk.left c.args.layers.now c.walk.trail.now.router
    c.index-layers-left.result c.as_slice.result.now c.requires.layers c.walk.invariant.1 c.walk.invariant.0
    c.index-layers-left.is c.as_slice.ensures (λ row found. c.has_end.ensures row found ∙ c.walk-test.true)

pub walk-smaller : goal.walk-smaller
walk-smaller c =
    let within = arriving_within c.args.rows.now c.walk.left c.walk.trail.now.router c.walk.invariant.1 in
    let (row, found) = item_there c.args.rows.now c.walk.trail.now.router within in
    let some = ends_left c.args.rows.now c.walk.left c.walk.trail.now.router row c.walk.invariant.1 found
    (c.has_end.ensures row found ∙ c.walk-test.true) in omega (arith, some)

pub walk-preserved : goal.walk-preserved
walk-preserved c =
    let stood = c.walk.trail.stood in
    let now = c.walk.trail.now in
    let then = c.step.new.trail.now in
    let more = c.in_ok-step.ensures.stood in (
      omega (arith, c.walk.invariant.0),
      ends_marked c.args.rows.now (length c.args.rows.now) (c.walk.left - 1) c.args.layers.now then.router
          c.index-layers-left.result c.as_slice.result.now c.requires.layers (omega (arith, c.walk.invariant.0))
          c.index-layers-left.is c.as_slice.ensures c.in_ok-step.ensures.marked,
      followed_on c.args.rows.now stood c.step.new.trail.stood now then more c.walk.invariant.2
          c.in_ok-step.ensures.led,
      begun_on c.args.start stood c.step.new.trail.stood now then more c.walk.invariant.3,
    )

pub arrive-requires-clause-within : goal.arrive-requires-clause-within
arrive-requires-clause-within c =
    arriving_within c.args.rows.now c.walk.left c.walk.trail.now.router c.walk.invariant.1

pub returns : goal.returns
returns c =
    let now = c.walk.trail.now in
    let within = arriving_within c.args.rows.now c.walk.left now.router c.walk.invariant.1 in
    let (row, found) = item_there c.args.rows.now now.router within in
    arrived c.args.rows.now c.args.start c.walk.trail.stood now c.in_ok-walk.walk row c.in_ok-walk.ensures.hops
    c.walk.invariant.2 c.walk.invariant.3 found (c.in_ok-walk.ensures.end row found)
