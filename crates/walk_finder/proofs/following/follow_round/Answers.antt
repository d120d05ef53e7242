use Rattle.std.proofs.Common.{◌≡◌, ℕ, ◌-◌, length, List, true, sym, subst, arith, set}
use Rattle.std.specs.Prelude.{Any}
use Rattle.std.proofs.Math.ListN.{length-set}
use Rattle.question_lang.specs.declared.question.Start.{Start}
use Rattle.question_lang.specs.declared.walk.Hop.{Hop}
use Rattle.walk_def.proofs.Following.{Begun, Followed, begun-start, followed-start}
use Rattle.walk_def.proofs.Known.{fewer, known-from_read, seen-marked, unmarked, unmarked-length}
use Rattle.walk_def.specs.Marks.{known}
use Rattle.walk_finder.specs.Rows.{AreRowsOf}
use Rattle.walk_finder.proofs.Marked.{going_all, going_within}
use Rattle.walk_finder.proofs.Trails.{begun_on, followed, followed_on, hops_lead, hops_marked, loop_end, unset_most}
use Rattle.walk_finder.proofs.following.follow_round.Goals as goal

pub walk-init : goal.walk-init
walk-init c =
    let P : List Start → Type 0 =
    λ hs. (hops : ℕ → List Hop) → AreRowsOf hops c.args.rows.now → Followed hops hs c.args.start in
    let Q : List Start → Type 0 = λ hs. Begun c.args.start hs c.args.start in
    let count = length c.args.rows.now in
    let none = c.in_ok-seen.ensures in
    let long : length c.in_ok-seen.seen.items ≡ count = unmarked-length c.in_ok-seen.seen.items count none in
    let marked = going_all c.args.rows.now c.args.start.router c.requires.marked in (
      omega arith,
      marked,
      subst P (sym c.new.ensures) (λ hops are. followed-start hops c.args.start),
      subst Q (sym c.new.ensures) (begun-start c.args.start),
      going_within c.args.rows.now count c.args.start.router marked,
      long,
      omega (arith, unset_most c.in_ok-seen.seen.items count none),
      λ router seen. unmarked
          (Any (λ s. s.router ≡ router) c.new.result) c.in_ok-seen.seen.items count router none seen,
    )

pub overflow_sub-left : goal.overflow_sub-left
overflow_sub-left c =
    let less =
    fewer c.walk.seen.items c.walk.trail.now.router c.index.result.now
    (omega (arith, c.walk.invariant.4, c.walk.invariant.5)) c.index.ensures c.walk-test.true in
    omega (arith, less, c.walk.invariant.6)

pub step-requires-clause-leads : goal.step-requires-clause-leads
step-requires-clause-leads c =
    let less =
    fewer c.walk.seen.items c.walk.trail.now.router c.index.result.now
    (omega (arith, c.walk.invariant.4, c.walk.invariant.5)) c.index.ensures c.walk-test.true in
    hops_lead c.args.rows.now (length c.args.rows.now) c.walk.left c.args.layers.now c.walk.trail.now.router
    c.index-layers-left.result c.as_slice.result.now c.requires.layers c.walk.invariant.1
    (omega (arith, less, c.walk.invariant.6)) c.walk.invariant.0 c.index-layers-left.is c.as_slice.ensures

pub walk-smaller : goal.walk-smaller
walk-smaller c =
    let less =
    fewer c.walk.seen.items c.walk.trail.now.router c.index.result.now
    (omega (arith, c.walk.invariant.4, c.walk.invariant.5)) c.index.ensures c.walk-test.true in
    omega (arith, less, c.walk.invariant.6)

pub walk-preserved : goal.walk-preserved
walk-preserved c =
    let rows = c.args.rows.now in
    let stood = c.walk.trail.stood in
    let now = c.walk.trail.now in
    let then = c.step.new.trail.now in
    let more = c.in_ok-step.ensures.stood in
    let less =
    fewer c.walk.seen.items now.router c.index.result.now (omega (arith, c.walk.invariant.4, c.walk.invariant.5))
    c.index.ensures c.walk-test.true in
    let marked =
    hops_marked rows (length rows) (c.walk.left - 1) c.args.layers.now then.router c.index-layers-left.result
    c.as_slice.result.now c.requires.layers (omega (arith, c.walk.invariant.0)) c.index-layers-left.is
    c.as_slice.ensures c.in_ok-step.ensures.marked in
    let P : List Start → Type 0 = λ hs. (router : ℕ) → known (set c.walk.seen.items now.router true) router ≡ true
    → Any (λ s. s.router ≡ router) hs in (
      omega (arith, c.walk.invariant.0),
      marked,
      followed_on rows stood c.step.new.trail.stood now then more c.walk.invariant.2 c.in_ok-step.ensures.led,
      begun_on c.args.start stood c.step.new.trail.stood now then more c.walk.invariant.3,
      going_within rows (c.walk.left - 1) then.router marked,
      simp length-set c.walk.invariant.5,
      omega (arith, less, c.walk.invariant.6),
      subst P (sym more) (seen-marked c.walk.seen.items stood now c.walk.invariant.7),
    )

pub returns-clause-follows : goal.returns-clause-follows
returns-clause-follows c =
    let stood = c.walk.trail.stood in
    let now = c.walk.trail.now in
    let seen =
    known-from_read c.walk.seen.items now.router c.index.result.now
    (omega (arith, c.walk.invariant.4, c.walk.invariant.5)) c.index.ensures c.walk-test.false in
    followed c.args.rows.now c.args.start stood now c.in_ok-walk.walk c.in_ok-walk.ensures.hops c.walk.invariant.2
    c.walk.invariant.3
    (λ hops are. loop_end hops stood now c.in_ok-walk.walk.end c.in_ok-walk.ensures.end
    (c.walk.invariant.7 now.router seen))
