use Rattle.std.proofs.Common.{◌≡◌, ℕ, ◌+◌, ◌-◌, length, List, [], ◌∷◌, sym, ap, subst, arith, ◌∙◌, length-append}
use Rattle.question_lang.specs.declared.question.Start.{Start}
use Rattle.question_lang.specs.declared.walk.Hop.{Hop}
use Rattle.walk_def.proofs.Following.{Begun, Followed, begun-start, followed-start}
use Rattle.walk_finder.specs.Rows.{AreRowsOf}
use Rattle.walk_finder.proofs.Marked.{going_within}
use Rattle.walk_finder.proofs.Trails.{begun_on, followed, followed_on, hops_lead, hops_marked, open_end}
use Rattle.walk_finder.proofs.following.follow_hops.Goals as goal

pub walk-init : goal.walk-init
walk-init c =
    let none : length c.new.result ≡ 0 = ap length c.new.ensures in
    let P : List Start → Type 0 =
    λ hs. (hops : ℕ → List Hop) → AreRowsOf hops c.args.rows.now → Followed hops hs c.args.start in
    let Q : List Start → Type 0 = λ hs. Begun c.args.start hs c.args.start in (
      omega (arith, none),
      c.requires.marked,
      subst P (sym c.new.ensures) (λ hops are. followed-start hops c.args.start),
      subst Q (sym c.new.ensures) (begun-start c.args.start),
    )

pub step-requires-clause-within : goal.step-requires-clause-within
step-requires-clause-within c = going_within c.args.rows.now c.walk.left c.walk.trail.now.router c.walk.invariant.1

pub step-requires-clause-leads : goal.step-requires-clause-leads
step-requires-clause-leads c =
    hops_lead c.args.rows.now c.args.count c.walk.left c.args.layers.now c.walk.trail.now.router
    c.index-layers-left.result c.as_slice.result.now c.requires.layers c.walk.invariant.1 (omega arith)
    (omega (arith, c.walk.invariant.0)) c.index-layers-left.is c.as_slice.ensures

pub walk-preserved : goal.walk-preserved
walk-preserved c =
    let stood = c.walk.trail.stood in
    let now = c.walk.trail.now in
    let then = c.step.new.trail.now in
    let more = c.in_ok-step.ensures.stood in
    let longer : length c.step.new.trail.stood ≡ length stood + 1 = ap length more ∙ length-append stood (now ∷ []) in (
      omega (arith, longer, c.walk.invariant.0),
      hops_marked c.args.rows.now c.args.count (c.walk.left - 1) c.args.layers.now then.router
          c.index-layers-left.result c.as_slice.result.now c.requires.layers (omega (arith, c.walk.invariant.0))
          c.index-layers-left.is c.as_slice.ensures c.in_ok-step.ensures.marked,
      followed_on c.args.rows.now stood c.step.new.trail.stood now then more c.walk.invariant.2
          c.in_ok-step.ensures.led,
      begun_on c.args.start stood c.step.new.trail.stood now then more c.walk.invariant.3,
    )

pub returns-clause-follows : goal.returns-clause-follows
returns-clause-follows c =
    followed c.args.rows.now c.args.start c.walk.trail.stood c.walk.trail.now c.in_ok-walk.walk
    c.in_ok-walk.ensures.hops c.walk.invariant.2 c.walk.invariant.3
    (λ hops are. open_end hops c.walk.trail.stood c.walk.trail.now c.in_ok-walk.walk.end c.in_ok-walk.ensures.end)
