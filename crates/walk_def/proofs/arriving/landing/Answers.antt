use Rattle.std.proofs.Common.{rules, ℕ, Bool, sym, ap, subst, arith, ◌∙◌}
use Rattle.std.specs.Prelude.{slice_get}
use Rattle.mw_text.proofs.Lists.{each_place-push}
use Rattle.walk_def.proofs.Arrivals.{all_landing}
use Rattle.walk_def.specs.Arriving.{IsLandingMark}
use Rattle.walk_def.proofs.arriving.landing.Goals as goal

pub loop-at-preserved : goal.loop-at-preserved
loop-at-preserved c =
    let before = c.loop-at.marks.items in
    let P : ℕ → Bool → Type 0 = IsLandingMark c.args.net.now.files c.args.world.now c.args.target.now c.args.hops.now in
    let Q : ℕ → Type 0 = λ at. P at c.landing_mark.result in (
      search rules,
      λ k mark found. each_place-push P before c.landing_mark.result c.loop-at.invariant.1
          (subst Q (sym c.loop-at.invariant.0) c.landing_mark.ensures) k mark
          (sym (ap (λ xs. slice_get xs k) c.in_ok-push.ensures.items) ∙ found),
    )

pub returns-clause-landing : goal.returns-clause-landing
returns-clause-landing c =
    all_landing c.args.net.now.files c.args.world.now c.args.target.now c.args.hops.now c.loop-at.marks.items
    (omega (arith, c.loop-at.invariant.0, c.loop-at-test.false, c.loop-at.auto)) c.loop-at.invariant.1
