use Rattle.std.proofs.Common.{◌≡◌, inl, refl, subst, sym}
use Rattle.log_checker.specs.declared.cause.Cause.{Cause}
use Rattle.log_checker.specs.Sections.{IsUnopened, opening_text}
use Rattle.log_checker.proofs.Fronts.{opened_shown, some_wrong, unopened}
use Rattle.log_checker.proofs.sections.check_section.Goals as goal

pub returns-in_default-clause-wrong : goal.returns-in_default-clause-wrong
returns-in_default-clause-wrong c =
    let view = c.opening-2.view_is in
    let all = c.as_slice.ensures in
    let text = c.in_ok-opening.ensures in
    let is : c.as_slice.result.now ≡ opening_text c.args.name.now = cc in
    let U : Cause → Type 0 = IsUnopened c.args.name.now c.args.bytes.now in
    inl (
      refl,
      subst U (sym c.unended.ensures)
          (unopened c.args.name.now c.args.bytes.now c.as_slice.result.now is (c.after_text.ensures.none c.in_default.is)),
    )

pub returns-clause-shown : goal.returns-clause-shown
returns-clause-shown c =
    let view = c.opening-2.view_is in
    let all = c.as_slice.ensures in
    let text = c.in_ok-opening.ensures in
    let is : c.as_slice.result.now ≡ opening_text c.args.name.now = cc in
    λ whole. opened_shown c.args.name.now c.as_slice.result.now c.in-Some.body.now c.args.bytes.now c.args.clauses.now
    c.in_ok-lines.field-0.lines c.in_ok-lines.field-0.used is c.in-Some.ensures.some (c.in_ok-lines.ensures.ended whole)

pub returns-clause-wrong : goal.returns-clause-wrong
returns-clause-wrong c =
    let view = c.opening-2.view_is in
    let all = c.as_slice.ensures in
    let text = c.in_ok-opening.ensures in
    let is : c.as_slice.result.now ≡ opening_text c.args.name.now = cc in
    some_wrong c.in_ok-lines.field-0.wrong c.args.name.now c.as_slice.result.now c.in-Some.body.now c.args.bytes.now
    c.args.clauses.now c.in_ok-lines.field-0.lines is c.in-Some.ensures.some c.in_ok-lines.ensures.wrong
