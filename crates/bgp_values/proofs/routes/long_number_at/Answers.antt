use Rattle.std.proofs.Common.{◌≡◌, ◌∙◌, ℕ, ap, arith, if◌then◌else◌, sym}
use Rattle.failed_links.specs.Rows.{number_from}
use Rattle.term_store.specs.Terms.{truth}
use Rattle.bgp_values.proofs.NumberSteps.{number_long}
use Rattle.bgp_values.proofs.routes.long_number_at.Goals as goal

pub returns-then-value_at-clause-value : goal.returns-then-value_at-clause-value
returns-then-value_at-clause-value c =
    let v = truth c.args.values.now in
    let width : 33 ≡ c.args.width = omega (arith, c.if-width-le32.false, c.requires.narrow) in
    let low = c.from-low.ensures ∙ c.number_at-2.ensures.value in
    let top = ap {B = ℕ} (λ b. if b then 4294967296 else 0) (sym c.value_at.ensures ∙ c.if-value_at.true) in
    let whole = number_long v c.args.from in
    let same = ap (number_from v c.args.from) width in
    omega (arith, low, top, whole, same)

pub returns-else-value_at-clause-value : goal.returns-else-value_at-clause-value
returns-else-value_at-clause-value c =
    let v = truth c.args.values.now in
    let width : 33 ≡ c.args.width = omega (arith, c.if-width-le32.false, c.requires.narrow) in
    let low = c.from-low.ensures ∙ c.number_at-2.ensures.value in
    let top = ap {B = ℕ} (λ b. if b then 4294967296 else 0) (sym c.value_at.ensures ∙ c.if-value_at.false) in
    let whole = number_long v c.args.from in
    let same = ap (number_from v c.args.from) width in
    omega (arith, low, top, whole, same)
