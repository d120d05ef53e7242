use Rattle.std.proofs.Common.{◌≡◌, ◌∙◌, map}
use Rattle.route_record.specs.Shape.{has, has_address, marked_number}
use Rattle.route_record.proofs.Marks.{shape_alike}
use Rattle.route_record.proofs.shaping.shape.Goals as goal

pub returns-clause-value : goal.returns-clause-value
returns-clause-value c =
    let rec = c.args.rec.now in
    let tracked = c.args.tracked.now in
    let numbers : c.marks.result ≡ marked_number (map (has rec.path) tracked.numbers) =
    simp (c.as_slice-path.ensures, c.as_slice.ensures) at c.marks.ensures in
    let communities : c.marks-2.result ≡ marked_number (map (has rec.communities) tracked.communities) =
    simp (c.as_slice-2.ensures, c.as_slice-3.ensures) at c.marks-2.ensures in
    let clusters : c.marks-3.result ≡ marked_number (map (has_address rec.clusters) tracked.clusters) =
    simp (c.as_slice-5.ensures, c.as_slice-6.ensures) at c.marks-3.ensures in
    cc

pub returns-clause-untracked : goal.returns-clause-untracked
returns-clause-untracked c =
    λ other alike. returns-clause-value c ∙ shape_alike c.args.tracked.now c.args.rec.now other alike
