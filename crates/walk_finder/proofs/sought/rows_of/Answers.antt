use Rattle.std.proofs.Common.{◌≡◌, ℕ, ◌+◌, ◌∷◌, ◌++◌, [], length, sym, ap, subst, arith, ◌∙◌, length-append}
use Rattle.std.specs.Prelude.{slice_get}
use Rattle.mw_text.proofs.Lists.{each_place-push}
use Rattle.walk_finder.specs.Sought.{IsRow}
use Rattle.walk_finder.proofs.sought.rows_of.Goals as goal

pub loop-at-preserved : goal.loop-at-preserved
loop-at-preserved c =
    let before = c.loop-at.rows-inside.items.items in
    let row = c.in_ok-row.row in
    let files = c.args.net.now.files in
    let world = c.args.world.now in
    let kind = c.args.kind.now in
    let pushed : c.push.new.self.items ≡ before ++ row ∷ [] = c.in_ok-push.ensures.items in
    let longer : length c.push.new.self.items ≡ length before + 1 =
    ap length pushed ∙ length-append before (row ∷ []) in
    let P : ℕ → Type 0 = λ at. IsRow files world kind at row in (
      omega (arith, longer, c.loop-at.invariant.0),
      λ k other found. each_place-push (IsRow files world kind) before row c.loop-at.invariant.1
          (subst P (sym c.loop-at.invariant.0) c.in_ok-row.ensures) k other
          (ap (λ xs. slice_get xs k) (sym pushed) ∙ found),
    )
