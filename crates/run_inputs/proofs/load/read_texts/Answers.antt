use Rattle.std.proofs.Common.{◌≡◌, ◌∙◌, List, [], refl, ℕ, map, Option, Err, Ok, subst, sym, ap, arith, length, get_or}
use Rattle.std.proofs.Common.{◌+◌, ◌<◌, ◌≤◌, Bor}
use Rattle.std.proofs.lemmas.List.{length-map}
use Rattle.std.specs.Prelude.{IfSome, slice_get}
use Rattle.mw_outside.specs.Contents.{Contents}
use Rattle.mw_outside.specs.Faults.{Rose}
use Rattle.run_inputs.specs.declared.load.TheConstants.{MOST_BYTES}
use Rattle.run_inputs.specs.declared.text.Text.{Text}
use Rattle.run_inputs.specs.Loading.{AreSmall}
use Rattle.run_inputs.specs.Due.{text_of, refused}
use Rattle.mw_text.proofs.Lists.{each_place-push}
use Rattle.std.proofs.lemmas.Result.{err_from_is_err_and}
use Rattle.mw_text.specs.Reading.{with_value}
use Rattle.mw_text.proofs.Reading.{EachTo, read-none, read-done, each-one, each-refused}
use Rattle.mw_text.proofs.Found.{all_told, if_told, if_told_one, read-at}
use Rattle.run_inputs.proofs.Loading.{on_stop-map, stops-here}
use Rattle.run_inputs.proofs.load.read_texts.Goals as goal

pub loop-name-init : goal.loop-name-init
loop-name-init g c =
    let empty : c.texts.inside.items.items ≡ [] = c.texts.view_is ∙ c.new-texts.ensures in
    let S : List Text → Type 0 = λ texts. AreSmall texts in (
      refl,
      refl,
      refl,
      all_told (g.F.Files.contents c.args.files.now) _ (λ contents. read-none (with_value (text_of contents)) []
          ∙ ap Ok (sym empty)),
      subst S (sym empty) (λ k text found. absurd cc),
    )

pub returns-in_err-text-clause-stop : goal.returns-in_err-text-clause-stop
returns-in_err-text-clause-stop g c =
    let p = err_from_is_err_and c.from_residual.result c.from_residual.ensures.1 in
    let names : List (List ℕ) = map (λ s. s.now) c.args.names.now in
    let none : Bor (List ℕ) = record { ref_ptr = (0, 0); now = [] } in
    let name : List ℕ = (get_or c.args.names.now c.loop-name.name-index none).now in
    let told : Option Contents = g.F.Files.contents c.args.files.now in
    let i : ℕ = c.loop-name.name-index in
    let so_far : List Text = c.loop-name.texts-inside.items.items in
    let test = c.loop-name-test.true in
    let within : i < length names = omega (arith, test, length-map c.args.names.now (λ s. s.now)) in
    let is_name : name ≡ get_or names i name =
    read-at (λ s. s.now) c.args.names.now i none test in
    rw (p.1, p.2)
    (on_stop-map c.in_err-text.field-0.0 _ _ _ _ c.in_err-text.ensures.stop
    (λ line said.
    let T : Option Contents → Type 0 = λ o. IfSome o (λ contents. text_of contents name ≡ Err (refused line)) in
    if_told told _ _ _ c.loop-name.invariant.3 (subst T c.loop-name.invariant.0 said)
    (λ contents before stopped. each-refused (text_of contents) names i name so_far
    (refused line) before within is_name stopped))
    (λ said.
    let R : ℕ → Type 0 = λ before. Rose before (g.F.Files.faults c.read_text.new.files) in (
      subst R c.loop-name.invariant.1 said.0,
      stops-here told names i name so_far
          (g.F.Files.last_failed c.read_text.new.files) within is_name c.loop-name.invariant.3 said.1,
    )))

pub loop-name-preserved : goal.loop-name-preserved
loop-name-preserved g c =
    let names : List (List ℕ) = map (λ s. s.now) c.args.names.now in
    let none : Bor (List ℕ) = record { ref_ptr = (0, 0); now = [] } in
    let name : List ℕ = (get_or c.args.names.now c.loop-name.name-index none).now in
    let told : Option Contents = g.F.Files.contents c.args.files.now in
    let i : ℕ = c.loop-name.name-index in
    let test = c.loop-name-test.true in
    let within : i < length names = omega (arith, test, length-map c.args.names.now (λ s. s.now)) in
    let before = c.loop-name.texts-inside.items.items in
    let is_name : name ≡ get_or names i name =
    read-at (λ s. s.now) c.args.names.now i none test in
    let T : Option Contents → Type 0 = λ o. IfSome o (λ contents. text_of contents name ≡ Ok c.in_ok-text.text) in
    let P : List Text → Type 0 = λ texts. IfSome told (λ contents. EachTo (text_of contents) names (i + 1) texts) in
    let items = c.in_ok-push.ensures.items in (
      c.in_ok-text.ensures.kept ∙ c.loop-name.invariant.0,
      c.in_ok-text.ensures.quiet ∙ c.loop-name.invariant.1,
      c.in_ok-text.ensures.name_stays ∙ c.loop-name.invariant.2,
      subst P (sym items)
          (if_told told _ _ _ c.loop-name.invariant.3
          (subst T c.loop-name.invariant.0 c.in_ok-text.ensures.ok)
          (λ contents so read. each-one
          (text_of contents) names i name before c.in_ok-text.text so within is_name read)),
      λ k text found. each_place-push
          (λ _ t. length t.bytes ≤ MOST_BYTES) before c.in_ok-text.text c.loop-name.invariant.4
          c.in_ok-text.ensures.small k text
          (sym (ap (λ xs. slice_get xs k) items) ∙ found),
    )

pub returns-clause-ok : goal.returns-clause-ok
returns-clause-ok g c =
    let names : List (List ℕ) = map (λ s. s.now) c.args.names.now in
    if_told_one (g.F.Files.contents c.args.files.now) _ _ c.loop-name.invariant.3
    (λ contents so. read-done
    (with_value (text_of contents)) [] names c.loop-name.name-index c.loop-name.texts-inside.items.items so
    (omega (arith, c.loop-name-test.false, length-map c.args.names.now (λ s. s.now))))
