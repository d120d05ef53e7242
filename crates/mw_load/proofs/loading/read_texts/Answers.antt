use Rattle.std.proofs.Common.{◌≡◌, ◌∙◌, List, [], refl, ℕ, map, Option, Err, Ok, subst, sym, ap, arith, length, get_or}
use Rattle.std.proofs.Common.{◌+◌, ◌<◌, ◌≤◌}
use Rattle.std.proofs.lemmas.List.{length-map}
use Rattle.std.specs.Prelude.{IfSome, slice_get, string_bytes}
use Rattle.mw_outside.specs.Contents.{Contents}
use Rattle.mw_outside.specs.Faults.{Rose}
use Rattle.mw_load.specs.declared.loading.TheConstants.{MOST_BYTES}
use Rattle.mw_load.specs.declared.loading.Placed.{Placed}
use Rattle.mw_load.specs.Loading.{AreSmall, placed, refused, text_of}
use Rattle.mw_text.proofs.Lists.{each_place-push}
use Rattle.std.proofs.lemmas.Result.{err_from_is_err_and}
use Rattle.mw_text.specs.Reading.{with_value}
use Rattle.mw_text.proofs.Reading.{EachTo, read-none, read-done, each-one, each-refused}
use Rattle.mw_text.proofs.Found.{all_told, if_told, if_told_one}
use Rattle.mw_load.proofs.OneByOne.{length-placed, on_refused-map, placed-at}
use Rattle.mw_load.proofs.OneByOne.{stops-here, at-place}
use Rattle.mw_load.proofs.loading.read_texts.Goals as goal

pub loop-i-init : goal.loop-i-init
loop-i-init g c =
    let empty : c.texts.inside.items.items ≡ [] = c.texts.view_is ∙ c.new-texts.ensures in
    let S : List Placed → Type 0 = λ texts. AreSmall texts in (
      refl,
      refl,
      refl,
      all_told (g.F.Files.contents c.args.files.now) _ (λ contents. read-none (with_value (text_of contents)) []
          ∙ ap Ok (sym empty)),
      subst S (sym empty) (λ k text found. absurd cc),
    )

pub returns-in_err-text-clause-stop : goal.returns-in_err-text-clause-stop
returns-in_err-text-clause-stop g c =
    let p = err_from_is_err_and c.from_residual.result c.from_residual.ensures.1 in
    let names : List (List ℕ) = map string_bytes c.args.names.now in
    let i : ℕ = c.loop-i.i in
    let s = c.index-names-i.result in
    let name : List ℕ = c.as_str.result.now in
    let told : Option Contents = g.F.Files.contents c.args.files.now in
    let so_far : List Placed = c.loop-i.texts-inside.items.items in
    let test = c.loop-i-test.true in
    let long = length-map c.args.names.now string_bytes in
    let within : i < length names = omega (arith, test, long) in
    let is_name : name ≡ get_or names i name =
    at-place string_bytes c.args.names.now i s name test c.index-names-i.is c.as_str.ensures.value in
    let all = length-placed 0 names in
    let placed_within : i < length (placed 0 names) = omega (arith, within, all) in
    let is_place : (i, name) ≡ get_or (placed 0 names) i (i, name) = placed-at names i name within is_name in
    rw (p.1, p.2)
    (on_refused-map c.in_err-text.field-0.0 _ _ _ _ c.in_err-text.ensures.stop
    (λ refusal said.
    let T : Option Contents → Type 0 = λ o. IfSome o (λ contents. text_of contents (i, name) ≡ Err (refused refusal)) in
    if_told told _ _ _ c.loop-i.invariant.3 (subst T c.loop-i.invariant.0 said)
    (λ contents before stopped. each-refused (text_of contents) (placed 0 names) i (i, name) so_far
    (refused refusal) before placed_within is_place stopped))
    (λ said.
    let R : ℕ → Type 0 = λ before. Rose before (g.F.Files.faults c.read_text.new.files) in (
      subst R c.loop-i.invariant.1 said.0,
      stops-here told names i name so_far
          (g.F.Files.last_failed c.read_text.new.files) within is_name c.loop-i.invariant.3 said.1,
    )))

pub loop-i-preserved : goal.loop-i-preserved
loop-i-preserved g c =
    let names : List (List ℕ) = map string_bytes c.args.names.now in
    let i : ℕ = c.loop-i.i in
    let s = c.index-names-i.result in
    let name : List ℕ = c.as_str.result.now in
    let told : Option Contents = g.F.Files.contents c.args.files.now in
    let test = c.loop-i-test.true in
    let long = length-map c.args.names.now string_bytes in
    let within : i < length names = omega (arith, test, long) in
    let before = c.loop-i.texts-inside.items.items in
    let is_name : name ≡ get_or names i name =
    at-place string_bytes c.args.names.now i s name test c.index-names-i.is c.as_str.ensures.value in
    let all = length-placed 0 names in
    let placed_within : i < length (placed 0 names) = omega (arith, within, all) in
    let is_place : (i, name) ≡ get_or (placed 0 names) i (i, name) = placed-at names i name within is_name in
    let T : Option Contents → Type 0 = λ o. IfSome o (λ contents. text_of contents (i, name) ≡ Ok c.in_ok-text.text) in
    let P : List Placed → Type 0 = λ texts. IfSome told (λ contents. EachTo (text_of contents) (placed 0 names) (i + 1) texts) in
    let items = c.in_ok-push.ensures.items in (
      c.in_ok-text.ensures.kept ∙ c.loop-i.invariant.0,
      c.in_ok-text.ensures.quiet ∙ c.loop-i.invariant.1,
      c.in_ok-text.ensures.name_stays ∙ c.loop-i.invariant.2,
      subst P (sym items)
          (if_told told _ _ _ c.loop-i.invariant.3
          (subst T c.loop-i.invariant.0 c.in_ok-text.ensures.ok)
          (λ contents so read. each-one
          (text_of contents) (placed 0 names) i (i, name) before c.in_ok-text.text so placed_within is_place read)),
      λ k text found. each_place-push
          (λ _ t. length t.bytes ≤ MOST_BYTES) before c.in_ok-text.text c.loop-i.invariant.4
          c.in_ok-text.ensures.small k text
          (sym (ap (λ xs. slice_get xs k) items) ∙ found),
    )

pub returns-clause-ok : goal.returns-clause-ok
returns-clause-ok g c =
    let names : List (List ℕ) = map string_bytes c.args.names.now in
    let all = length-placed 0 names in
    let long = length-map c.args.names.now string_bytes in
    if_told_one (g.F.Files.contents c.args.files.now) _ _ c.loop-i.invariant.3
    (λ contents so. read-done
    (with_value (text_of contents)) [] (placed 0 names) c.loop-i.i c.loop-i.texts-inside.items.items so
    (omega (arith, c.loop-i-test.false, all, long)))
