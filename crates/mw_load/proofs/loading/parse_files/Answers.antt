use Rattle.std.proofs.Common.{[], ◌∷◌, List, ◌+◌, ◌∙◌, Ok, ap, length, refl, subst, sym}
use Rattle.std.specs.List.{list_all}
use Rattle.std.proofs.lemmas.Bool.{and_from}
use Rattle.std.proofs.lemmas.List.Folds.{list_all-append}
use Rattle.ios_ast.specs.Limits.{keeps_limits}
use Rattle.std.proofs.lemmas.Option.{slice_get_read}
use Rattle.std.proofs.lemmas.Result.{err_from_is_err_and}
use Rattle.ios_ast.specs.declared.file.File.{File}
use Rattle.mw_text.specs.Reading.{with_value}
use Rattle.mw_text.proofs.Reading.{EachTo, read-none, read-done, each-one, each-refused}
use Rattle.mw_load.specs.Loading.{file_of, refused}
use Rattle.mw_load.proofs.OneByOne.{on_refused-map}
use Rattle.mw_load.proofs.loading.parse_files.Goals as goal

pub loop-text-init : goal.loop-text-init
loop-text-init c =
    let empty = sym (c.files.view_is ∙ c.new-files.ensures) in
    (read-none (with_value file_of) [] ∙ ap Ok empty, ap (list_all keeps_limits) (sym empty))

pub parse_file-requires : goal.parse_file-requires
parse_file-requires c =
    c.requires c.loop-text.text-index c.text-item.result
    (slice_get_read c.args.texts.now
    (length c.args.texts.now) c.loop-text.text-index c.text-item.result refl c.loop-text-test.true c.text-item.is)

pub returns-in_err-file-clause-stop : goal.returns-in_err-file-clause-stop
returns-in_err-file-clause-stop c =
    let p = err_from_is_err_and c.from_residual.result c.from_residual.ensures.1 in
    rw (p.1, p.2)
    (on_refused-map c.in_err-file.field-0.0 _ _ _ _ c.in_err-file.ensures.stop
    (λ line said. each-refused file_of c.args.texts.now c.loop-text.text-index c.text-item.result
    c.loop-text.files-inside.items.items
    (refused line) c.loop-text.invariant.0 c.loop-text-test.true c.text-item.is said)
    (λ never. never))

pub loop-text-preserved : goal.loop-text-preserved
loop-text-preserved c =
    let P : List File → Type 0 = λ fs. EachTo file_of c.args.texts.now (c.loop-text.text-index + 1) fs in
    let all = list_all-append keeps_limits c.loop-text.files-inside.items.items (c.in_ok-file.file ∷ [])
    ∙ and_from _ _ c.loop-text.invariant.1 (and_from _ _ c.in_ok-file.ensures.limits refl) in (
      subst P (sym c.in_ok-push.ensures.items)
          (each-one file_of c.args.texts.now c.loop-text.text-index c.text-item.result
          c.loop-text.files-inside.items.items c.in_ok-file.file c.loop-text.invariant.0 c.loop-text-test.true
          c.text-item.is c.in_ok-file.ensures.ok),
      ap (list_all keeps_limits) c.in_ok-push.ensures.items ∙ all,
    )

pub returns-clause-ok : goal.returns-clause-ok
returns-clause-ok c =
    read-done (with_value file_of) [] c.args.texts.now c.loop-text.text-index c.loop-text.files-inside.items.items
    c.loop-text.invariant.0
    c.loop-text-test.false
