use Rattle.std.proofs.Common.{[], ◌∷◌, List, ◌+◌, ◌∙◌, Ok, ap, subst, sym}
use Rattle.std.proofs.lemmas.Result.{err_from_is_err_and}
use Rattle.cex_json.specs.declared.counterexample.Counterexample.{Counterexample}
use Rattle.mw_text.specs.Reading.{with_value}
use Rattle.mw_text.proofs.Reading.{EachTo, read-none, read-done, each-one, each-refused}
use Rattle.run_inputs.specs.Due.{refused}
use Rattle.run_inputs.proofs.Loading.{on_stop-map}
use Rattle.show_run.specs.Due.{cex_of}
use Rattle.show_run.specs.Said.{AreAdmitted}
use Rattle.show_run.proofs.Saying.{admitted_none, admitted_more}
use Rattle.show_run.proofs.texts.parse_cexes.Goals as goal

pub loop-piece-init : goal.loop-piece-init
loop-piece-init c =
    let empty = sym (c.cexes.view_is ∙ c.new-cexes.ensures) in
    let A : List Counterexample → Type 0 = AreAdmitted c.args.net.now.files c.args.questions.now in (
      read-none (with_value (cex_of c.args.net.now.files c.args.questions.now)) [] ∙ ap Ok empty,
      subst A empty (admitted_none c.args.net.now.files c.args.questions.now),
    )

pub returns-in_err-cex-clause-stop : goal.returns-in_err-cex-clause-stop
returns-in_err-cex-clause-stop c =
    let p = err_from_is_err_and c.from_residual.result c.from_residual.ensures.1 in
    rw (p.1, p.2)
    (on_stop-map c.in_err-cex.field-0.0 _ _ _ _ c.in_err-cex.ensures.stop
    (λ line said. each-refused (cex_of c.args.net.now.files c.args.questions.now) c.args.pieces.now
    c.loop-piece.piece-index c.piece-item.result c.loop-piece.cexes-inside.items.items
    (refused line) c.loop-piece.invariant.0 c.loop-piece-test.true c.piece-item.is said)
    (λ never. never))

pub loop-piece-preserved : goal.loop-piece-preserved
loop-piece-preserved c =
    let P : List Counterexample → Type 0 =
    λ cs. EachTo (cex_of c.args.net.now.files c.args.questions.now) c.args.pieces.now (c.loop-piece.piece-index + 1) cs in
    let A : List Counterexample → Type 0 = AreAdmitted c.args.net.now.files c.args.questions.now in (
      subst P (sym c.in_ok-push.ensures.items)
          (each-one (cex_of c.args.net.now.files c.args.questions.now) c.args.pieces.now c.loop-piece.piece-index
          c.piece-item.result c.loop-piece.cexes-inside.items.items c.in_ok-cex.cex c.loop-piece.invariant.0
          c.loop-piece-test.true c.piece-item.is c.in_ok-cex.ensures.ok),
      subst A (sym c.in_ok-push.ensures.items)
          (admitted_more c.args.net.now.files c.args.questions.now c.loop-piece.cexes-inside.items.items
          c.in_ok-cex.cex c.loop-piece.invariant.1 c.in_ok-cex.ensures.admitted),
    )

pub returns-clause-ok : goal.returns-clause-ok
returns-clause-ok c =
    read-done (with_value (cex_of c.args.net.now.files c.args.questions.now)) [] c.args.pieces.now
    c.loop-piece.piece-index c.loop-piece.cexes-inside.items.items c.loop-piece.invariant.0 c.loop-piece-test.false
