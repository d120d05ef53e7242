use Rattle.std.proofs.Common.{◌≡◌, ◌∙◌, ℕ, List, Ok, Err, Option, map, subst}
use Rattle.std.specs.Prelude.{IfSome}
use Rattle.std.proofs.lemmas.Result.{err_from_is_err_and}
use Rattle.mw_outside.specs.Contents.{Contents}
use Rattle.mw_outside.specs.Faults.{Rose}
use Rattle.run_inputs.specs.declared.load.TheConstants.{MOST_CEX_BYTES}
use Rattle.run_inputs.specs.Due.{refused, text_of, text_within}
use Rattle.run_inputs.proofs.Loading.{on_stop-map, stops-third}
use Rattle.show_run.proofs.Reading.{third_refused}
use Rattle.show_run.proofs.texts.read_all.Goals as goal

pub returns-in_err-told-clause-stop : goal.returns-in_err-told-clause-stop
returns-in_err-told-clause-stop g c =
    let p = err_from_is_err_and c.from_residual-in_err-told.result c.from_residual-in_err-told.ensures.1 in
    let names : List (List ℕ) = map (λ s. s.now) c.args.names.now in
    let told : Option Contents = g.F.Files.contents c.args.files.now in
    let A : Option Contents → Type 0 = λ o.
    IfSome o (λ contents. text_of contents c.args.questions.now ≡ Ok c.in_ok-asked.asked) in
    let asked = subst A c.in_ok-configs.ensures.kept c.in_ok-asked.ensures.ok in
    rw (p.1, p.2)
    (on_stop-map c.in_err-told.field-0.0 _ _ _ _ c.in_err-told.ensures.stop
    (λ line said.
    let T : Option Contents → Type 0 = λ o.
    IfSome o (λ contents. text_within MOST_CEX_BYTES contents c.args.printed.now ≡ Err (refused line)) in
    third_refused told names c.args.printed.now c.args.questions.now c.in_ok-configs.configs c.in_ok-asked.asked line
    MOST_CEX_BYTES (λ ts q t. Ok (ts, q, t))
    c.in_ok-configs.ensures.ok asked (subst T (c.in_ok-asked.ensures.kept ∙ c.in_ok-configs.ensures.kept) said))
    (λ said.
    let R : ℕ → Type 0 = λ before. Rose before (g.F.Files.faults c.read_text-2.new.files) in (
      subst R (c.in_ok-asked.ensures.quiet ∙ c.in_ok-configs.ensures.quiet) said.0,
      stops-third told names c.args.questions.now c.args.printed.now c.in_ok-configs.configs c.in_ok-asked.asked
          (g.F.Files.last_failed c.read_text-2.new.files) c.in_ok-configs.ensures.ok asked said.1,
    )))
