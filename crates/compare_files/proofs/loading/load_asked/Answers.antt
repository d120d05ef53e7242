use Rattle.std.proofs.Common.{◌≡◌, ℕ, Ok, Err, Option, subst, sym}
use Rattle.std.proofs.lemmas.Result.{err_from_is_err_and}
use Rattle.mw_load.specs.Loading.{StopsAt}
use Rattle.mw_outside.specs.Contents.{Contents}
use Rattle.mw_outside.specs.Faults.{Rose}
use Rattle.run_inputs.proofs.Loading.{on_stop-map}
use Rattle.run_inputs.specs.Due.{refused}
use Rattle.compare_words.specs.Words.{Asking, asks as asking}
use Rattle.compare_files.specs.Due.{ComesTo}
use Rattle.compare_files.specs.Loading.{AreBuilt, in_order}
use Rattle.compare_files.proofs.Reading.{configs_unread, pair_stopped}
use Rattle.compare_files.proofs.loading.load_asked.Goals as goal

pub asks_over-requires : goal.asks_over-requires
asks_over-requires g c =
    let all : Asking = asking c.args.asked.now in
    let B : Option Contents → Type 0 = λ told. AreBuilt told all.sides c.in_ok-pair.pair.left c.in_ok-pair.pair.right in
    let kept : g.F.Files.contents c.load_both.new.files ≡ g.F.Files.contents c.args.files.now = c.in_ok-pair.ensures.kept in
    subst B (sym kept) c.in_ok-pair.ensures.ok

pub returns-in_err-pair-clause-stop : goal.returns-in_err-pair-clause-stop
returns-in_err-pair-clause-stop g c =
    let p = err_from_is_err_and c.from_residual.result c.from_residual.ensures.1 in
    let told : Option Contents = g.F.Files.contents c.args.files.now in
    let all : Asking = asking c.args.asked.now in
    rw (p.1, p.2)
    (on_stop-map c.in_err-pair.field-0.0 _ _ _ _ c.in_err-pair.ensures.stop
    (λ line said. pair_stopped told all line said)
    (λ said. (said.0, configs_unread told all (g.F.Files.last_failed c.load_both.new.files) said.1)))

pub returns-in_err-asks-clause-stop : goal.returns-in_err-asks-clause-stop
returns-in_err-asks-clause-stop g c =
    let p = err_from_is_err_and c.from_residual-in_err-asks.result c.from_residual-in_err-asks.ensures.1 in
    let all : Asking = asking c.args.asked.now in
    let last = g.F.Files.last_failed c.asks_over.new.files in
    rw (p.1, p.2)
    (on_stop-map c.in_err-asks.field-0.0 _ _ _ _ c.in_err-asks.ensures.stop
    (λ line said.
    let T : Option Contents → Type 0 = λ told. ComesTo told all (Err (refused line)) in
    subst T c.in_ok-pair.ensures.kept said)
    (λ said.
    let R : ℕ → Type 0 = λ before. Rose before (g.F.Files.faults c.asks_over.new.files) in
    let S : Option Contents → Type 0 = λ told. StopsAt told (in_order all) last in
    (subst R c.in_ok-pair.ensures.quiet said.0, subst S c.in_ok-pair.ensures.kept said.1)))

pub returns-clause-ok : goal.returns-clause-ok
returns-clause-ok g c =
    let all : Asking = asking c.args.asked.now in
    let T : Option Contents → Type 0 = λ told.
    ComesTo told all (Ok (c.asks_over.new.left.files, c.asks_over.new.right.files, c.in_ok-asks.asks)) in
    subst T c.in_ok-pair.ensures.kept c.in_ok-asks.ensures.ok
