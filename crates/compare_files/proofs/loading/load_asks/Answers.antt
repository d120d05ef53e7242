use Rattle.std.proofs.lemmas.Result.{IfErr-weaker}
use Rattle.mw_text.proofs.Results.{ok_then}
use Rattle.run_inputs.proofs.Loading.{on_stop-map}
use Rattle.compare_files.proofs.Reading.{asks_read, asks_refused}
use Rattle.compare_files.proofs.loading.load_asks.Goals as goal

pub returns-clause-ok : goal.returns-clause-ok
returns-clause-ok g c =
    ok_then c.parse_asks.result c.parse_asks.ensures.ok
    (λ asks is. asks_read (g.F.Files.contents c.args.files.now) c.args.name.now c.args.left.now.files
    c.args.right.now.files c.in_ok-text.text asks c.in_ok-text.ensures.ok is)

pub returns-clause-stop : goal.returns-clause-stop
returns-clause-stop g c =
    IfErr-weaker c.parse_asks.result _ _
    (λ why said. on_stop-map why _ _ _ _ said
    (λ line is. asks_refused (g.F.Files.contents c.args.files.now) c.args.name.now c.args.left.now.files
    c.args.right.now.files c.in_ok-text.text line c.in_ok-text.ensures.ok is)
    (λ never. absurd never)) c.parse_asks.ensures.stop
