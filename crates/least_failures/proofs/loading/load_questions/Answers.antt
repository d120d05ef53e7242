use Rattle.std.proofs.lemmas.Result.{IfErr-weaker}
use Rattle.mw_text.proofs.Results.{ok_then}
use Rattle.run_inputs.proofs.Loading.{on_stop-map}
use Rattle.least_failures.proofs.Reading.{questions_read, questions_refused}
use Rattle.least_failures.proofs.loading.load_questions.Goals as goal

pub returns-clause-ok : goal.returns-clause-ok
returns-clause-ok g c =
    ok_then c.read_asked.result c.read_asked.ensures.ok
    (λ questions is. questions_read (g.F.Files.contents c.args.files.now) c.args.name.now c.args.net.now.files
    c.in_ok-text.text questions c.in_ok-text.ensures.ok is)

pub returns-clause-stop : goal.returns-clause-stop
returns-clause-stop g c =
    IfErr-weaker c.read_asked.result _ _
    (λ why said. on_stop-map why _ _ _ _ said
    (λ line is. questions_refused (g.F.Files.contents c.args.files.now) c.args.name.now c.args.net.now.files
    c.in_ok-text.text line c.in_ok-text.ensures.ok is)
    (λ never. absurd never)) c.read_asked.ensures.stop
