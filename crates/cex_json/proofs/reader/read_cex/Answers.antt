use Rattle.serde_json.specs.View.{view}
use Rattle.cex_json.proofs.Fitting.{cex_failures}
use Rattle.cex_json.proofs.InSet.{cex_packet}
use Rattle.cex_json.proofs.Sizes.{cex_question, cex_slots}
use Rattle.cex_json.proofs.Surrounding.{cex_environment}
use Rattle.cex_json.proofs.reader.read_cex.Goals as goal

pub returns-clause-question : goal.returns-clause-question
returns-clause-question c =
    cex_question c.args.net.now.files c.args.questions.now (view c.in_ok-text.text) c.in_ok-cex.cex c.in_ok-cex.ensures

pub returns-clause-packet : goal.returns-clause-packet
returns-clause-packet c question there =
    cex_packet c.args.net.now.files c.args.questions.now
    (view c.in_ok-text.text) c.in_ok-cex.cex question c.in_ok-cex.ensures there

pub returns-clause-failures : goal.returns-clause-failures
returns-clause-failures c question there =
    cex_failures c.args.net.now.files c.args.questions.now
    (view c.in_ok-text.text) c.in_ok-cex.cex question c.in_ok-cex.ensures there

pub returns-clause-environment : goal.returns-clause-environment
returns-clause-environment c =
    cex_environment c.args.net.now.files c.args.questions.now (view c.in_ok-text.text) c.in_ok-cex.cex c.in_ok-cex.ensures

pub returns-clause-slots : goal.returns-clause-slots
returns-clause-slots c =
    cex_slots c.args.net.now.files c.args.questions.now (view c.in_ok-text.text) c.in_ok-cex.cex c.in_ok-cex.ensures
