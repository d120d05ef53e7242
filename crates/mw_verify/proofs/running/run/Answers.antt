use Rattle.mw_verify.proofs.Completeness.{so_complete}
use Rattle.mw_verify.proofs.running.run.Goals as goal

pub returns-clause-complete : goal.returns-clause-complete
returns-clause-complete g c = so_complete _ _ c.do_work.result c.do_work.ensures.so
