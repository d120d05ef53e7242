use Rattle.bgp_shapes.proofs.TrackedLaw.{tests_tracked}
use Rattle.export_terms.proofs.Read.{out_of_tables}
use Rattle.export_terms.proofs.laws.tables_law.Goals as goal

pub returns : goal.returns
returns c w tracked files ask d failures lens slots tables names stand =
    out_of_tables w tracked files ask d failures lens slots tables (tests_tracked files tracked names) stand
