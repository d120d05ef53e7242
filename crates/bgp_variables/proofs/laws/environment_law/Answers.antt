use Rattle.bgp_variables.proofs.EnvironmentReading.{arrivals_fit, environment_read}
use Rattle.bgp_variables.proofs.laws.environment_law.Goals as goal

pub returns-clause-read : goal.returns-clause-read
returns-clause-read c tracked files lens ids shapes v from rest long fit fits here =
    environment_read tracked files lens ids shapes v from rest long fit fits here

pub returns-clause-fits : goal.returns-clause-fits
returns-clause-fits c tracked files announced lens may = arrivals_fit tracked files announced may lens
