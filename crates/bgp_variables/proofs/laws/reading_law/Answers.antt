use Rattle.bgp_variables.proofs.Reading.{bgp_read, bgps_read}
use Rattle.bgp_variables.proofs.laws.reading_law.Goals as goal

pub returns-clause-one : goal.returns-clause-one
returns-clause-one c room x v from rest fits here = bgp_read room x v from rest fits here

pub returns-clause-all : goal.returns-clause-all
returns-clause-all c rooms xs v from rest fits here = bgps_read rooms xs v from rest fits here
