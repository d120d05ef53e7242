use Rattle.bgp_shapes.proofs.LengthLaw.{stable_fewer, stable_short}
use Rattle.bgp_shapes.proofs.laws.length_law.Goals as goal

pub returns-clause-fewer : goal.returns-clause-fewer
returns-clause-fewer c files destination failures environment tables once stable router len slot held below there is =
    stable_fewer files destination failures environment tables once stable router len slot held below there is

pub returns-clause-short : goal.returns-clause-short
returns-clause-short c files destination failures environment tables once few stable router len file process below =
    stable_short files destination failures environment tables once few stable router len file process below
