use Rattle.bgp_variables.proofs.OpenedTest.{opened_test}
use Rattle.bgp_variables.proofs.laws.test_law.Goals as goal

pub returns : goal.returns
returns c files tracked at end neighbour len v from there outer line short words =
    opened_test files tracked at end neighbour len v from there outer line short words
