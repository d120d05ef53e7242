use Rattle.loop_free_walks.proofs.Walks.{not_longer, not_looping, some_cost}
use Rattle.loop_free_walks.proofs.laws.loop_free_law.Goals as goal

pub returns-clause-loops : goal.returns-clause-loops
returns-clause-loops c files world environment stable limits all walk is =
    not_looping files world environment stable (some_cost files limits) all walk.hops walk.end is

pub returns-clause-short : goal.returns-clause-short
returns-clause-short c files world environment stable limits all walk is =
    not_longer files world environment stable (some_cost files limits) all walk.hops walk.end is
