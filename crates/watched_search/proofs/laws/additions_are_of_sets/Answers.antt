use Rattle.watched_search.proofs.Sets.{addition_set, earned_addition, sets_push, view_sets}
use Rattle.watched_search.proofs.laws.additions_are_of_sets.Goals as goal

pub returns-clause-addition : goal.returns-clause-addition
returns-clause-addition c = addition_set

pub returns-clause-view : goal.returns-clause-view
returns-clause-view c = view_sets

pub returns-clause-more : goal.returns-clause-more
returns-clause-more c = sets_push

pub returns-clause-earned : goal.returns-clause-earned
returns-clause-earned c = earned_addition
