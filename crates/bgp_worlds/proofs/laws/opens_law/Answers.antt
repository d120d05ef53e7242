use Rattle.bgp_worlds.proofs.OpenComplete.{opens_pass, world_again}
use Rattle.bgp_worlds.proofs.laws.opens_law.Goals as goal

pub returns-clause-again : goal.returns-clause-again
returns-clause-again c tracked files destinations plan world environment net limits sliced covered costs may stable =
    world_again tracked files destinations plan world environment net limits sliced covered costs may stable

pub returns-clause-passes : goal.returns-clause-passes
returns-clause-passes c tracked files destinations plan world environment net limits sliced covered costs may stable =
    opens_pass tracked files destinations plan world environment net limits sliced covered costs may stable
