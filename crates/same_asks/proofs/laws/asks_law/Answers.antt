use Rattle.std.proofs.Common.{◌≡◌, true, refl}
use Rattle.ios_policy_reader.specs.Words.{ports_of}
use Rattle.ios_policy_reader.specs.Edges.{said_by, said_back}
use Rattle.ios_policy_reader.specs.Least.{closes, opens, no_dead_end}
use Rattle.ios_policy_reader.proofs.Leasts.{least}
use Rattle.same_asks.specs.declared.table.TheConstants.{ASK}
use Rattle.same_asks.specs.Grammar.{words_said}
use Rattle.same_asks.proofs.laws.asks_law.Goals as goal

all : no_dead_end ASK 0 ≡ true
unfolding closes opens said_by said_back ports_of
all = refl

pub returns-clause-no_dead_end : goal.returns-clause-no_dead_end
returns-clause-no_dead_end c = all

pub returns-clause-first : goal.returns-clause-first
unfolding words_said
returns-clause-first c words n e = least ASK 0 all 0 words n e
