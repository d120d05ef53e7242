use Rattle.std.proofs.Common.{sym}
use Rattle.sym_rib.specs.Worlds.{tables_of}
use Rattle.sym_walk.proofs.SameWalks.{breaks_same}
use Rattle.sym_walk.proofs.Seen.{hops_stand}
use Rattle.sym_walk.proofs.laws.tables_law.Goals as goal

pub returns-clause-hops : goal.returns-clause-hops
returns-clause-hops c = hops_stand

pub returns-clause-breaks : goal.returns-clause-breaks
returns-clause-breaks c = λ w tracked lens routers slots world stand files kind walk breaks.
    breaks_same files world world.tables (tables_of w lens routers slots)
    (λ router. sym (hops_stand w tracked lens routers slots world stand files router)) kind walk breaks

pub returns-clause-only : goal.returns-clause-only
returns-clause-only c = λ w tracked lens routers slots world stand files kind walk breaks.
    breaks_same files world (tables_of w lens routers slots) world.tables
    (hops_stand w tracked lens routers slots world stand files) kind walk breaks
