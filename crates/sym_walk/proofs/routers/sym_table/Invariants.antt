use Rattle.std.proofs.Common.{◌≡◌, ◌≤◌, length}
use Rattle.term_store.specs.Terms.{Reading, size}
use Rattle.term_store.specs.Reading.{Reads, Builds}
use Rattle.sym_walk.specs.Distances.{DistancesWhereNeeded}
use Rattle.sym_forwarding.specs.Symbolic.{table_end, table_of}
use Rattle.sym_walk.specs.TwinTables.{AreTwins}
use Rattle.sym_rib.specs.Worlds.{read_world}
use Rattle.sym_walk.proofs.routers.sym_table.Given as goal

-- the table of the routers so far
abbrev pub invariant-loop-router : goal.invariant-loop-router
invariant-loop-router l = record {
  builds : Builds l.fn.terms l.terms;
  within : table_end l.table ≤ size l.terms;
  long : length l.table ≡ l.router;
  value : (w : Reading) → Reads w l.terms → DistancesWhereNeeded w l.net.files l.sym l.fn.tables.slots.now →
      AreTwins l.net.files (read_world w l.sym l.packet l.fn.tables) l.kind l.router (table_of w l.table);
}
