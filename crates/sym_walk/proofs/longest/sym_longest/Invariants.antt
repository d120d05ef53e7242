use Rattle.std.proofs.Common.{◌≤◌}
use Rattle.term_store.specs.Terms.{Reading, size}
use Rattle.term_store.specs.Reading.{Reads, Builds}
use Rattle.question_lang.specs.Hops.{longest_below}
use Rattle.sym_forwarding.specs.Aims.{sought_by}
use Rattle.sym_walk.specs.Distances.{DistancesWhereNeeded}
use Rattle.sym_walk.specs.Entries.{by_entry}
use Rattle.sym_forwarding.specs.Symbolic.{forwarding_end, forwarding_of}
use Rattle.sym_forwarding.specs.Twins.{IsTwin}
use Rattle.sym_rib.specs.Worlds.{read_tables, read_world}
use Rattle.sym_walk.proofs.longest.sym_longest.Given as goal

-- by the entry of the longest prefix that is shorter than the length
abbrev pub invariant-loop-len : goal.invariant-loop-len
invariant-loop-len l = record {
  builds : Builds l.fn.terms l.terms;
  within : forwarding_end l.rest ≤ size l.terms;
  value : (w : Reading) → Reads w l.terms → DistancesWhereNeeded w l.stop.net.now.files l.stop.sym.now
      l.stop.tables.now.slots.now →
      IsTwin (sought_by w l.aim)
      (by_entry l.stop.net.now.files (read_world w l.stop.sym.now l.stop.packet.now l.stop.tables.now) l.stop.router
      l.file
      (longest_below (read_tables w l.stop.tables.now) l.stop.router l.len))
      (forwarding_of w l.rest);
}
