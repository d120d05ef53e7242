use Rattle.std.proofs.Common.{◌≡◌, ◌<◌, ◌++◌, true}
use Rattle.std.specs.List.{filter_map}
use Rattle.net_parts.specs.OspfRoutes.{first_best}
use Rattle.sym_policy.specs.Held.{ospf_of}
use Rattle.route_record.specs.declared.Tables.{Tables}
use Rattle.route_record.specs.declared.tracked.Tracked.{Tracked}
use Rattle.term_store.specs.Terms.{Reading, at, size}
use Rattle.term_store.specs.Reading.{Reads, Builds}
use Rattle.ospf_equations.specs.Adjacent.{offers_read}
use Rattle.ospf_equations.specs.Equations.{StandFor}
use Rattle.ospf_equations.specs.Levels.{of_length}
use Rattle.world_variables.specs.Slots.{same_ospf}
use Rattle.ospf_equations.proofs.levels.sym_all_below.Given as goal

abbrev pub invariant-loop-most : goal.invariant-loop-most
invariant-loop-most l = record {
  builds : Builds l.fn.terms l.terms;
  within : l.all.0 < size l.terms;
  value : (w : Reading) → Reads w l.terms → (tracked : Tracked) (real : Tables) →
      StandFor w tracked l.c.tables.now real →
      same_ospf (ospf_of w l.c.held.now) (first_best (filter_map (ospf_of w) l.c.own.now
      ++ offers_read w real (of_length l.c.len) l.c.over.now)) ≡ true → at w l.all ≡ true;
}
