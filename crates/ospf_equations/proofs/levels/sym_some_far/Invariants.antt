use Rattle.std.proofs.Common.{◌≡◌, ◌<◌, ◌||◌, drop, true}
use Rattle.std.specs.List.{list_any}
use Rattle.route_record.specs.declared.Tables.{Tables}
use Rattle.route_record.specs.declared.tracked.Tracked.{Tracked}
use Rattle.term_store.specs.Terms.{Reading, at, size}
use Rattle.term_store.specs.Reading.{Reads, Builds}
use Rattle.ospf_equations.specs.Adjacent.{offers_read}
use Rattle.ospf_equations.specs.Equations.{StandFor}
use Rattle.ospf_equations.specs.Levels.{is_within, of_length}
use Rattle.ospf_equations.proofs.levels.sym_some_far.Given as goal

-- where one so far is within the limit or one over an adjacency that is left, one of all is
abbrev pub invariant-loop-s : goal.invariant-loop-s
invariant-loop-s l = record {
  builds : Builds l.fn.terms l.terms;
  within : l.any.0 < size l.terms;
  value : (w : Reading) → Reads w l.terms → (tracked : Tracked) (real : Tables) →
      StandFor w tracked l.c.tables.now real →
      (at w l.any || list_any (is_within l.most) (offers_read w real (of_length l.c.len) (drop l.s-index l.over))) ≡ true →
      list_any (is_within l.most) (offers_read w real (of_length l.c.len) l.over) ≡ true;
}
