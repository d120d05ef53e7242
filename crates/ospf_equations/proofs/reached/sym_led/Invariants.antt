use Rattle.std.proofs.Common.{◌≡◌, ◌<◌, ◌||◌, drop}
use Rattle.std.specs.List.{list_any}
use Rattle.term_store.specs.Terms.{Reading, at, size}
use Rattle.term_store.specs.Reading.{Reads, Builds}
use Rattle.ospf_equations.specs.Reached.{is_led}
use Rattle.ospf_equations.proofs.reached.sym_led.Given as goal

-- the node so far is true or one adjacency that is left leads on, exactly where that is so of the first node and of all
abbrev pub invariant-loop-s : goal.invariant-loop-s
invariant-loop-s l = record {
  builds : Builds l.fn.terms l.terms;
  within : l.any.0 < size l.terms;
  value : (w : Reading) → Reads w l.terms →
      (at w l.any || list_any (is_led w l.reached l.router) (drop l.s-index l.over))
      ≡ (at w l.fn.origin || list_any (is_led w l.reached l.router) l.over);
}
