use Rattle.std.proofs.Common.{◌≡◌, ℕ, ◌<◌, ◌≤◌, ◌||◌, length}
use Rattle.std.specs.List.{list_any}
use Rattle.term_arith.specs.Bits.{ids_end}
use Rattle.term_store.specs.Terms.{Reading, size}
use Rattle.term_store.specs.Reading.{Reads, Builds}
use Rattle.ospf_equations.specs.Reached.{is_led, told}
use Rattle.ospf_equations.proofs.reached.sym_step.Given as goal

-- the nodes of the routers so far
abbrev pub invariant-loop-router : goal.invariant-loop-router
invariant-loop-router l = record {
  builds : Builds l.fn.terms l.terms;
  within : ids_end l.made ≤ size l.terms;
  long : length l.made ≡ l.router;
  value : (w : Reading) → Reads w l.terms → (router : ℕ) → router < l.router →
      told w l.made router ≡ (told w l.origins router || list_any (is_led w l.reached router) l.over);
}
