use Rattle.std.proofs.Common.{◌≡◌, ◌≤◌, ◌<◌, ◌+◌, ◌&&◌, drop, length}
use Rattle.term_store.specs.Terms.{Reading, at, size}
use Rattle.term_store.specs.Reading.{Builds, Reads}
use Rattle.term_arith.specs.Bits.{bits, ids_end, number}
use Rattle.sym_policy.specs.Held.{bgp_at}
use Rattle.bgp_variables.specs.Announced.{are_fit, inner_count, is_one_of}
use Rattle.bgp_variables.proofs.announcements.sym_marks.Given as goal

abbrev pub invariant-loop-i : goal.invariant-loop-i
invariant-loop-i l = record {
  builds : Builds l.fn.terms l.terms;
  fit_within : l.fit.0 < size l.terms;
  count_within : ids_end l.count.nodes.items ≤ size l.terms;
  width : length l.count.nodes.items ≡ 8;
  few : (w : Reading) → Reads w l.terms → number w l.count.nodes.items ≤ l.i;
  fit : (w : Reading) → Reads w l.terms →
      (at w l.fit && are_fit (is_one_of (bgp_at w l.s).path.first (bgp_at w l.s).path.last) (drop l.i l.tracked)
      (bits w (drop l.i l.s.numbers.nodes.items)))
      ≡ are_fit (is_one_of (bgp_at w l.s).path.first (bgp_at w l.s).path.last) l.tracked
      (bits w l.s.numbers.nodes.items);
  count : (w : Reading) → Reads w l.terms → number w l.count.nodes.items
      + inner_count (is_one_of (bgp_at w l.s).path.first (bgp_at w l.s).path.last) (drop l.i l.tracked)
      (bits w (drop l.i l.s.numbers.nodes.items))
      ≡ inner_count (is_one_of (bgp_at w l.s).path.first (bgp_at w l.s).path.last) l.tracked
      (bits w l.s.numbers.nodes.items);
}
