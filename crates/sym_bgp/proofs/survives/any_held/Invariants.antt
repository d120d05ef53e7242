use Rattle.std.proofs.Common.{◌≡◌, ◌<◌, ◌||◌, drop, map}
use Rattle.term_store.specs.Terms.{Reading, size, at}
use Rattle.term_store.specs.Reading.{Reads, Builds}
use Rattle.term_arith.specs.Bits.{bits}
use Rattle.sym_policy.specs.Held.{bgp_at}
use Rattle.bgp_shapes.specs.Candidates.{ShapeCandidate}
use Rattle.bgp_shapes.specs.Flags.{any_flagged}
use Rattle.bgp_shapes.specs.Held.{same_shape}
use Rattle.sym_bgp.specs.Candidates.{candidate_at}
use Rattle.sym_bgp.proofs.survives.any_held.Given as goal

abbrev pub invariant-loop-i : goal.invariant-loop-i
invariant-loop-i l = record {
  builds : Builds l.fn.terms l.terms;
  within : l.any.0 < size l.terms;
  value : (w : Reading) → Reads w l.terms
      → (at w l.any || any_flagged (λ (c : ShapeCandidate). same_shape c.rec (bgp_at w l.held))
      (bits w (drop l.i l.flags)) (map (candidate_at w) (drop l.i l.cands)))
      ≡ any_flagged (λ (c : ShapeCandidate). same_shape c.rec (bgp_at w l.held)) (bits w l.flags)
      (map (candidate_at w) l.cands);
}
