use Rattle.std.proofs.Common.{◌≡◌, ◌≤◌, ◌++◌, drop, length, map}
use Rattle.term_store.specs.Terms.{Reading, size}
use Rattle.term_store.specs.Reading.{Reads, Builds}
use Rattle.bgp_shapes.specs.Candidates.{shape_key}
use Rattle.sym_bgp.specs.Candidates.{candidate_at}
use Rattle.sym_bgp.specs.Keys.{keys_at, keys_end}
use Rattle.sym_bgp.proofs.candidates.sym_keys.Given as goal

abbrev pub invariant-loop-cand : goal.invariant-loop-cand
invariant-loop-cand l = record {
  builds : Builds l.fn.terms l.terms;
  within : keys_end l.keys ≤ size l.terms;
  rows : length l.keys ≡ l.cand-index;
  value : (w : Reading) → Reads w l.terms
      → keys_at w l.keys ++ map shape_key (map (candidate_at w) (drop l.cand-index l.cands))
      ≡ map shape_key (map (candidate_at w) l.cands);
}
