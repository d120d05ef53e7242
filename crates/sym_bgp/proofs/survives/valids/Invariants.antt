use Rattle.std.proofs.Common.{◌≡◌, ◌≤◌, ◌++◌, drop, length, map}
use Rattle.term_arith.specs.Bits.{ids_end}
use Rattle.sym_bgp.specs.Candidates.{candidates_end}
use Rattle.sym_bgp.proofs.survives.valids.Given as goal

abbrev pub invariant-loop-cand : goal.invariant-loop-cand
invariant-loop-cand l = record {
  within : ids_end l.nodes ≤ candidates_end l.cands;
  rows : length l.nodes ≡ l.cand-index;
  value : l.nodes ++ map (λ c. c.rec.valid) (drop l.cand-index l.cands) ≡ map (λ c. c.rec.valid) l.cands;
}
