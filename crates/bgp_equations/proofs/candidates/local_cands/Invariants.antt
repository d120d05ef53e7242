use Rattle.std.proofs.Common.{◌≡◌, ◌≤◌, ◌++◌, drop, map}
use Rattle.std.specs.List.{filter_map}
use Rattle.term_store.specs.Terms.{Reading, size}
use Rattle.term_store.specs.Reading.{Reads, Builds}
use Rattle.sym_policy.specs.Held.{bgp_of}
use Rattle.sym_bgp.specs.Candidates.{candidate_of, candidates_end}
use Rattle.bgp_equations.specs.Beside.{HaveAllMarks}
use Rattle.bgp_equations.specs.Equations.{local_with}
use Rattle.bgp_equations.proofs.candidates.local_cands.Given as goal

-- the candidates so far, with those of the routes that are left, are all
abbrev pub invariant-loop-rec : goal.invariant-loop-rec
invariant-loop-rec l = record {
  builds : Builds l.fn.terms l.terms;
  within : candidates_end l.cands ≤ size l.terms;
  marks : HaveAllMarks l.tracked l.cands;
  value : (w : Reading) → Reads w l.terms
      → filter_map (candidate_of w) l.cands
      ++ map (local_with l.id.0) (filter_map (bgp_of w) (drop l.rec-index l.own))
      ≡ map (local_with l.id.0) (filter_map (bgp_of w) l.own);
}
