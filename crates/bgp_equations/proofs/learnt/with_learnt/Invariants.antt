use Rattle.std.proofs.Common.{◌≡◌, ◌≤◌, ◌++◌, ◌==◌, drop, filter}
use Rattle.std.specs.List.{enumerate_from, filter_map}
use Rattle.net_parts.specs.Sessions.{ends_of}
use Rattle.term_store.specs.Terms.{Reading, size}
use Rattle.term_store.specs.Reading.{Reads, Builds}
use Rattle.sym_bgp.specs.Candidates.{candidate_of, candidates_end}
use Rattle.bgp_equations.specs.Beside.{HaveAllMarks}
use Rattle.bgp_equations.specs.Equations.{DistancesForSessions, learnt_read}
use Rattle.bgp_equations.proofs.learnt.with_learnt.Given as goal

-- what is learnt so far, with what is learnt over the ends that are left, is all
abbrev pub invariant-loop-at : goal.invariant-loop-at
invariant-loop-at l = record {
  builds : Builds l.fn.terms l.terms;
  within : candidates_end l.cands ≤ size l.terms;
  marks : HaveAllMarks l.routing.net.now.tracked l.cands;
  value : (w : Reading) → Reads w l.terms → DistancesForSessions w l.routing.net.now.files l.routing.sym.now
      → filter_map (candidate_of w) l.cands
      ++ filter_map (learnt_read w l.routing.net.now.tracked l.routing.net.now.files l.routing.sym.now
      l.routing.env.now l.routing.tables.now l.routing.dst.now l.routing.len)
      (filter (λ e. e.1.router == l.router) (enumerate_from l.at (drop l.at (ends_of l.routing.net.now.files))))
      ≡ filter_map (candidate_of w) l.fn.before
      ++ filter_map (learnt_read w l.routing.net.now.tracked l.routing.net.now.files l.routing.sym.now
      l.routing.env.now l.routing.tables.now l.routing.dst.now l.routing.len)
      (filter (λ e. e.1.router == l.router) (enumerate_from 0 (ends_of l.routing.net.now.files)));
}
