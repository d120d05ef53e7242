use Rattle.std.proofs.Common.{◌≤◌}
use Rattle.sym_bgp.specs.Candidates.{candidates_end}
use Rattle.term_store.specs.Terms.{size}
use Rattle.examples_symbols.proofs.sessions.fresh_candidates.Given as goal

abbrev pub invariant-loop-place : goal.invariant-loop-place
invariant-loop-place l = candidates_end l.candidates ≤ size l.terms
