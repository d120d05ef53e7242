use Rattle.std.proofs.Common.{◌≡◌, ◌<◌, true}
use Rattle.std.specs.Prelude.{◌↔◌}
use Rattle.term_store.specs.Terms.{Reading, at, size}
use Rattle.term_store.specs.Reading.{Reads, Builds}
use Rattle.fate_terms.specs.Named.{EndsAmongCalled, KnowsWalks, world_of_walks}
use Rattle.fate_terms.proofs.named.sym_called.Given as goal

-- whether some walk ends so at one of the routers so far
abbrev pub invariant-loop-router : goal.invariant-loop-router
invariant-loop-router l = record {
  builds : Builds l.fn.terms l.terms;
  within : l.any.0 < size l.terms;
  value : (w : Reading) → Reads w l.terms → KnowsWalks w l.walked → at w l.any ≡ true
      ↔ EndsAmongCalled l.walked.net.now.files (world_of_walks w l.walked) l.walked.start l.name l.leaves l.router;
}
