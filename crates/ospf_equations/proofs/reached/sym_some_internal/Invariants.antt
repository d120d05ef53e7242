use Rattle.std.proofs.Common.{◌≡◌, ◌<◌, ◌||◌, drop}
use Rattle.std.specs.List.{filter_map, list_any}
use Rattle.sym_ospf.specs.Rows.{is_internal}
use Rattle.sym_policy.specs.Held.{ospf_of}
use Rattle.term_store.specs.Terms.{Reading, at, size}
use Rattle.term_store.specs.Reading.{Reads, Builds}
use Rattle.ospf_equations.proofs.reached.sym_some_internal.Given as goal

-- one so far is internal or one that is left, exactly where one of all is
abbrev pub invariant-loop-rec : goal.invariant-loop-rec
invariant-loop-rec l = record {
  builds : Builds l.fn.terms l.terms;
  within : l.any.0 < size l.terms;
  value : (w : Reading) → Reads w l.terms →
      (at w l.any || list_any (λ r. is_internal r.kind) (filter_map (ospf_of w) (drop l.rec-index l.own)))
      ≡ list_any (λ r. is_internal r.kind) (filter_map (ospf_of w) l.own);
}
