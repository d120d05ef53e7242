use Rattle.std.proofs.Common.{◌≡◌, ◌<◌, ℕ, List, [], length, map, slice_get, Some}
use Rattle.cdcl_search.proofs.turns.prepare_all.Given as goal

abbrev pub invariant-loop-at : goal.invariant-loop-at
invariant-loop-at g l = record {
  count : length l.deciders.items ≡ length l.fn.deciders.items;
  untold : (own : ℕ) (bumps : List ℕ) → own < l.at
      → slice_get (map (λ b. (goal.Decider-dyn g (b.vtable, b.value)).told b.value) l.deciders.items) own
      ≡ Some (Some bumps) → bumps ≡ [];
}
