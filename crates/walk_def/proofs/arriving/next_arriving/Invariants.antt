use Rattle.std.proofs.Common.{◌≡◌, ◌<◌, ℕ, List, Some, false}
use Rattle.std.specs.Prelude.{slice_get}
use Rattle.std.specs.List.{list_any}
use Rattle.question_lang.specs.declared.walk.Hop.{Hop}
use Rattle.walk_def.specs.Arriving.{leads_to_known}
use Rattle.walk_def.specs.Marks.{known}
use Rattle.walk_def.proofs.arriving.next_arriving.Given as goal

-- each router so far is marked or leads to none that is
abbrev pub invariant-loop-at : goal.invariant-loop-at
invariant-loop-at l =
    (router : ℕ) (own : List Hop) → router < l.at → slice_get l.hops router ≡ Some own → known l.marks router ≡ false →
    list_any (leads_to_known l.marks) own ≡ false
