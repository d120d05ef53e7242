use Rattle.std.proofs.Common.{◌≡◌, ℕ, ◌≤◌, List, length, true}
use Rattle.question_lang.specs.declared.walk.Hop.{Hop}
use Rattle.sym_forwarding.specs.Layers.{arriving}
use Rattle.walk_def.proofs.Following.{Begun, Followed}
use Rattle.walk_def.specs.Marks.{known}
use Rattle.walk_finder.specs.Rows.{AreRowsOf, table_of}
use Rattle.walk_finder.proofs.following.follow_to_end.Given as goal

-- the present router is of the layer that is left; the standings so far were followed from the start
abbrev pub invariant-walk : goal.invariant-walk
invariant-walk l =
    (l.left ≤ length l.rows) × (known (arriving (table_of l.rows) l.left) l.trail.now.router ≡ true)
    × ((hops : ℕ → List Hop) → AreRowsOf hops l.rows → Followed hops l.trail.stood l.trail.now)
    × Begun l.fn.start l.trail.stood l.trail.now

abbrev pub decreases-walk : goal.decreases-walk
decreases-walk l = l.left
