use Rattle.std.proofs.Common.{◌≡◌, ℕ, ◌+◌, List, length, true}
use Rattle.question_lang.specs.declared.walk.Hop.{Hop}
use Rattle.sym_forwarding.specs.Layers.{going}
use Rattle.walk_def.proofs.Following.{Begun, Followed}
use Rattle.walk_def.specs.Marks.{known}
use Rattle.walk_finder.specs.Rows.{AreRowsOf, table_of}
use Rattle.walk_finder.proofs.following.follow_hops.Given as goal

-- the present router has a walk of the hops that are left; the standings so far were followed from the start
abbrev pub invariant-walk : goal.invariant-walk
invariant-walk l =
    (length l.trail.stood + l.left ≡ l.count) × (known (going (table_of l.rows) l.left) l.trail.now.router ≡ true)
    × ((hops : ℕ → List Hop) → AreRowsOf hops l.rows → Followed hops l.trail.stood l.trail.now)
    × Begun l.fn.start l.trail.stood l.trail.now

abbrev pub decreases-walk : goal.decreases-walk
decreases-walk l = l.left
