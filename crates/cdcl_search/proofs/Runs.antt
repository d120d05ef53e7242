-- Runs of deletions in a log, by one entry more.
use Rattle.std.proofs.Common.{◌≡◌, ◌+◌, ◌&&◌, Bool, not, cond, List, [], ◌∷◌, ◌++◌, refl, arith}
use Rattle.resolution_check.specs.declared.log.Entry.{Entry}
use Rattle.resolution_check.specs.Earned.{ends_deleting, is_deletion, run_count}

-- one entry more
pub runs-push : (deleting : Bool) (es : List Entry) (e : Entry)
    → run_count deleting (es ++ e ∷ [])
    ≡ run_count deleting es + cond (is_deletion e && not (ends_deleting deleting es)) 1 0
runs-push deleting [] e = omega arith
runs-push deleting (d ∷ es) e = let rest = runs-push (is_deletion d) es e in omega arith

-- whether the last entry is a deletion
pub ends-push : (deleting : Bool) (es : List Entry) (e : Entry) → ends_deleting deleting (es ++ e ∷ []) ≡ is_deletion e
ends-push deleting [] e = refl
ends-push deleting (d ∷ es) e = ends-push (is_deletion d) es e
