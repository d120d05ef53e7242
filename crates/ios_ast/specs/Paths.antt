-- What AS-path lists answer for the path of a route (RFC 4271, section 5.1.2; Cisco IOS, `ip as-path access-list`).
use Rattle.std.specs.Prelude.{ℕ, ◌-◌, ◌==◌, ◌&&◌, nat_lt, Bool, true, List, length, slice_index}
use Rattle.ios_ast.specs.declared.policies.AsPathEntry.{AsPathEntry}
use Rattle.ios_ast.specs.declared.policies.Pattern.{Pattern}
use Rattle.ios_ast.specs.declared.policies.Pattern.TheVariants.{Empty, Any, Only, First, Last, Has}
use Rattle.ios_ast.specs.Deciding.{first_permits, carries}

-- the first number of a path and the last one, 0 where the path is empty
abbrev pub first_of : List ℕ → ℕ
first_of path = slice_index path 0

abbrev pub last_of : List ℕ → ℕ
last_of path = slice_index path (length path - 1)

-- the path is empty; any; this number alone; its first, its last, or any of its numbers is this one
abbrev pub pattern_matches : Pattern → List ℕ → Bool
pattern_matches Empty path = length path == 0
pattern_matches Any path = true
pattern_matches (Only n) path = (length path == 1) && (first_of path == n)
pattern_matches (First n) path = nat_lt 0 (length path) && (first_of path == n)
pattern_matches (Last n) path = nat_lt 0 (length path) && (last_of path == n)
pattern_matches (Has n) path = carries path n

abbrev pub path_permitted : List AsPathEntry → List ℕ → Bool
path_permitted entries path = first_permits (λ e. pattern_matches e.pattern path) (λ e. e.permit) entries
