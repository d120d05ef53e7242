-- One hop more, and the first marks.
use Rattle.std.specs.Prelude.{◌≡◌, ℕ, Bool, true, false, List, length, Contains, Option, Some, None, if◌then◌else◌}
use Rattle.net_interfaces.specs.declared.interfaces.IfaceId.{IfaceId}
use Rattle.question_lang.specs.declared.walk.Hop.{Hop}
use Rattle.question_lang.specs.declared.walk.Hop.TheVariants.{To, Ends}
use Rattle.walk_def.specs.Marks.{known}

-- the router that the hop leads to, where it is not marked
abbrev pub new_by : List Bool → Hop → Option ℕ
new_by marks (To i) = if known marks i.router then None else Some i.router
new_by marks (Ends end) = None

-- one of these hops leads to the router, which is not marked
abbrev pub IsNewAmong : List Hop → List Bool → ℕ → Type 0
IsNewAmong own marks to = (known marks to ≡ false) × ((at : ℕ) × Contains own (To (record { router = to; at = at })))

-- each leads to a marked one, or ends
abbrev pub LeadsNowhereNew : List Hop → List Bool → Type 0
LeadsNowhereNew own marks = (i : IfaceId) → Contains own (To i) → known marks i.router ≡ true

-- a mark for each router; the start alone is marked
pub record IsMarked (count start : ℕ) (marks : List Bool) : Type 0 where
  pub long : length marks ≡ count
  pub first : known marks start ≡ true
  pub alone : (router : ℕ) → known marks router ≡ true → router ≡ start
