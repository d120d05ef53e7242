-- Hops that come back to where they began.
use Rattle.std.specs.Prelude.{◌≡◌, ◌<◌, ℕ, Bool, true, List, length}
use Rattle.question_lang.specs.declared.walk.Hop.{Hop}
use Rattle.question_lang.specs.declared.walk.Hop.TheVariants.{To, Ends}
use Rattle.walk_def.specs.Marks.{known}
use Rattle.packet_fates.specs.Reaching.{IsRound, Leads, hops_at}

-- the hop leads to a router of the list, or ends
abbrev pub IsInside : List (List Hop) → Hop → Type 0
IsInside all (To i) = i.router < length all
IsInside all (Ends end) = Unit {0}

-- it leads to where hops lead to the router from
abbrev pub ComesBackBy : (ℕ → List Hop) → ℕ → Hop → Type 0
ComesBackBy hops router (To i) = Leads hops i.router router
ComesBackBy hops router (Ends end) = ⊥

-- a marked router is one from which hops lead back to it
abbrev pub SomeRound : List (List Hop) → List Bool → Type 0
SomeRound all marks = (router : ℕ) × (known marks router ≡ true) × IsRound (hops_at all) router
