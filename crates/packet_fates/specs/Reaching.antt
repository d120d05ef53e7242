-- Where hops lead, one after another.
use Rattle.std.specs.Prelude.{◌≡◌, ◌<◌, ℕ, Bool, true, List, [], length, Contains, slice_get, unwrap_or}
use Rattle.net_interfaces.specs.declared.interfaces.IfaceId.{IfaceId}
use Rattle.question_lang.specs.declared.walk.Hop.{Hop}
use Rattle.question_lang.specs.declared.walk.Hop.TheVariants.{To}
use Rattle.walk_def.specs.Marks.{known}

-- from the one router hops lead to the other, or it is the same
pub data Leads (hops : ℕ → List Hop) : ℕ → ℕ → Type 0 where
  here : (router : ℕ) → Leads hops router router
  further : (from : ℕ) (i : IfaceId) (to : ℕ) → Contains (hops from) (To i) → Leads hops i.router to
      → Leads hops from to

-- one or more hops lead from the router back to it
abbrev pub IsRound : (ℕ → List Hop) → ℕ → Type 0
IsRound hops router = (i : IfaceId) × Contains (hops router) (To i) × Leads hops i.router router

-- the hops of a router, of a list that has those of all
abbrev pub hops_at : List (List Hop) → ℕ → List Hop
hops_at all router = unwrap_or (slice_get all router) []

-- no hop leads out of the list
abbrev pub AreInside : List (List Hop) → Type 0
AreInside all = (router : ℕ) (i : IfaceId) → Contains (hops_at all router) (To i) → i.router < length all

-- those are marked to which hops lead from the start
pub record AreReached (all : List (List Hop)) (start : ℕ) (marks : List Bool) : Type 0 where
  pub sound : (router : ℕ) → known marks router ≡ true → Leads (hops_at all) start router
  pub whole : (router : ℕ) → Leads (hops_at all) start router → known marks router ≡ true

-- a hop of a marked router leads to that one
abbrev pub IsLedTo : List (List Hop) → List Bool → ℕ → Type 0
IsLedTo all marks to =
    (from : ℕ) × (at : ℕ) × (known marks from ≡ true)
    × Contains (hops_at all from) (To (record { router = to; at = at }))

-- no hop of a marked router leads to one that is not
abbrev pub AreClosed : List (List Hop) → List Bool → Type 0
AreClosed all marks =
    (from : ℕ) (i : IfaceId) → known marks from ≡ true → Contains (hops_at all from) (To i)
    → known marks i.router ≡ true
