-- Where a walk ends at a target, and from which routers one does.
use Rattle.std.specs.Prelude.{◌≡◌, ℕ, Bool, true, false, List, ◌++◌, ◌∷◌, [], Contains, Some, slice_get}
use Rattle.std.specs.List.{list_any}
use Rattle.ios_ast.specs.declared.file.File.{File}
use Rattle.route_record.specs.declared.World.{World}
use Rattle.net_interfaces.specs.declared.interfaces.IfaceId.{IfaceId}
use Rattle.question_lang.specs.declared.question.Start.{Start}
use Rattle.question_lang.specs.declared.question.Target.{Target}
use Rattle.question_lang.specs.declared.question.Target.TheVariants.{Router, Subnet, Peer}
use Rattle.question_lang.specs.declared.walk.End.{End}
use Rattle.question_lang.specs.declared.walk.End.TheVariants.{Delivered, Left}
use Rattle.question_lang.specs.declared.walk.Hop.{Hop}
use Rattle.question_lang.specs.declared.walk.Hop.TheVariants.{To, Ends}
use Rattle.question_lang.specs.Breaking.{IsOnSubnet}
use Rattle.question_lang.specs.Hops.{next_hops}
use Rattle.walk_def.specs.Marks.{known}

-- how a walk to the target ends
abbrev pub target_end : Target → End
target_end (Router router) = Delivered
target_end (Subnet p) = Delivered
target_end (Peer router a) = Left a

-- the router is one where it does
abbrev pub IsTargetRouter : List File → World → Target → ℕ → Type 0
IsTargetRouter files world (Router router) r = r ≡ router
IsTargetRouter files world (Subnet p) r = IsOnSubnet files world p r
IsTargetRouter files world (Peer router a) r = r ≡ router

-- P of the last router of these standings
abbrev pub LastIn : (ℕ → Type 0) → List Start → Type 0
LastIn P standings = (front : List Start) × (last : Start) × (standings ≡ front ++ last ∷ []) × P last.router

-- a walk that stands at the router, which has these hops, may end there at the target
abbrev pub Lands : List File → World → Target → ℕ → List Hop → Type 0
Lands files world target router own = Contains own (Ends (target_end target)) × IsTargetRouter files world target router

-- the mark of a router says whether a walk may end there at the target
abbrev pub IsLandingMark : List File → World → Target → List (List Hop) → ℕ → Bool → Type 0
IsLandingMark files world target hops router mark =
    (mark ≡ true → Lands files world target router (next_hops files world router))
    × (mark ≡ false → (own : List Hop) → slice_get hops router ≡ Some own → Lands files world target router own → ⊥)

-- so do those of all
pub record AreLanding (files : List File) (world : World) (target : Target) (hops : List (List Hop))
    (marks : List Bool) : Type 0 where
  pub sound : (router : ℕ) → known marks router ≡ true → Lands files world target router (next_hops files world router)
  pub whole : (router : ℕ) (own : List Hop) → slice_get hops router ≡ Some own → known marks router ≡ false →
      Lands files world target router own → ⊥

-- the hop leads to a router that is marked
abbrev pub leads_to_known : List Bool → Hop → Bool
leads_to_known marks (To i) = known marks i.router
leads_to_known marks (Ends end) = false

-- hops lead from the router to one of those that are marked
pub data Arrives (hops : ℕ → List Hop) (landing : List Bool) : ℕ → Type 0 where
  lands : (router : ℕ) → known landing router ≡ true → Arrives hops landing router
  goes : (router : ℕ) (i : IfaceId) → Contains (hops router) (To i) → Arrives hops landing i.router
      → Arrives hops landing router

-- from each marked router hops lead to one of the first marks
abbrev pub AreArriving : List (List Hop) → List Bool → List Bool → Type 0
AreArriving all landing marks =
    (hops : ℕ → List Hop) → ((router : ℕ) (own : List Hop) → slice_get all router ≡ Some own → own ≡ hops router) →
    (router : ℕ) → known marks router ≡ true → Arrives hops landing router

-- a router that is not marked leads to none that is
abbrev pub AreShut : List (List Hop) → List Bool → Type 0
AreShut all marks =
    (router : ℕ) (own : List Hop) → slice_get all router ≡ Some own → known marks router ≡ false →
    list_any (leads_to_known marks) own ≡ false
