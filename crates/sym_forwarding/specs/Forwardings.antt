-- What forwarding tables stand for in a world.
use Rattle.std.specs.Prelude.{◌≡◌, ◌⊎◌, ℕ, Bool, true, false, List, length, Contains, Option, Some, None, slice_get}
use Rattle.std.specs.Prelude.{◌&&◌, ◌==◌}
use Rattle.std.specs.List.{list_any}
use Rattle.ios_ast.specs.declared.file.File.{File}
use Rattle.route_record.specs.declared.World.{World}
use Rattle.net_interfaces.specs.declared.interfaces.IfaceId.{IfaceId}
use Rattle.question_lang.specs.declared.question.Kind.{Kind}
use Rattle.question_lang.specs.declared.question.Kind.TheVariants.{Reach, Isolate, Waypoint, NoLoop, NoBlackHole}
use Rattle.question_lang.specs.declared.question.Kind.TheVariants.{Within, Alike, NoStable}
use Rattle.question_lang.specs.declared.question.Start.{Start}
use Rattle.question_lang.specs.declared.question.Target.{Target}
use Rattle.question_lang.specs.declared.walk.End.{End}
use Rattle.question_lang.specs.declared.walk.End.TheVariants.{NoRoute, Discarded}
use Rattle.question_lang.specs.declared.walk.Hop.{Hop}
use Rattle.question_lang.specs.declared.walk.Hop.TheVariants.{To, Ends}
use Rattle.question_lang.specs.Hops.{next_hops}
use Rattle.question_lang.specs.Walks.{IsTestedIn, MayBegin}
use Rattle.walk_def.specs.Arriving.{IsTargetRouter, target_end}
use Rattle.sym_forwarding.specs.Layers.{Beginning, Edge, Forwarding}

-- a walk that ends so at the router ends at the target
abbrev pub IsAtTarget : List File → World → Target → ℕ → End → Type 0
IsAtTarget files world target router end = (end ≡ target_end target) × IsTargetRouter files world target router

-- the ends at a router that a question looks for: at its target, elsewhere, or nowhere
abbrev pub IsSought : List File → World → Kind → ℕ → End → Type 0
IsSought files world (Reach start target) router end = IsAtTarget files world target router end → ⊥
IsSought files world (Isolate start target) router end = IsAtTarget files world target router end
IsSought files world (Waypoint start target via) router end = IsAtTarget files world target router end
IsSought files world (NoLoop start) router end = ⊥
IsSought files world (NoBlackHole start) router end = (end ≡ NoRoute) ⊎ (end ≡ Discarded)
IsSought files world (Within most start) router end = ⊥
IsSought files world (Alike a b target) router end = IsAtTarget files world target router end
IsSought files world NoStable router end = ⊥

-- it sends the packet to that router
abbrev pub sends_to : ℕ → Edge → Bool
sends_to router e = e.when && (e.to == router)

-- the forwarding of a router with these hops, where walks that end so are looked for
pub record IsForwarding (own : List Hop) (Sought : End → Type 0) (f : Forwarding) : Type 0 where
  pub sent : (router : ℕ) → list_any (sends_to router) f.next ≡ true → (at : ℕ)
      × Contains own (To (record { router = router; at = at }))
  pub all_sent : (i : IfaceId) → Contains own (To i) → list_any (sends_to i.router) f.next ≡ true
  pub ends : f.ends ≡ true → (end : End) × Contains own (Ends end) × Sought end
  pub all_ends : (end : End) → Contains own (Ends end) → Sought end → f.ends ≡ true

-- the table has the forwarding of each router of the network, for a question of that kind
pub record AreForwarding (files : List File) (world : World) (kind : Kind) (table : List Forwarding) : Type 0 where
  pub long : length table ≡ length files
  pub each : (router : ℕ) (f : Forwarding) → slice_get table router ≡ Some f →
      IsForwarding (next_hops files world router) (IsSought files world kind router) f

-- where the walks of a question begin, as far as its interface says
abbrev pub start_asked : Kind → Option Start
start_asked (Reach start target) = Some start
start_asked (Isolate start target) = Some start
start_asked (Waypoint start target via) = Some start
start_asked (NoLoop start) = Some start
start_asked (NoBlackHole start) = Some start
start_asked (Within most start) = Some start
start_asked (Alike a b target) = None
start_asked NoStable = None

-- the in list of the interface of the start denies the packet
abbrev pub IsDenied : List File → World → Start → Type 0
IsDenied files world start =
    (at : ℕ) × (start.iface ≡ Some at) × IsTestedIn files world (record { router = start.router; at = at }) false

-- what is said of a start
pub record IsBeginning (files : List File) (world : World) (start : Start) (at : Beginning) : Type 0 where
  pub begins : at.begins ≡ true → MayBegin files world start
  pub all_begin : MayBegin files world start → at.begins ≡ true
  pub denied : at.denied ≡ true → IsDenied files world start
  pub all_denied : IsDenied files world start → at.denied ≡ true

-- what is said of the start of the question, where it has one
abbrev pub IsBeginningOf : List File → World → Kind → Beginning → Type 0
IsBeginningOf files world kind at = (start : Start) → start_asked kind ≡ Some start → IsBeginning files world start at
