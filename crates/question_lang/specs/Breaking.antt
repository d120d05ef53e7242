-- What breaks a question, and what breaks it with a stable routing around it.
use Rattle.std.specs.Prelude.{◌≡◌, ◌≢◌, ◌⊎◌, ℕ, ◌+◌, List, [], ◌∷◌, ◌++◌, All, IsTrue, length, Option, Some, None}
use Rattle.mw_text.specs.declared.address.Prefix.{Prefix}
use Rattle.mw_text.specs.Address.{covers}
use Rattle.ios_ast.specs.declared.file.File.{File}
use Rattle.route_record.specs.declared.Environment.{Environment}
use Rattle.route_record.specs.declared.World.{World}
use Rattle.net_parts.specs.Routing.{up_interfaces, is_direct}
use Rattle.net_parts.specs.Stable.{Stable}
use Rattle.net_parts.specs.World.{IsEnvironment, IsFailureSet}
use Rattle.question_lang.specs.declared.question.Kind.{Kind}
use Rattle.question_lang.specs.declared.question.Kind.TheVariants.{Reach, Isolate, Waypoint, NoLoop, NoBlackHole}
use Rattle.question_lang.specs.declared.question.Kind.TheVariants.{Within, Alike, NoStable}
use Rattle.question_lang.specs.declared.question.Question.{Question}
use Rattle.question_lang.specs.declared.question.Start.{Start}
use Rattle.question_lang.specs.declared.question.Target.{Target}
use Rattle.question_lang.specs.declared.question.Target.TheVariants.{Router, Subnet, Peer}
use Rattle.question_lang.specs.declared.walk.End.{End}
use Rattle.question_lang.specs.declared.walk.End.TheVariants.{Delivered, Left, NoRoute, Discarded, DeniedIn, DeniedOut}
use Rattle.question_lang.specs.declared.walk.End.TheVariants.{Loop, Open}
use Rattle.question_lang.specs.declared.walk.Walk.{Walk}
use Rattle.question_lang.specs.Packets.{IsInSet}
use Rattle.question_lang.specs.Walks.{IsWalk}

-- a walk that stands nowhere would have begun at the interface that denied it
abbrev pub denied_start : End → Option Start
denied_start Delivered = None
denied_start (Left a) = None
denied_start NoRoute = None
denied_start Discarded = None
denied_start (DeniedIn i) = Some (record { router = i.router; iface = Some i.at })
denied_start DeniedOut = None
denied_start Loop = None
denied_start Open = None

abbrev pub start_of : List Start → End → Option Start
start_of [] end = denied_start end
start_of (start ∷ rest) end = Some start

-- the walk begins there
abbrev pub BeginsAt : Start → Walk → Type 0
BeginsAt start walk = start_of walk.hops walk.end ≡ Some start

-- P of the walk's last router
abbrev pub LastStands : (ℕ → Type 0) → Walk → Type 0
LastStands P walk = (front : List Start) × (last : Start) × (walk.hops ≡ front ++ last ∷ []) × P last.router

-- an interface of the router that is up has that subnet, which has the destination
abbrev pub IsOnSubnet : List File → World → Prefix → ℕ → Type 0
IsOnSubnet files world p router =
    IsTrue (is_direct (up_interfaces files world.failures router) p) × IsTrue (covers p world.packet.dst)

-- the walk ends at the target: delivered at that router, or on that subnet, or out of the network at that router to
-- that address
abbrev pub EndsAt : List File → World → Target → Walk → Type 0
EndsAt files world (Router router) walk = (walk.end ≡ Delivered) × LastStands (λ r. r ≡ router) walk
EndsAt files world (Subnet p) walk = (walk.end ≡ Delivered) × LastStands (IsOnSubnet files world p) walk
EndsAt files world (Peer router a) walk = (walk.end ≡ Left a) × LastStands (λ r. r ≡ router) walk

-- at a router, without an incoming interface
abbrev pub at_router : ℕ → Start
at_router router = record { router = router; iface = None }

-- no walk from there ends at the target
abbrev pub NoneArrives : List File → World → Start → Target → Type 0
NoneArrives files world start target =
    (walk : Walk) → IsWalk files world walk → BeginsAt start walk → EndsAt files world target walk → ⊥

-- what a walk has to be, to break a question
abbrev pub BreaksBy : List File → World → Kind → Walk → Type 0
-- it ends, and not at the target; a loop is an end
BreaksBy files world (Reach start target) walk = BeginsAt start walk × (walk.end ≢ Open)
    × (EndsAt files world target walk → ⊥)
-- it ends at the target
BreaksBy files world (Isolate start target) walk = BeginsAt start walk × EndsAt files world target walk
-- it ends at the target and does not stand at the waypoint
BreaksBy files world (Waypoint start target via) walk =
    BeginsAt start walk × EndsAt files world target walk × All (λ stood. stood.router ≢ via) walk.hops
-- it comes back to where it stood
BreaksBy files world (NoLoop start) walk = BeginsAt start walk × (walk.end ≡ Loop)
-- it ends without a route or at Null0
BreaksBy files world (NoBlackHole start) walk = BeginsAt start walk × ((walk.end ≡ NoRoute) ⊎ (walk.end ≡ Discarded))
-- it has one hop more than allowed, and so two standings more than that number
BreaksBy files world (Within most start) walk = BeginsAt start walk × (length walk.hops ≡ most + 2)
-- it ends at the target from one of the two routers, and none from the other does
BreaksBy files world (Alike a b target) walk =
    EndsAt files world target walk
    × ((BeginsAt (at_router a) walk × NoneArrives files world (at_router b) target)
    ⊎ (BeginsAt (at_router b) walk × NoneArrives files world (at_router a) target))
-- any routing breaks it
BreaksBy files world NoStable walk = Unit {0}

-- the world breaks the question by that walk, or, where it asks for no stable routing, without one
abbrev pub Breaks : List File → World → Kind → Option Walk → Type 0
Breaks files world kind (Some walk) = IsWalk files world walk × BreaksBy files world kind walk
Breaks files world kind None = kind ≡ NoStable

-- a packet of the question's set, an environment and at most so many failed links as the question allows have this
-- stable routing, and it breaks the question, by that walk or without one
pub record IsBreaking (files : List File) (question : Question) (world : World) (environment : Environment)
    (walk : Option Walk) : Type 0 where
  pub packet : IsInSet question.packets world.packet
  pub environment_fits : IsEnvironment files environment
  pub failures : IsFailureSet files question.failures world.failures
  pub stable : Stable files world.packet.dst world.failures environment world.tables
  pub breaks : Breaks files world question.kind walk

-- something breaks the question
abbrev pub IsBreakable : List File → Question → Type 0
IsBreakable files question =
    (world : World) × (environment : Environment) × (walk : Option Walk)
    × IsBreaking files question world environment walk

-- nothing does
abbrev pub IsUnbroken : List File → Question → Type 0
IsUnbroken files question =
    (world : World) (environment : Environment) (walk : Option Walk)
    → IsBreaking files question world environment walk → ⊥
