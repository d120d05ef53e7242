-- Walks of a packet.
use Rattle.std.specs.Prelude.{◌≡◌, ℕ, ◌==◌, ◌&&◌, Bool, true, false, List, [], ◌∷◌, ◌++◌, Any, Contains, IsTrue, Some}
use Rattle.std.specs.Prelude.{MatchOption}
use Rattle.std.specs.List.{list_any}
use Rattle.ios_ast.specs.declared.file.File.{File}
use Rattle.route_record.specs.declared.Failures.{Failures}
use Rattle.route_record.specs.declared.World.{World}
use Rattle.net_interfaces.specs.declared.interfaces.IfaceId.{IfaceId}
use Rattle.net_interfaces.specs.Interfaces.{addressed}
use Rattle.net_parts.specs.World.{is_up}
use Rattle.question_lang.specs.declared.question.Start.{Start}
use Rattle.question_lang.specs.declared.walk.End.{End}
use Rattle.question_lang.specs.declared.walk.End.TheVariants.{Delivered, Left, NoRoute, Discarded, DeniedIn, DeniedOut}
use Rattle.question_lang.specs.declared.walk.End.TheVariants.{Loop, Open}
use Rattle.question_lang.specs.declared.walk.Hop.{Hop}
use Rattle.question_lang.specs.declared.walk.Hop.TheVariants.{To, Ends}
use Rattle.question_lang.specs.declared.walk.Walk.{Walk}
use Rattle.question_lang.specs.Hops.{next_hops, permits_in}

-- a hop of the first router leads in at the interface of the second
abbrev pub LeadsTo : (ℕ → List Hop) → Start → Start → Type 0
LeadsTo hops from to = (at : ℕ) × (to.iface ≡ Some at)
    × Contains (hops from.router) (To (record { router = to.router; at = at }))

-- a walk that stood before and stands now may end so: at an end of its router, in a loop where it stood at that router
-- before, or open
abbrev pub MayEnd : (ℕ → List Hop) → List Start → Start → End → Type 0
MayEnd hops before now Delivered = Contains (hops now.router) (Ends Delivered)
MayEnd hops before now (Left a) = Contains (hops now.router) (Ends (Left a))
MayEnd hops before now NoRoute = Contains (hops now.router) (Ends NoRoute)
MayEnd hops before now Discarded = Contains (hops now.router) (Ends Discarded)
MayEnd hops before now (DeniedIn i) = Contains (hops now.router) (Ends (DeniedIn i))
MayEnd hops before now DeniedOut = Contains (hops now.router) (Ends DeniedOut)
MayEnd hops before now Loop = Any (λ stood. stood.router ≡ now.router) before
MayEnd hops before now Open = Unit {0}

-- a walk that stood before goes on over these standings, each led to by the one before it, and ends so
abbrev pub GoesOn : (ℕ → List Hop) → List Start → List Start → End → Type 0
GoesOn hops before [] end = ⊥
GoesOn hops before (now ∷ []) end = MayEnd hops before now end
GoesOn hops before (now ∷ then ∷ rest) end = LeadsTo hops now then × GoesOn hops (before ++ now ∷ []) (then ∷ rest) end

-- the interface has an address and is up
abbrev pub is_open : List File → Failures → IfaceId → Bool
is_open files failures i =
    list_any (λ x. ((x.id.router == i.router) && (x.id.at == i.at)) && is_up files failures x) (addressed files)

-- a packet may come in at the interface: it is up and its in list says so
abbrev pub IsTestedIn : List File → World → IfaceId → Bool → Type 0
IsTestedIn files world i says = IsTrue (is_open files world.failures i) × (permits_in files world.packet i ≡ says)

-- a walk may begin there: at an interface where the packet may come in, or at a router without one
abbrev pub MayBegin : List File → World → Start → Type 0
MayBegin files world start =
    MatchOption start.iface (Unit {0}) (λ at. IsTestedIn files world (record { router = start.router; at = at }) true)

-- a walk that stands nowhere ended at the interface at which it would begin, whose in list denies the packet
abbrev pub IsDeniedAtOnce : List File → World → End → Type 0
IsDeniedAtOnce files world Delivered = ⊥
IsDeniedAtOnce files world (Left a) = ⊥
IsDeniedAtOnce files world NoRoute = ⊥
IsDeniedAtOnce files world Discarded = ⊥
IsDeniedAtOnce files world (DeniedIn i) = IsTestedIn files world i false
IsDeniedAtOnce files world DeniedOut = ⊥
IsDeniedAtOnce files world Loop = ⊥
IsDeniedAtOnce files world Open = ⊥

-- a walk of the packet of a world, over these standings
abbrev pub IsWalkOver : List File → World → List Start → End → Type 0
IsWalkOver files world [] end = IsDeniedAtOnce files world end
IsWalkOver files world (start ∷ rest) end = MayBegin files world start
    × GoesOn (next_hops files world) [] (start ∷ rest) end

abbrev pub IsWalk : List File → World → Walk → Type 0
IsWalk files world walk = IsWalkOver files world walk.hops walk.end
