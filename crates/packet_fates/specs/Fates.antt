-- What becomes of the packet of a world: the fates of all walks from a router.
use Rattle.std.specs.Prelude.{◌≡◌, ◌⊎◌, ℕ, List, Contains, Option, Some, None, AllPairs, slice_get}
use Rattle.ios_ast.specs.declared.file.File.{File}
use Rattle.route_record.specs.declared.World.{World}
use Rattle.question_lang.specs.declared.walk.End.{End}
use Rattle.question_lang.specs.declared.walk.End.TheVariants.{NoRoute, Discarded, DeniedIn, DeniedOut, Open}
use Rattle.question_lang.specs.declared.walk.End.TheVariants.{Delivered as EndDelivered, Left as EndLeft}
use Rattle.question_lang.specs.declared.walk.End.TheVariants.{Loop as EndLoop}
use Rattle.question_lang.specs.declared.walk.Hop.{Hop}
use Rattle.question_lang.specs.declared.walk.Hop.TheVariants.{To, Ends}
use Rattle.question_lang.specs.declared.walk.Walk.{Walk}
use Rattle.question_lang.specs.Breaking.{BeginsAt, LastStands, at_router}
use Rattle.question_lang.specs.Walks.{IsWalk}
use Rattle.packet_fates.specs.declared.fate.Fate.{Fate}
use Rattle.packet_fates.specs.declared.fate.Fate.TheVariants.{Delivered, Left, BlackHole, Loop}
use Rattle.packet_fates.specs.Order.{Precedes}

-- the router has that name
abbrev pub IsCalled : List File → List ℕ → ℕ → Type 0
IsCalled files name router = (file : File) × (slice_get files router ≡ Some file) × (file.hostname ≡ name)

-- the walk has that fate: it ends delivered at the router of that name, or out of the network there to that address; it
-- ends without a route or at Null0; it comes back to where it stood. One that a list denies has none
abbrev pub EndsSo : List File → Walk → Fate → Type 0
EndsSo files walk (Delivered name) = (walk.end ≡ EndDelivered) × LastStands (IsCalled files name) walk
EndsSo files walk (Left name a) = (walk.end ≡ EndLeft a) × LastStands (IsCalled files name) walk
EndsSo files walk BlackHole = (walk.end ≡ NoRoute) ⊎ (walk.end ≡ Discarded)
EndsSo files walk Loop = walk.end ≡ EndLoop

-- some walk from the router has that fate
abbrev pub HasFate : List File → World → ℕ → Fate → Type 0
HasFate files world start fate =
    (walk : Walk) × IsWalk files world walk × BeginsAt (at_router start) walk × EndsSo files walk fate

-- the fates of all walks from the router, each once, in their order
pub record AreFates (files : List File) (world : World) (start : ℕ) (fates : List Fate) : Type 0 where
  pub sound : (fate : Fate) → Contains fates fate → HasFate files world start fate
  pub whole : (fate : Fate) → HasFate files world start fate → Contains fates fate
  pub ordered : AllPairs Precedes fates

-- ---- the ends of one router

-- the fate of a packet that ends so at the router of that name
abbrev pub fate_of : List ℕ → End → Option Fate
fate_of name EndDelivered = Some (Delivered name)
fate_of name (EndLeft a) = Some (Left name a)
fate_of name NoRoute = Some BlackHole
fate_of name Discarded = Some BlackHole
fate_of name (DeniedIn i) = None
fate_of name DeniedOut = None
fate_of name EndLoop = None
fate_of name Open = None

-- the fate that a hop is
abbrev pub fate_by : List ℕ → Hop → Option Fate
fate_by name (To i) = None
fate_by name (Ends end) = fate_of name end

-- one of these hops of the router of that name is that fate
abbrev pub IsFateAt : List ℕ → List Hop → Fate → Type 0
IsFateAt name own fate = (hop : Hop) × Contains own hop × (fate_by name hop ≡ Some fate)
