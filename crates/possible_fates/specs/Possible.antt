-- Which fates packets can have in a network at all: from any router, in any stable routing.
use Rattle.std.specs.Prelude.{ℕ, List, Contains}
use Rattle.ios_ast.specs.declared.file.File.{File}
use Rattle.route_record.specs.declared.Environment.{Environment}
use Rattle.route_record.specs.declared.World.{World}
use Rattle.net_parts.specs.Stable.{Stable}
use Rattle.net_parts.specs.World.{IsEnvironment}
use Rattle.packet_fates.specs.declared.fate.Fate.{Fate}
use Rattle.packet_fates.specs.declared.fate.Fate.TheVariants.{Delivered, Left, BlackHole, Loop}
use Rattle.packet_fates.specs.Fates.{HasFate, IsCalled}
use Rattle.leaving_addresses.specs.Leaving.{leaving}

-- to be delivered at a router of that name, to leave the network at one to an address to which packets can leave there,
-- to be lost, or to come back
abbrev pub IsPossible : List File → Fate → Type 0
IsPossible files (Delivered name) = (router : ℕ) × IsCalled files name router
IsPossible files (Left name a) = (router : ℕ) × IsCalled files name router × Contains (leaving files router) a
IsPossible files BlackHole = Unit {0}
IsPossible files Loop = Unit {0}

-- every fate that a packet has in a stable routing, from whichever router, is as P says
abbrev pub EachFate : List File → (Fate → Type 0) → Type 0
EachFate files P =
    (world : World) (environment : Environment) (start : ℕ) (fate : Fate) → IsEnvironment files environment →
    Stable files world.packet.dst world.failures environment world.tables → HasFate files world start fate → P fate

-- every one stands in the list
abbrev pub HasPossible : List File → List Fate → Type 0
HasPossible files fates = EachFate files (Contains fates)
