-- Fates of packets, which name routers, by endings at the routers of these names.
use Rattle.std.specs.Prelude.{◌≡◌, ◌↔◌, ◌≤◌, ◌<◌, ℕ, length, true, List, Option, None, Some, slice_get}
use Rattle.ios_ast.specs.declared.file.File.{File}
use Rattle.mw_text.specs.declared.address.Addr.{Addr}
use Rattle.route_record.specs.declared.World.{World}
use Rattle.question_lang.specs.declared.question.Kind.TheVariants.{NoBlackHole}
use Rattle.question_lang.specs.Breaking.{at_router}
use Rattle.packet_fates.specs.declared.fate.Fate.{Fate}
use Rattle.packet_fates.specs.Fates.{HasFate, IsCalled}
use Rattle.sym_forwarding.specs.Symbolic.{table_end, table_of}
use Rattle.sym_walk.specs.Distances.{DistancesWhereNeeded}
use Rattle.sym_walk.specs.TwinTables.{AreTwins}
use Rattle.sym_walk.specs.Whole.{HasSlots, whole_end, whole_of}
use Rattle.term_arith.specs.Bits.{bits, ids_end}
use Rattle.term_store.specs.declared.NodeId.{NodeId}
use Rattle.term_store.specs.Terms.{Reading, at}
use Rattle.fate_terms.specs.declared.ending.Ending.{Ending}
use Rattle.fate_terms.specs.declared.ending.Ending.TheVariants as ends
use Rattle.fate_terms.specs.declared.named.Walked.{Walked}
use Rattle.fate_terms.specs.Endings.{HasEnding}
use Rattle.fate_terms.specs.Reaching.{AreReached}

-- how a packet ends at a router: delivered, or out of the network to an address
abbrev pub ending_by : Option Addr → ℕ → Ending
ending_by None router = ends.Delivered router
ending_by (Some a) router = ends.Left router a

-- the router has that name, and some walk from the start ends so there
abbrev pub EndsAtCalled : List File → World → ℕ → List ℕ → Option Addr → ℕ → Type 0
EndsAtCalled files world start name leaves router =
    IsCalled files name router × HasEnding files world start (ending_by leaves router)

-- one does among the first so many routers
abbrev pub EndsAmongCalled : List File → World → ℕ → List ℕ → Option Addr → ℕ → Type 0
EndsAmongCalled files world start name leaves many =
    (router : ℕ) × (router < many) × EndsAtCalled files world start name leaves router

-- each node tells of the fate at its place whether packets from the start have it
abbrev pub AreFateNodes : Reading → List File → World → ℕ → List Fate → List NodeId → Type 0
AreFateNodes w files world start fates ids =
    (k : ℕ) (fate : Fate) (id : NodeId) → slice_get fates k ≡ Some fate → slice_get ids k ≡ Some id →
    at w id ≡ true ↔ HasFate files world start fate

-- ---- what is known of all walks of a packet

-- the world of the walks
abbrev pub world_of_walks : Reading → Walked → World
world_of_walks w walked = whole_of w walked.net.now.files walked.world.now

-- its nodes stand in a store of that size, and the table and the marks have one for each router
pub record IsWalked (walked : Walked) (most : ℕ) : Type 0 where
  pub slots : HasSlots walked.net.now.files walked.world.now
  pub nodes : whole_end walked.world.now ≤ most
  pub table : table_end walked.table.now ≤ most
  pub marks : ids_end walked.reached.now ≤ most
  pub rows : length walked.table.now ≡ length walked.net.now.files
  pub marked : length walked.reached.now ≡ length walked.net.now.files

-- the table has what each router does with the packet, and those to which it comes from the start are marked
pub record KnowsWalks (w : Reading) (walked : Walked) : Type 0 where
  pub needed : DistancesWhereNeeded w walked.net.now.files walked.world.now.net walked.world.now.slots
  pub twins : AreTwins walked.net.now.files (world_of_walks w walked) (NoBlackHole (at_router walked.start))
      (length walked.net.now.files) (table_of w walked.table.now)
  pub reached : AreReached (table_of w walked.table.now) walked.start (length walked.table.now) (bits w walked.reached.now)
