-- To which routers a packet comes, by a table of what each router does with it.
use Rattle.std.specs.Prelude.{◌≡◌, ◌↔◌, ◌⊎◌, ◌<◌, ℕ, zero, suc, Bool, true, List, length, Some, slice_get}
use Rattle.std.specs.List.{list_any}
use Rattle.sym_forwarding.specs.Forwardings.{sends_to}
use Rattle.sym_forwarding.specs.Layers.{Forwarding}
use Rattle.walk_def.specs.Marks.{known}

-- the router at that place sends the packet to another
abbrev pub Sends : List Forwarding → ℕ → ℕ → Type 0
Sends table via router =
    (f : Forwarding) × (slice_get table via ≡ Some f) × (list_any (sends_to router) f.next ≡ true)

-- a packet that begins at the start comes to the router by at most that many hops
unfoldable pub Comes : List Forwarding → ℕ → ℕ → ℕ → Type 0
Comes table start zero router = start ≡ router
Comes table start (suc hops) router =
    Comes table start hops router ⊎ ((via : ℕ) × Comes table start hops via × Sends table via router)

-- a walk may end at the router
abbrev pub MayEnd : List Forwarding → ℕ → Type 0
MayEnd table router = (f : Forwarding) × (slice_get table router ≡ Some f) × (f.ends ≡ true)

-- ---- marks of routers

-- those to which it comes by at most that many hops are marked
pub record AreReached (table : List Forwarding) (start hops : ℕ) (marks : List Bool) : Type 0 where
  pub long : length marks ≡ length table
  pub each : (router : ℕ) → router < length table → known marks router ≡ true ↔ Comes table start hops router

-- one that is marked sends it to the router
abbrev pub GoesOver : List Bool → List Forwarding → ℕ → ℕ → Type 0
GoesOver marks table router via = (known marks via ≡ true) × Sends table via router

-- one of the first so many does
abbrev pub ComesFrom : List Bool → List Forwarding → ℕ → ℕ → Type 0
ComesFrom marks table router many = (via : ℕ) × (via < many) × GoesOver marks table router via

-- the router is marked, or the packet comes to it from one that is
abbrev pub ComesOn : List Bool → List Forwarding → ℕ → Type 0
ComesOn marks table router = (known marks router ≡ true) ⊎ ComesFrom marks table router (length table)

-- the marks of the first routers, one hop on
abbrev pub AreSpread : List Bool → List Forwarding → List Bool → Type 0
AreSpread marks table later =
    (router : ℕ) → router < length later → known later router ≡ true ↔ ComesOn marks table router

-- the start alone is marked
abbrev pub IsStart : ℕ → List Bool → Type 0
IsStart start marks = (router : ℕ) → router < length marks → known marks router ≡ true ↔ start ≡ router

-- ---- ends

-- the router is marked, and a walk may end there
abbrev pub EndsIn : List Bool → List Forwarding → ℕ → Type 0
EndsIn marks table router = (known marks router ≡ true) × MayEnd table router

-- one of the first so many is
abbrev pub EndsAmong : List Bool → List Forwarding → ℕ → Type 0
EndsAmong marks table many = (router : ℕ) × (router < many) × EndsIn marks table router
