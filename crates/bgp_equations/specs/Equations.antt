-- The BGP equation of one slot, at what a reading makes of everything.
use Rattle.std.specs.Prelude.{◌≡◌, ◌*◌, ◌==◌, ℕ, All, Bool, false, true, not, List, length, map, None, Option}
use Rattle.std.specs.Prelude.{option_map, slice_get, if◌then◌else◌}
use Rattle.std.specs.List.{list_any}
use Rattle.std.specs.Option.{option_map_or}
use Rattle.mw_text.specs.declared.address.Prefix.{Prefix}
use Rattle.ios_ast.specs.declared.file.File.{File}
use Rattle.route_record.specs.declared.Failures.{Failures}
use Rattle.route_record.specs.declared.tracked.Tracked.{Tracked}
use Rattle.net_parts.specs.Ospf.{advertised}
use Rattle.net_parts.specs.Sessions.{ends_of, is_outside}
use Rattle.net_parts.specs.declared.sessions.SessionEnd.{SessionEnd}
use Rattle.route_shapes.specs.Bgp.{BgpShape}
use Rattle.bgp_shapes.specs.Candidates.{ShapeCandidate, ShapeEnvironment, ShapeSlot, shape_arriving, shape_learnt}
use Rattle.rebuilt_routes.specs.Deciding.{is_decided_shape}
use Rattle.silent_routers.specs.Silent.{sending}
use Rattle.term_store.specs.Terms.{Reading}
use Rattle.sym_policy.specs.declared.records.SymNet.{SymNet}
use Rattle.term_arith.specs.declared.Bits.{Bits}
use Rattle.sym_policy.specs.Held.{bgp_of, failures_of, ospf_of}
use Rattle.sym_policy.specs.Records.{address_of, prefix_of}
use Rattle.sym_ospf.specs.Rows.{HasDistances}
use Rattle.sym_rib.specs.declared.slots.SymSlot.{SymSlot}
use Rattle.sym_rib.specs.declared.slots.SymTables.{SymTables}
use Rattle.sym_policy.specs.MapRecs.{HasTracked}
use Rattle.sym_rib.specs.Slots.{rib_of}
use Rattle.sym_rib.specs.Worlds.{slot_placed}
use Rattle.bgp_equations.specs.declared.environment.SymEnv.{SymEnv}
use Rattle.bgp_equations.specs.Environments.{environment_read}

-- ---- the slots that are read

abbrev pub slot_read : Reading → SymSlot → ShapeSlot
slot_read w s = record { ospf = ospf_of w s.ospf; bgp = bgp_of w s.bgp; rib = rib_of w s.rib }

-- those of all routers at one length
abbrev pub slots_read : Reading → SymTables → ℕ → ℕ → Option ShapeSlot
slots_read w tables len router = option_map (slot_read w) (slot_placed tables router len)

-- the same where silent routers hold no BGP route, of which they send nothing
abbrev pub sending_read : Reading → List File → SymTables → ℕ → ℕ → Option ShapeSlot
sending_read w files tables len = sending files (slots_read w tables len)

-- the BGP routes of the slots have one node for each tracked value
abbrev pub HaveTracked : Tracked → List SymSlot → Type 0
HaveTracked tracked slots = All (λ s. HasTracked tracked s.bgp) slots

-- what is learnt over the session of the end at a place
abbrev pub learnt_read : Reading → Tracked → List File → SymNet → SymEnv → SymTables → Bits → ℕ → ℕ × SessionEnd →
    Option ShapeCandidate
learnt_read w tracked files sym env tables dst len e =
    shape_learnt tracked files (failures_of w sym) (map (address_of w) env.ids) (prefix_of w dst len) e.0 e.1
    (shape_arriving tracked files (environment_read w files tables.lens.now env) (sending_read w files tables len)
    (prefix_of w dst len) e.0 e.1)

-- the same where the end is one of the router
abbrev pub learnt_by : (ℕ × SessionEnd → Option ShapeCandidate) → ℕ → ℕ → SessionEnd → Option ShapeCandidate
learnt_by learnt router at end = if end.router == router then learnt (at, end) else None

-- the candidate of a local route of a router with that identifier
abbrev pub local_with : ℕ → BgpShape → ShapeCandidate
local_with id s = record { rec = s; external = false; cost = 0; peer_id = id }

-- ---- interior distances

-- some session joins two routers of the files
abbrev pub has_inner : List File → Bool
has_inner files = list_any (λ end. not (is_outside end.far)) (ends_of files)

-- then there are the rows of interior distances, and these are what they read as
abbrev pub RowsForSessions : List File → SymNet → Type 0
RowsForSessions files sym = has_inner files ≡ true → length sym.igp ≡ length files * length (advertised files)

abbrev pub DistancesForSessions : Reading → List File → SymNet → Type 0
DistancesForSessions w files sym = has_inner files ≡ true → HasDistances w files sym

-- ---- the equation

-- the router of the files of that number has a slot, and holds in it what the decision process leaves where the others
-- have such slots
abbrev pub is_decided_among : Tracked → List File → Failures → ShapeEnvironment → (ℕ → Option ShapeSlot) →
    (ℕ → Option ShapeSlot) → ℕ → Prefix → Bool
is_decided_among tracked files failures environment others slots router p =
    option_map_or (λ file. option_map_or (λ slot.
    is_decided_shape tracked files failures environment others router file p slot.bgp) (slots router) false)
    (slice_get files router) false

abbrev pub is_decided_at : Tracked → List File → Failures → ShapeEnvironment → (ℕ → Option ShapeSlot) → ℕ → Prefix → Bool
is_decided_at tracked files failures environment slots = is_decided_among tracked files failures environment slots slots

-- the same where nothing is looked at that a silent router holds
abbrev pub is_decided_heard : Tracked → List File → Failures → ShapeEnvironment → (ℕ → Option ShapeSlot) → ℕ → Prefix →
    Bool
is_decided_heard tracked files failures environment slots =
    is_decided_among tracked files failures environment (sending files slots) slots
