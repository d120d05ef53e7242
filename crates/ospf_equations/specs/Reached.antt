-- Routers that reach an origin of an internal route: where none does, no router holds one, and such routes cannot stand
-- that support one another (RFC 2328, section 16.1).
use Rattle.std.specs.Prelude.{◌≡◌, ℕ, zero, suc, ◌<◌, ◌==◌, ◌&&◌, ◌||◌, Bool, false, not, nat_lt, List, length}
use Rattle.std.specs.Prelude.{Option, Some, slice_get}
use Rattle.std.specs.List.{list_any}
use Rattle.std.specs.Option.{option_map_or}
use Rattle.mw_text.specs.declared.address.Prefix.{Prefix}
use Rattle.mw_text.specs.Members.{all_below}
use Rattle.ios_ast.specs.declared.file.File.{File}
use Rattle.route_record.specs.declared.Failures.{Failures}
use Rattle.route_record.specs.declared.OspfRec.{OspfRec}
use Rattle.route_record.specs.declared.Slot.{Slot}
use Rattle.route_record.specs.declared.Tables.{Tables}
use Rattle.route_record.specs.Places.{slot_at}
use Rattle.net_parts.specs.declared.adjacencies.Adjacency.{Adjacency}
use Rattle.net_parts.specs.Ospf.{adjacencies, is_adjacency_up, receives}
use Rattle.net_parts.specs.OspfRoutes.{own_origins}
use Rattle.net_parts.specs.Stable.{held_ospf}
use Rattle.sym_ospf.specs.Rows.{is_internal}
use Rattle.term_store.specs.declared.NodeId.{NodeId}
use Rattle.term_store.specs.Terms.{Reading, at}
use Rattle.ospf_equations.specs.declared.adjacent.SymAdjacency.{SymAdjacency}

-- there is a route, and it is internal
abbrev pub has_internal : Option OspfRec → Bool
has_internal o = option_map_or (λ r. is_internal r.kind) o false

-- the router's process originates an internal route for the prefix, as that slot of the router is
unfoldable pub originates_internal : List File → Failures → Prefix → ℕ → Slot → Bool
originates_internal files failures p router slot =
    option_map_or (λ file. option_map_or (λ process.
    list_any (λ r. is_internal r.kind) (own_origins files failures router file process p slot)) file.ospf false)
    (slice_get files router) false

-- the router holds an internal route for the prefix
abbrev pub holds_internal : Tables → Prefix → ℕ → Bool
holds_internal tables p router = option_map_or (λ slot. has_internal slot.ospf) (slot_at tables router p.len) false

-- it holds one, and originates one
abbrev pub is_origin : List File → Failures → Tables → Prefix → ℕ → Bool
is_origin files failures tables p router =
    option_map_or (λ slot. has_internal slot.ospf && originates_internal files failures p router slot)
    (slot_at tables router p.len) false

-- the router receives over the adjacency from a router of the files of which something is true
abbrev pub leads : List File → Failures → (ℕ → Bool) → ℕ → Adjacency → Bool
leads files failures reached router a =
    receives files failures router a && (nat_lt a.to.router (length files) && reached a.to.router)

-- at most so many adjacencies that are up lead from the router to such an origin
unfoldable pub is_reached : List File → Failures → Tables → Prefix → ℕ → ℕ → Bool
is_reached files failures tables p zero router = is_origin files failures tables p router
is_reached files failures tables p (suc n) router =
    is_origin files failures tables p router
    || list_any (leads files failures (is_reached files failures tables p n) router) (adjacencies files)

-- and from each router that holds an internal route at most as many as there are routers
unfoldable pub are_reached : List File → Failures → Tables → Prefix → Bool
are_reached files failures tables p =
    all_below (λ router. not (holds_internal tables p router)
    || is_reached files failures tables p (length files) router) (length files)

-- each OSPF route of the tables for the prefix is the one that its router holds
abbrev pub AreHeld : List File → Failures → Tables → Prefix → Type 0
AreHeld files failures tables p =
    (router : ℕ) (file : File) (slot : Slot) (h : OspfRec) → slice_get files router ≡ Some file →
    slot_at tables router p.len ≡ Some slot → slot.ospf ≡ Some h →
    held_ospf files failures tables router file p ≡ Some h

-- ---- as terms

-- an adjacency, and whether both of its ends are up
abbrev pub up_read : Reading → SymAdjacency → Bool × Adjacency
up_read w s = (at w s.up, s.adjacency)

abbrev pub up_in : List File → Failures → Adjacency → Bool × Adjacency
up_in files failures a = (is_adjacency_up files failures a, a)

-- what the node of a router says; false where there is none
abbrev pub told : Reading → List NodeId → ℕ → Bool
told w nodes router = option_map_or (at w) (slice_get nodes router) false

-- the router receives over the adjacency, and the node of the far router is true
abbrev pub is_led : Reading → List NodeId → ℕ → SymAdjacency → Bool
is_led w reached router s = (s.adjacency.from.router == router) && (at w s.up && told w reached s.adjacency.to.router)

-- the nodes of the routers say which of them are origins
abbrev pub TellOrigins : Reading → List File → Failures → Tables → Prefix → List NodeId → Type 0
TellOrigins w files failures tables p nodes =
    (router : ℕ) → router < length files → told w nodes router ≡ is_origin files failures tables p router

-- the nodes of the routers say from which of them at most so many adjacencies lead to one
abbrev pub TellReached : Reading → List File → Failures → Tables → Prefix → ℕ → List NodeId → Type 0
TellReached w files failures tables p n nodes =
    (router : ℕ) → router < length files → told w nodes router ≡ is_reached files failures tables p n router
