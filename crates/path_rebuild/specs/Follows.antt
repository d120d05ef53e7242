-- Shapes that follow from each other over the sessions of a network, and a routing that has them (RFC 4271, section
-- 9.1).
use Rattle.std.specs.Prelude.{◌≡◌, ◌⊎◌, ◌<◌, ◌*◌, ◌+◌, ◌^◌, ◌==◌, ◌&&◌, ℕ, true, All, Contains, IfSome, List, length}
use Rattle.std.specs.Prelude.{Option, Some}
use Rattle.std.specs.Prelude.{option_and_then, option_map, slice_get}
use Rattle.std.specs.List.{find}
use Rattle.mw_text.specs.declared.address.Addr.{Addr}
use Rattle.mw_text.specs.declared.address.Prefix.{Prefix}
use Rattle.mw_text.specs.Address.{prefix_at}
use Rattle.ios_ast.specs.declared.bgp.Neighbour.{Neighbour}
use Rattle.ios_ast.specs.declared.file.File.{File}
use Rattle.route_record.specs.declared.Announcement.{Announcement}
use Rattle.route_record.specs.declared.BgpRec.{BgpRec}
use Rattle.route_record.specs.declared.Environment.{Environment}
use Rattle.route_record.specs.declared.Failures.{Failures}
use Rattle.route_record.specs.declared.Learnt.TheVariants.{Peer}
use Rattle.route_record.specs.declared.Slot.{Slot}
use Rattle.route_record.specs.declared.Tables.{Tables}
use Rattle.route_record.specs.declared.TheConstants.{LENGTHS}
use Rattle.route_record.specs.declared.tracked.Tracked.{Tracked}
use Rattle.route_record.specs.Fits.{FitsBgp}
use Rattle.route_record.specs.Places.{slot_at}
use Rattle.net_parts.specs.declared.sessions.Far.{Far}
use Rattle.net_parts.specs.declared.sessions.Far.TheVariants.{Outside, Inside}
use Rattle.net_parts.specs.declared.sessions.SessionEnd.{SessionEnd}
use Rattle.net_parts.specs.Decisions.{arriving}
use Rattle.net_parts.specs.Exports.{announced_message, exported, imported}
use Rattle.net_parts.specs.Resolution.{session_up}
use Rattle.net_parts.specs.Sessions.{ends_of, external_ends, neighbour_of}
use Rattle.net_parts.specs.World.{IsAnnouncement, IsEnvironment}
use Rattle.proto_rib.specs.Taken.{local_routes_at}
use Rattle.route_shapes.specs.Bgp.{BgpShape, bgp_shape}
use Rattle.bgp_shapes.specs.Candidates.{ShapeAnnouncement, ShapeEnvironment, announcement_shape, environment_shape}
use Rattle.announced_shapes.specs.Announcements.{IsAnnouncementShape}
use Rattle.path_rebuild.specs.declared.Rebuilt.{Rebuilt}
use Rattle.path_rebuild.specs.declared.ShapeRec.{ShapeRec}
use Rattle.path_rebuild.specs.Environments.{environment_of}
use Rattle.path_rebuild.specs.Shapes.{route_of}
use Rattle.path_rebuild.specs.Tables.{known_at}

-- what is known of a routing: announcements and held routes by their shapes, and the other parts of the slots
pub record Known : Type 0 where
  pub announced : ShapeEnvironment
  pub held : List (Option ShapeRec)
  pub rest : Tables

abbrev pub known_of : Tracked → List File → List Addr → List (Option ShapeRec) → List (Option ShapeRec) → Tables → Known
known_of tracked files ids announced held rest = record {
  announced = environment_of tracked files ids announced;
  held = held;
  rest = rest;
}

-- the shape of the route that a router holds for prefixes of that length
abbrev pub shape_at : Tracked → Known → ℕ → ℕ → Option BgpShape
shape_at tracked known len router = option_map (route_of tracked) (known_at known.held len router)

-- each shape of an announcement is one that its peer may announce, and there is an identifier for each external session
pub record AreAnnounced (tracked : Tracked) (files : List File) (announced : ShapeEnvironment) : Type 0 where
  pub ids : length announced.ids ≡ length (external_ends files)
  pub shapes : All (IsAnnouncementShape files tracked) announced.announced

-- an end of the router, at that place, whose neighbour has that address
pub record IsEndOf (files : List File) (router at : ℕ) (end : SessionEnd) (a : Addr) : Type 0 where
  pub there : slice_get (ends_of files) at ≡ Some end
  pub own : end.router ≡ router
  pub neighbour : Neighbour
  pub line : neighbour_of files end ≡ Some neighbour
  pub address : neighbour.addr ≡ a

-- ---- shapes that follow

-- some local route that the router has while its slot is this has the shape
pub record IsLocalShape (tracked : Tracked) (files : List File) (known : Known) (p : Prefix) (router : ℕ) (s : BgpShape)
    : Type 0 where
  pub slot : Slot
  pub there : slot_at known.rest router p.len ≡ Some slot
  pub route : BgpRec
  pub local : Contains (local_routes_at files router p slot) route
  pub shape : bgp_shape tracked route ≡ s

-- the external peer announces something, and import makes of whatever has the shape of this a route of the shape
pub record IsOfPeer (tracked : Tracked) (files : List File) (known : Known) (p : Prefix) (at : ℕ) (end : SessionEnd)
    (a : Addr) (s : BgpShape) : Type 0 where
  pub announced : ShapeAnnouncement
  pub there : find (λ b. (b.end == at) && (b.len == p.len)) known.announced.announced ≡ Some announced
  pub import : (b : Announcement) → IsAnnouncement files b → announcement_shape tracked b ≡ announced →
      option_map (bgp_shape tracked) (imported files end p (announced_message a b)) ≡ Some s

-- the far router holds a route, and import makes of what this router sends of whatever has the shape of that route a
-- route of the shape
pub record IsOfRouter (tracked : Tracked) (files : List File) (known : Known) (p : Prefix) (far_at : ℕ)
    (end : SessionEnd) (s : BgpShape) : Type 0 where
  pub far : SessionEnd
  pub there : slice_get (ends_of files) far_at ≡ Some far
  pub shape : BgpShape
  pub held : shape_at tracked known p.len far.router ≡ Some shape
  pub import : (r : BgpRec) → FitsBgp r → bgp_shape tracked r ≡ shape →
      option_map (bgp_shape tracked) (option_and_then (imported files end p) (exported files far p r)) ≡ Some s

abbrev pub IsOfFarSide : Tracked → List File → Known → Prefix → ℕ → SessionEnd → Addr → BgpShape → Far → Type 0
IsOfFarSide tracked files known p at end a s Outside = IsOfPeer tracked files known p at end a s
IsOfFarSide tracked files known p at end a s (Inside far_at) = IsOfRouter tracked files known p far_at end s

-- the shape says that its route was learnt of the neighbour of an end whose session is up, and is what follows of the
-- shape at the far side
pub record IsLearntShape (tracked : Tracked) (files : List File) (failures : Failures) (known : Known) (p : Prefix)
    (router : ℕ) (s : BgpShape) : Type 0 where
  pub at : ℕ
  pub end : SessionEnd
  pub address : Addr
  pub is : IsEndOf files router at end address
  pub from : s.from ≡ 2 ^ 32 + address.0
  pub up : session_up files failures end ≡ true
  pub sent : IsOfFarSide tracked files known p at end address s end.far

-- a shape that some route has, and that follows so
pub record Follows (tracked : Tracked) (files : List File) (failures : Failures) (known : Known) (p : Prefix)
    (router : ℕ) (s : BgpShape) : Type 0 where
  pub route : BgpRec
  pub fits : FitsBgp route
  pub shape : bgp_shape tracked route ≡ s
  pub source : IsLocalShape tracked files known p router s
      ⊎ IsLearntShape tracked files failures known p router s

-- so do all shapes that the routers of the network hold
abbrev pub AllFollow : Tracked → List File → Failures → Known → Addr → Type 0
AllFollow tracked files failures known destination =
    (router len : ℕ) (s : BgpShape) → router < length files → len < LENGTHS →
    shape_at tracked known len router ≡ Some s →
    Follows tracked files failures known (prefix_at destination len) router s

-- ---- a routing that has the shapes

-- import makes the route of what arrives over the session of an end whose neighbour is the one of which it was learnt
pub record IsImported (files : List File) (environment : Environment) (tables : Tables) (p : Prefix) (router : ℕ)
    (r : BgpRec) : Type 0 where
  pub at : ℕ
  pub end : SessionEnd
  pub address : Addr
  pub is : IsEndOf files router at end address
  pub from : r.from ≡ Peer address
  pub import : option_and_then (imported files end p) (arriving files environment tables p at end) ≡ Some r

-- a slot beside that of the given tables: it has the shape, and its route is a local one of the given slot or is
-- imported
pub record IsRebuiltSlot (tracked : Tracked) (files : List File) (known : Known) (made : Rebuilt) (p : Prefix)
    (router : ℕ) (rest slot : Slot) : Type 0 where
  pub ospf : slot.ospf ≡ rest.ospf
  pub rib : slot.rib ≡ rest.rib
  pub shape : option_map (bgp_shape tracked) slot.bgp ≡ shape_at tracked known p.len router
  pub source : IfSome slot.bgp (λ r. Contains (local_routes_at files router p rest) r
      ⊎ IsImported files made.env made.tables p router r)

-- an environment and tables that have the shapes
pub record IsRebuilt (tracked : Tracked) (files : List File) (known : Known) (destination : Addr) (made : Rebuilt)
    : Type 0 where
  pub environment : IsEnvironment files made.env
  pub announced : environment_shape tracked made.env ≡ known.announced
  pub size : length made.tables.slots ≡ LENGTHS * length files
  pub slots : (router len : ℕ) (rest : Slot) → len < LENGTHS → slot_at known.rest router len ≡ Some rest →
      (slot : Slot) × (slot_at made.tables router len ≡ Some slot)
      × IsRebuiltSlot tracked files known made (prefix_at destination len) router rest slot
