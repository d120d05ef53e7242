-- The cluster lists of reflected routes (RFC 4456, section 7), and what sessions keep.
use Rattle.std.specs.Prelude.{◌≡◌, ◌≤◌, ◌==◌, ◌&&◌, ℕ, Bool, true, not, List, [], ◌∷◌, length, slice_get, All}
use Rattle.std.specs.Prelude.{Some, None}
use Rattle.std.specs.List.{find, list_all}
use Rattle.mw_text.specs.declared.address.Prefix.{Prefix}
use Rattle.ios_ast.specs.declared.bgp.Bgp.{Bgp}
use Rattle.ios_ast.specs.declared.bgp.Neighbour.{Neighbour}
use Rattle.ios_ast.specs.declared.file.File.{File}
use Rattle.ios_ast.specs.Deciding.{carries}
use Rattle.route_record.specs.declared.Announcement.{Announcement}
use Rattle.route_record.specs.declared.BgpMsg.{BgpMsg}
use Rattle.route_record.specs.declared.BgpRec.{BgpRec}
use Rattle.route_record.specs.declared.Environment.{Environment}
use Rattle.route_record.specs.declared.Slot.{Slot}
use Rattle.route_record.specs.declared.Tables.{Tables}
use Rattle.route_record.specs.declared.tracked.Tracked.{Tracked}
use Rattle.route_record.specs.Places.{slot_at}
use Rattle.net_parts.specs.declared.sessions.Far.TheVariants.{Outside, Inside}
use Rattle.net_parts.specs.declared.sessions.SessionEnd.{SessionEnd}
use Rattle.net_parts.specs.Exports.{announced_message, exported, imported, most_numbers}
use Rattle.net_parts.specs.Origins.{local_routes}
use Rattle.net_parts.specs.Sessions.{ends_of, neighbour_of}
use Rattle.net_parts.specs.Tracked.{numbers_of}

-- no number stands twice
abbrev pub stands_once : List ℕ → Bool
stands_once [] = true
stands_once (x ∷ xs) = not (carries xs x) && stands_once xs

-- a cluster list names no reflector twice, and each is one of those that are tracked, so that it is no longer than these
pub record NamesReflectorsOnce (tracked : Tracked) (rec : BgpRec) : Type 0 where
  pub once : stands_once (numbers_of rec.clusters) ≡ true
  pub tracked_all : list_all (carries (numbers_of tracked.clusters)) (numbers_of rec.clusters) ≡ true
  pub few : length rec.clusters ≤ length tracked.clusters

-- moreover its path has at most as many numbers as import takes, and a route that no reflector passed on has no
-- originator (RFC 4456, section 8)
pub record HasBoundedLists (tracked : Tracked) (rec : BgpRec) : Type 0 where
  pub clusters : NamesReflectorsOnce tracked rec
  pub path : length rec.path ≤ most_numbers
  pub reflected : rec.clusters ≡ [] → rec.originator ≡ None

-- what is true of the local routes that the tables give the routers
abbrev pub HoldsOfLocalRoutes : List File → Tables → Prefix → (ℕ → BgpRec → Bool) → Type 0
HoldsOfLocalRoutes files tables p P =
    (router : ℕ) (file : File) (process : Bgp) (slot : Slot) → slice_get files router ≡ Some file →
    file.bgp ≡ Some process → slot_at tables router p.len ≡ Some slot →
    All (λ rec. P router rec ≡ true) (local_routes files router file process p slot)

-- what is true of a route that a router makes of an announcement, and of one that it makes of what a router sends where
-- it is true of the route that this one holds
pub record IsKeptBySessions (files : List File) (environment : Environment) (p : Prefix) (P : ℕ → BgpRec → Bool)
    : Type 0 where
  pub announced : (at : ℕ) (end : SessionEnd) (neighbour : Neighbour) (a : Announcement) (rec : BgpRec) →
      slice_get (ends_of files) at ≡ Some end → end.far ≡ Outside → neighbour_of files end ≡ Some neighbour →
      find (λ (a : Announcement). (a.end == at) && (a.len == p.len)) environment.announced ≡ Some a →
      imported files end p (announced_message neighbour.addr a) ≡ Some rec → P end.router rec ≡ true
  pub sent : (at far_at : ℕ) (end far : SessionEnd) (held : BgpRec) (message : BgpMsg) (rec : BgpRec) →
      slice_get (ends_of files) at ≡ Some end → end.far ≡ Inside far_at → slice_get (ends_of files) far_at ≡ Some far →
      exported files far p held ≡ Some message → imported files end p message ≡ Some rec →
      P far.router held ≡ true → P end.router rec ≡ true
