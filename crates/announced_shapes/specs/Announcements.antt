-- Announcements of external peers by their shapes, and an announcement of each shape that one has.
use Rattle.std.specs.Prelude.{◌≡◌, ℕ, ◌<◌, ◌≤◌, ◌==◌, ◌&&◌, nat_lt, nat_le, All, Bool, true, false, List, length}
use Rattle.std.specs.Prelude.{slice_get, Some}
use Rattle.std.specs.List.{list_all}
use Rattle.std.specs.Option.{option_map_or}
use Rattle.ios_ast.specs.declared.bgp.Neighbour.{Neighbour}
use Rattle.ios_ast.specs.declared.file.File.{File}
use Rattle.route_record.specs.declared.Announcement.{Announcement}
use Rattle.route_record.specs.declared.TheConstants.{LENGTHS}
use Rattle.route_record.specs.declared.tracked.Tracked.{Tracked}
use Rattle.route_record.specs.Fits.{IsWord}
use Rattle.route_record.specs.Origins.{origin_of_code}
use Rattle.net_parts.specs.declared.sessions.SessionEnd.{SessionEnd}
use Rattle.net_parts.specs.Sessions.{ends_of, is_outside, neighbour_of}
use Rattle.bgp_shapes.specs.Candidates.{ShapeAnnouncement}
use Rattle.net_parts.specs.World.{is_word}
use Rattle.announced_shapes.specs.Paths.{IsPathShape, is_path_shape, rebuilt_path, taken}

-- the announcement of a shape: its communities are the tracked ones that are marked
abbrev pub rebuilt_announcement : Tracked → ShapeAnnouncement → Announcement
rebuilt_announcement tracked s = record {
  end = s.end;
  len = s.len;
  path = rebuilt_path tracked.numbers s.path;
  med = s.med;
  origin = origin_of_code s.origin;
  communities = taken tracked.communities s.communities;
}

-- the end is that of an external peer who may announce the path
pub record IsPeersPath (files : List File) (tracked : Tracked) (s : ShapeAnnouncement) : Type 0 where
  pub end : SessionEnd
  pub there : slice_get (ends_of files) s.end ≡ Some end
  pub outside : is_outside end.far ≡ true
  pub neighbour : Neighbour
  pub line : neighbour_of files end ≡ Some neighbour
  pub path : IsPathShape neighbour.asn tracked.numbers s.path

-- the shape of what an external peer may announce: length of the prefix, metric and origin are in their ranges, and
-- there is a mark for each tracked community, of which each marked one has 32 bits (RFC 1997)
pub record IsAnnouncementShape (files : List File) (tracked : Tracked) (s : ShapeAnnouncement) : Type 0 where
  pub peer : IsPeersPath files tracked s
  pub len : s.len < LENGTHS
  pub med : IsWord s.med
  pub origin : s.origin ≤ 2
  pub marks : length s.communities ≡ length tracked.communities
  pub words : All IsWord (taken tracked.communities s.communities)

-- the same as a test
abbrev pub is_peers_path : List File → Tracked → ShapeAnnouncement → SessionEnd → Bool
is_peers_path files tracked s end =
    is_outside end.far
    && option_map_or (λ neighbour. is_path_shape neighbour.asn tracked.numbers s.path) (neighbour_of files end) false

abbrev pub has_ranges : ShapeAnnouncement → Bool
has_ranges s = nat_lt s.len LENGTHS && (is_word s.med && nat_le s.origin 2)

abbrev pub has_communities : List ℕ → List Bool → Bool
has_communities tracked marks = (length marks == length tracked) && list_all is_word (taken tracked marks)

unfoldable pub is_announcement_shape : List File → Tracked → ShapeAnnouncement → Bool
is_announcement_shape files tracked s =
    option_map_or (is_peers_path files tracked s) (slice_get (ends_of files) s.end) false
    && (has_ranges s && has_communities tracked.communities s.communities)
