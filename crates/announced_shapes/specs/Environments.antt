-- What all external peers announce, by the shapes of their announcements.
use Rattle.std.specs.Prelude.{◌≡◌, ◌<◌, ◌⊎◌, All, AllPairs, List, length, map}
use Rattle.ios_ast.specs.declared.file.File.{File}
use Rattle.route_record.specs.declared.Environment.{Environment}
use Rattle.route_record.specs.declared.tracked.Tracked.{Tracked}
use Rattle.route_record.specs.Fits.{IsAddress}
use Rattle.net_parts.specs.Sessions.{external_ends}
use Rattle.bgp_shapes.specs.Candidates.{ShapeAnnouncement, ShapeEnvironment}
use Rattle.announced_shapes.specs.Announcements.{IsAnnouncementShape, rebuilt_announcement}

-- the environment of these shapes, announcement by announcement
abbrev pub rebuilt_environment : Tracked → ShapeEnvironment → Environment
rebuilt_environment tracked s = record {
  ids = s.ids;
  announced = map (rebuilt_announcement tracked) s.announced;
}

-- a shape of an earlier end, or of the same and of a shorter prefix
abbrev pub IsEarlierShape : ShapeAnnouncement → ShapeAnnouncement → Type 0
IsEarlierShape a b = (a.end < b.end) ⊎ ((a.end ≡ b.end) × (a.len < b.len))

-- the shapes of an environment: an identifier for each external session, and shapes of announcements in their order
pub record IsShapeEnvironment (files : List File) (tracked : Tracked) (s : ShapeEnvironment) : Type 0 where
  pub ids : length s.ids ≡ length (external_ends files)
  pub fit : All IsAddress s.ids
  pub announced : All (IsAnnouncementShape files tracked) s.announced
  pub once : AllPairs IsEarlierShape s.announced
