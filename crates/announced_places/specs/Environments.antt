-- The environment of what external peers announce, by the shapes of routes.
use Rattle.std.specs.Prelude.{ℕ, Bool, List, filter, map, Option}
use Rattle.std.specs.List.{enumerate_from}
use Rattle.mw_text.specs.declared.address.Addr.{Addr}
use Rattle.ios_ast.specs.declared.file.File.{File}
use Rattle.net_parts.specs.declared.sessions.SessionEnd.{SessionEnd}
use Rattle.net_parts.specs.Sessions.{ends_of, is_outside}
use Rattle.route_shapes.specs.Bgp.{BgpShape}
use Rattle.bgp_shapes.specs.Candidates.{ShapeAnnouncement, ShapeEnvironment}
use Rattle.plan_places.specs.declared.places.Place.{Place}
use Rattle.plan_places.specs.Places.{place}
use Rattle.announced_places.specs.Announced.{announced_at}

-- an end with its place
abbrev pub is_outer : ℕ × SessionEnd → Bool
is_outer e = is_outside e.1.far

-- the places, among the ends of all sessions, of those towards external peers
abbrev pub external_places : List File → List ℕ
external_places files = map (λ e. e.0) (filter is_outer (enumerate_from 0 (ends_of files)))

-- the announcement of an end at a length by the shape of a route: its path, its metric, its origin and its communities
abbrev pub announcement_of : ℕ → ℕ → BgpShape → ShapeAnnouncement
announcement_of end len s = record {
  end = end;
  len = len;
  path = s.path;
  med = s.preferences.med;
  origin = s.preferences.origin;
  communities = s.communities;
}

-- where it stands
abbrev pub stands_at : ShapeAnnouncement → Place
stands_at a = place a.end a.len

-- the environment in which external peers have these identifiers, and in which of each external end at each of these
-- lengths that is announced whose shape is there: by end, and then by length
abbrev pub environment_of : List File → List ℕ → List Addr → List (Option BgpShape) → ShapeEnvironment
environment_of files lens ids shapes = record {
  ids = ids;
  announced = announced_at announcement_of (external_places files) lens shapes;
}
