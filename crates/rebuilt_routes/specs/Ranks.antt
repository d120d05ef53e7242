-- The rank of a held shape, which is less at the router behind the session over which it was learnt.
use Rattle.std.specs.Prelude.{◌≡◌, ◌<◌, ◌+◌, ◌*◌, ℕ, List, ◌∷◌, Option, Some, slice_get, if◌then◌else◌}
use Rattle.std.specs.Option.{option_map_or}
use Rattle.mw_text.specs.Members.{count}
use Rattle.ios_ast.specs.declared.file.File.{File}
use Rattle.route_record.specs.declared.tracked.TheConstants.{MOST_TRACKED}
use Rattle.net_parts.specs.declared.sessions.Far.TheVariants.{Inside}
use Rattle.net_parts.specs.declared.sessions.SessionEnd.{SessionEnd}
use Rattle.net_parts.specs.Sessions.{ends_of}
use Rattle.route_shapes.specs.Bgp.{BgpShape}
use Rattle.bgp_shapes.specs.Candidates.{ShapeSlot}
use Rattle.bgp_shapes.specs.Crossings.{end_numbered}
use Rattle.rebuilt_routes.specs.Following.{held_at, numbered_end}

-- whether the route was learnt over an internal session
abbrev pub over_internal : List File → ℕ → BgpShape → ℕ
over_internal files router s =
    option_map_or (λ (end : SessionEnd). if end.internal then 1 else 0) (end_numbered files router s.from) 0

-- the length of the path, then the marked clusters, then whether the route was learnt over an internal session: an
-- external session puts the own AS number in front, a reflector marks its cluster, which was not there, and what goes
-- over an internal session without being reflected was learnt over none
abbrev pub rank : List File → ℕ → BgpShape → ℕ
rank files router s = (s.path.len * (MOST_TRACKED + 1) + count s.clusters) * 2 + over_internal files router s

-- where the session over which a held shape was learnt leads to a router, this one holds a shape of less rank
pub record RanksLessBehind (files : List File) (slots : ℕ → Option ShapeSlot) : Type 0 where
  pub behind : (router : ℕ) (s : BgpShape) (at : ℕ) (end : SessionEnd) (far_at : ℕ) (far : SessionEnd) →
      held_at slots router ≡ Some s → numbered_end files router s.from ≡ Some (at, end) → end.far ≡ Inside far_at →
      slice_get (ends_of files) far_at ≡ Some far →
      (t : BgpShape) × (held_at slots far.router ≡ Some t) × (rank files far.router t < rank files router s)
