-- Environments, by the shapes of announcements, of two networks that have external peers in common.
use Rattle.std.specs.Prelude.{◌≡◌, ℕ, ◌==◌, ◌&&◌, List, IsTrue, Option, Some, option_map, slice_get}
use Rattle.std.specs.List.{find}
use Rattle.ios_ast.specs.declared.file.File.{File}
use Rattle.net_parts.specs.declared.sessions.SessionEnd.{SessionEnd}
use Rattle.net_parts.specs.Sessions.{ends_of, external_ends, is_outside}
use Rattle.bgp_shapes.specs.Candidates.{ShapeAnnouncement, ShapeEnvironment}
use Rattle.paired_nets.specs.Peers.{AreWithOne}

-- the shape of an announcement, whatever the place of its end
abbrev pub unplaced_shape : ShapeAnnouncement → ShapeAnnouncement
unplaced_shape a = record a { end = 0 }

-- that of what the external peer at an end announces for a prefix length, whatever the place of the end
abbrev pub shape_over : ShapeEnvironment → ℕ → ℕ → Option ShapeAnnouncement
shape_over environment end len =
    option_map unplaced_shape (find (λ a. (a.end == end) && (a.len == len)) environment.announced)

-- The environments are parts of one, in which each external peer, named by the name of its router and its address,
-- has one identifier and announces one thing for a prefix length: each network takes its own peers' part of it.
pub record AreCommonShapes (left right : List File) (one other : ShapeEnvironment) : Type 0 where
  pub ids : (i j : ℕ) (a b : SessionEnd) → slice_get (external_ends left) i ≡ Some a →
      slice_get (external_ends right) j ≡ Some b → AreWithOne left right a b →
      slice_get one.ids i ≡ slice_get other.ids j
  pub announced : (i j len : ℕ) (a b : SessionEnd) → slice_get (ends_of left) i ≡ Some a →
      slice_get (ends_of right) j ≡ Some b → IsTrue (is_outside a.far) → IsTrue (is_outside b.far) →
      AreWithOne left right a b → shape_over one i len ≡ shape_over other j len
