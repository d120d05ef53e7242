-- What two networks have in common of what is around them: the announcements of external peers, and failed links.
use Rattle.std.specs.Prelude.{◌≡◌, ◌≤◌, ◌⊎◌, ℕ, ◌==◌, ◌&&◌, List, All, Contains, IsTrue, Option, Some, length}
use Rattle.std.specs.Prelude.{option_map}
use Rattle.std.specs.Prelude.{slice_get}
use Rattle.std.specs.List.{find}
use Rattle.mw_text.specs.declared.address.Prefix.{Prefix}
use Rattle.ios_ast.specs.declared.file.File.{File}
use Rattle.route_record.specs.declared.Announcement.{Announcement}
use Rattle.route_record.specs.declared.Environment.{Environment}
use Rattle.route_record.specs.declared.Failures.{Failures}
use Rattle.net_parts.specs.declared.links.Link.{Link}
use Rattle.net_parts.specs.declared.sessions.SessionEnd.{SessionEnd}
use Rattle.net_parts.specs.Sessions.{ends_of, external_ends, is_outside}
use Rattle.net_parts.specs.World.{ascends, links_of}
use Rattle.paired_nets.specs.Peers.{AreWithOne}

-- ---- environments

-- an announcement, whatever the place of its end
abbrev pub unplaced : Announcement → Announcement
unplaced a = record a { end = 0 }

-- what the external peer at an end announces for a prefix length, whatever the place of the end
abbrev pub announced_over : Environment → ℕ → ℕ → Option Announcement
announced_over environment end len =
    option_map unplaced (find (λ a. (a.end == end) && (a.len == len)) environment.announced)

-- The environments are parts of one, in which each external peer, named by the name of its router and its address,
-- has one identifier and announces one thing for a prefix length: each network takes its own peers' part of it.
pub record AreCommon (left right : List File) (one other : Environment) : Type 0 where
  pub ids : (i j : ℕ) (a b : SessionEnd) → slice_get (external_ends left) i ≡ Some a →
      slice_get (external_ends right) j ≡ Some b → AreWithOne left right a b →
      slice_get one.ids i ≡ slice_get other.ids j
  pub announced : (i j len : ℕ) (a b : SessionEnd) → slice_get (ends_of left) i ≡ Some a →
      slice_get (ends_of right) j ≡ Some b → IsTrue (is_outside a.far) → IsTrue (is_outside b.far) →
      AreWithOne left right a b → announced_over one i len ≡ announced_over other j len

-- ---- failures

-- the prefix is that of a link
abbrev pub IsLink : List File → Prefix → Type 0
IsLink files p = (at : ℕ) × (link : Link) × (slice_get (links_of files) at ≡ Some link) × (link.prefix ≡ p)

-- the failed links of a network are those of its links whose prefix is one of these
pub record AreThoseOf (files : List File) (failed : List Prefix) (failures : Failures) : Type 0 where
  pub ascending : IsTrue (ascends failures.links)
  pub sound : (at : ℕ) → Contains failures.links at →
      (link : Link) × (slice_get (links_of files) at ≡ Some link) × Contains failed link.prefix
  pub whole : (at : ℕ) (link : Link) → slice_get (links_of files) at ≡ Some link → Contains failed link.prefix →
      Contains failures.links at

-- the failed links of both are their parts of one set of at most k prefixes of links of either network
pub record AreCommonFailures (left right : List File) (k : ℕ) (one other : Failures) : Type 0 where
  pub failed : List Prefix
  pub few : length failed ≤ k
  pub links : All (λ p. IsLink left p ⊎ IsLink right p) failed
  pub on_left : AreThoseOf left failed one
  pub on_right : AreThoseOf right failed other
