-- Whether a route is held, by shapes (RFC 4271, section 9.1.2).
use Rattle.std.specs.Prelude.{◌≡◌, ◌==◌, ◌&&◌, Bool, true, false, List, [], ◌∷◌, Any, length, Option, Some, None}
use Rattle.std.specs.Prelude.{MatchOption}
use Rattle.std.specs.List.{list_any}
use Rattle.route_record.specs.declared.tracked.Tracked.{Tracked}
use Rattle.route_record.specs.Shape.{marked_number}
use Rattle.net_parts.specs.Decisions.{Candidate, survivors_by}
use Rattle.route_shapes.specs.Bgp.{BgpShape, bgp_shape}
use Rattle.bgp_shapes.specs.Candidates.{ShapeCandidate, shape_key}

-- two shapes are the same, part by part. Rows of marks are compared as sets are, by their numbers
abbrev pub same_preferences : BgpShape → BgpShape → Bool
same_preferences a b =
    ((a.preferences.weight == b.preferences.weight) && (a.preferences.local_pref == b.preferences.local_pref))
    && ((a.preferences.med == b.preferences.med) && (a.preferences.origin == b.preferences.origin))

abbrev pub same_path : BgpShape → BgpShape → Bool
same_path a b =
    ((a.path.len == b.path.len) && (a.path.first == b.path.first))
    && ((a.path.last == b.path.last) && (marked_number a.path.numbers == marked_number b.path.numbers))

abbrev pub same_peers : BgpShape → BgpShape → Bool
same_peers a b =
    ((a.next_hop == b.next_hop) && (a.originator == b.originator))
    && ((a.from == b.from) && (a.cluster_len == b.cluster_len))

abbrev pub same_marks : BgpShape → BgpShape → Bool
same_marks a b =
    (marked_number a.communities == marked_number b.communities)
    && (marked_number a.clusters == marked_number b.clusters)

unfoldable pub same_shape : BgpShape → BgpShape → Bool
same_shape a b = (same_preferences a b && same_path a b) && (same_peers a b && same_marks a b)

-- there is a mark for each tracked value
pub record HasMarks (tracked : Tracked) (s : BgpShape) : Type 0 where
  pub numbers : length s.path.numbers ≡ length tracked.numbers
  pub communities : length s.communities ≡ length tracked.communities
  pub clusters : length s.clusters ≡ length tracked.clusters

abbrev pub is_empty : {X : Type 0} → List X → Bool
is_empty [] = true
is_empty (x ∷ xs) = false

-- the held route has the shape of a survivor, and there is none exactly where there is no candidate
unfoldable pub held_shape : Bool → Bool → List ShapeCandidate → Option BgpShape → Bool
held_shape always compare_id candidates None = is_empty candidates
held_shape always compare_id candidates (Some s) =
    list_any (λ c. same_shape c.rec s) (survivors_by shape_key always compare_id candidates)

-- the same of routes: some survivor has the held route's shape
abbrev pub IsHeldByShape : Tracked → List Candidate → List Candidate → Option BgpShape → Type 0
IsHeldByShape tracked candidates left held =
    MatchOption held (candidates ≡ []) (λ s. Any (λ c. bgp_shape tracked c.rec ≡ s) left)
