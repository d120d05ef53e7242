-- The parts of a shape that route maps see, and the rest, by variables.
use Rattle.std.specs.Prelude.{◌≡◌, ℕ, ◌+◌, Bool, length}
use Rattle.route_shapes.specs.Shapes.{RouteShape}
use Rattle.slot_places.specs.Values.{field_width}
use Rattle.sym_policy.specs.declared.parts.SymRoute.{SymRoute}
use Rattle.sym_policy.specs.declared.records.SymBgp.{SymBgp}
use Rattle.sym_bgp.specs.Joined.{RestShape}
use Rattle.bgp_variables.specs.declared.rooms.BgpRoom.{BgpRoom}
use Rattle.bgp_variables.specs.Marks.{marks_from, marks_width}
use Rattle.bgp_variables.specs.Shapes.{path_from, path_width, preferences_from, preferences_width, told_from}

-- what route maps see
abbrev pub seen_from : BgpRoom → Bool → (ℕ → Bool) → ℕ → RouteShape
seen_from room type1 v from = record {
  preferences = preferences_from room.preferences v from;
  path = path_from room.path v (from + preferences_width room.preferences);
  communities =
      marks_from room.communities v (from + preferences_width room.preferences + path_width room.path);
  type1 = type1;
}

abbrev pub seen_width : BgpRoom → ℕ
seen_width room =
    preferences_width room.preferences + path_width room.path + marks_width room.communities

-- and what they never set, with the number of the peer
abbrev pub rest_from : BgpRoom → ℕ → (ℕ → Bool) → ℕ → RestShape
rest_from room peer v from =
    let originator = from + field_width room.next_hop in
    let cluster_len = originator + field_width room.originator in
    let clusters = cluster_len + field_width room.cluster_len in
    record {
      next_hop = told_from room.next_hop v from;
      originator = told_from room.originator v originator;
      from = peer;
      cluster_len = told_from room.cluster_len v cluster_len;
      clusters = marks_from room.clusters v clusters;
    }

abbrev pub rest_width : BgpRoom → ℕ
rest_width room =
    field_width room.next_hop + field_width room.originator + field_width room.cluster_len
    + marks_width room.clusters

-- there is one node for each mark of the room
pub record HasSeenMarks (room : BgpRoom) (s : SymRoute) : Type 0 where
  pub numbers : length s.path.numbers.nodes.items ≡ length room.path.numbers
  pub communities : length s.communities.nodes.items ≡ length room.communities

pub record HasMarksOf (room : BgpRoom) (s : SymBgp) : Type 0 where
  pub numbers : length s.numbers.nodes.items ≡ length room.path.numbers
  pub communities : length s.communities.nodes.items ≡ length room.communities
  pub clusters : length s.clusters.nodes.items ≡ length room.clusters
