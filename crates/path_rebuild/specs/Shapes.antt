-- The shapes of routes and announcements whose marks are kept as sets of positions.
use Rattle.std.specs.Prelude.{ℕ, ◌≤◌, ◌%◌, ◌^◌, ◌==◌, ◌&&◌, Bool, length}
use Rattle.route_record.specs.declared.BgpRec.{BgpRec}
use Rattle.route_record.specs.declared.tracked.Shape.{Shape}
use Rattle.route_record.specs.declared.tracked.TheConstants.{MOST_TRACKED}
use Rattle.route_record.specs.declared.tracked.Tracked.{Tracked}
use Rattle.route_record.specs.Origins.{origin_code}
use Rattle.route_shapes.specs.Bgp.{BgpShape, address_number, learnt_number}
use Rattle.bgp_shapes.specs.Candidates.{ShapeAnnouncement}
use Rattle.announced_shapes.specs.Sets.{marks_of, path_of}
use Rattle.path_rebuild.specs.declared.ShapeRec.{ShapeRec}

-- the shape of a route: its plain fields, and what is kept of its lists
abbrev pub route_of : Tracked → ShapeRec → BgpShape
route_of tracked s = record {
  preferences = record {
    weight = s.rec.weight;
    local_pref = s.rec.local_pref;
    med = s.rec.med;
    origin = origin_code s.rec.origin;
  };
  path = path_of tracked.numbers s.shape;
  communities = marks_of (length tracked.communities) s.shape.communities;
  next_hop = s.rec.next_hop.0;
  originator = address_number s.rec.originator;
  from = learnt_number s.rec.from;
  cluster_len = s.shape.cluster_len;
  clusters = marks_of (length tracked.clusters) s.shape.clusters;
}

-- the shape of an announcement of that end for prefixes of that length: metric, origin, path and communities alone
abbrev pub announcement_of : Tracked → ℕ → ℕ → ShapeRec → ShapeAnnouncement
announcement_of tracked end len s = record {
  end = end;
  len = len;
  path = path_of tracked.numbers s.shape;
  med = s.rec.med;
  origin = origin_code s.rec.origin;
  communities = marks_of (length tracked.communities) s.shape.communities;
}

-- so few values are tracked that a set has a bit for each
pub record AreFew (tracked : Tracked) : Type 0 where
  pub communities : length tracked.communities ≤ MOST_TRACKED
  pub numbers : length tracked.numbers ≤ MOST_TRACKED
  pub clusters : length tracked.clusters ≤ MOST_TRACKED

-- the parts of a route, and the shape of its lists, are those that are known
abbrev pub same_numbers : BgpRec → BgpRec → Bool
same_numbers a b =
    ((a.weight == b.weight) && (a.local_pref == b.local_pref))
    && ((a.med == b.med) && (origin_code a.origin == origin_code b.origin))

abbrev pub same_addresses : BgpRec → BgpRec → Bool
same_addresses a b =
    (a.next_hop.0 == b.next_hop.0) && (address_number a.originator == address_number b.originator)

-- sets are compared as far as values are tracked
abbrev pub same_path_sets : Tracked → Shape → Shape → Bool
same_path_sets tracked a b =
    ((a.len == b.len) && (a.first == b.first))
    && ((a.last == b.last) && (a.numbers == b.numbers % 2 ^ length tracked.numbers))

abbrev pub same_peer_lists : BgpRec → BgpRec → Shape → Shape → Bool
same_peer_lists a b own known = (learnt_number a.from == learnt_number b.from) && (own.cluster_len == known.cluster_len)

abbrev pub same_sets : Tracked → Shape → Shape → Bool
same_sets tracked a b =
    (a.communities == b.communities % 2 ^ length tracked.communities)
    && (a.clusters == b.clusters % 2 ^ length tracked.clusters)

abbrev pub same_known : Tracked → BgpRec → Shape → ShapeRec → Bool
same_known tracked rec own known =
    (same_numbers rec known.rec && same_path_sets tracked own known.shape)
    && ((same_addresses rec known.rec && same_peer_lists rec known.rec own known.shape)
    && same_sets tracked own known.shape)
