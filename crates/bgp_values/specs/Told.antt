-- The shape of a route as its fields hold it: numbers that stand for no address or for no origin are read as the
-- nearest that do.
use Rattle.std.specs.Prelude.{ℕ, ◌≤◌, length, if◌then◌else◌}
use Rattle.route_record.specs.declared.tracked.Shape.{Shape}
use Rattle.route_record.specs.declared.tracked.TheConstants.{MOST_TRACKED}
use Rattle.route_record.specs.Shape.{marked_number}
use Rattle.bgp_variables.specs.declared.rooms.BgpRoom.{BgpRoom}
use Rattle.route_record.specs.Origins.{origin_code, origin_of_code}
use Rattle.route_shapes.specs.Bgp.{BgpShape}
use Rattle.bgp_shapes.specs.Messages.{lacks_address}

-- a number below those of addresses stands for none
abbrev pub plain_address : ℕ → ℕ
plain_address n = if lacks_address n then 0 else n

-- the shape of each real route is so already
abbrev pub as_told : BgpShape → BgpShape
as_told s = record s {
  preferences = record s.preferences { origin = origin_code (origin_of_code s.preferences.origin) };
  from = plain_address s.from;
  originator = plain_address s.originator;
}

-- the shape of a route's lists that variables say, each row of marks as a set
abbrev pub lists_of : BgpShape → Shape
lists_of s = record {
  len = s.path.len;
  first = s.path.first;
  last = s.path.last;
  numbers = marked_number s.path.numbers;
  communities = marked_number s.communities;
  cluster_len = s.cluster_len;
  clusters = marked_number s.clusters;
}

-- so few marks that a set has a bit for each
pub record HasFewMarks (room : BgpRoom) : Type 0 where
  pub numbers : length room.path.numbers ≤ MOST_TRACKED
  pub communities : length room.communities ≤ MOST_TRACKED
  pub clusters : length room.clusters ≤ MOST_TRACKED
