-- The shape of a BGP route.
use Rattle.std.specs.Prelude.{ℕ, ◌+◌, ◌^◌, Bool, List, Option, Some, None, length, map}
use Rattle.mw_text.specs.declared.address.Addr.{Addr}
use Rattle.ios_ast.specs.Deciding.{carries}
use Rattle.route_record.specs.declared.BgpRec.{BgpRec}
use Rattle.route_record.specs.declared.Learnt.{Learnt}
use Rattle.route_record.specs.declared.Learnt.TheVariants.{Local, Peer}
use Rattle.route_record.specs.declared.tracked.Tracked.{Tracked}
use Rattle.route_record.specs.Origins.{origin_code}
use Rattle.route_record.specs.Shape.{has_address, saturated}
use Rattle.route_shapes.specs.Shapes.{PathShape, Preferences, path_shape}

-- what is kept of a BGP route: its lists by their shape. An address that may be missing is 0 without one, and else
-- stands above 2^32
pub record BgpShape : Type 0 where
  pub preferences : Preferences
  pub path : PathShape
  pub communities : List Bool
  pub next_hop : ℕ
  pub originator : ℕ
  pub from : ℕ
  pub cluster_len : ℕ
  pub clusters : List Bool

abbrev pub address_number : Option Addr → ℕ
address_number None = 0
address_number (Some a) = 2 ^ 32 + a.0

abbrev pub learnt_number : Learnt → ℕ
learnt_number Local = 0
learnt_number (Peer a) = 2 ^ 32 + a.0

-- the shape of a BGP route
abbrev pub bgp_shape : Tracked → BgpRec → BgpShape
bgp_shape tracked r = record {
  preferences = record { weight = r.weight; local_pref = r.local_pref; med = r.med; origin = origin_code r.origin };
  path = path_shape tracked.numbers r.path;
  communities = map (carries r.communities) tracked.communities;
  next_hop = r.next_hop.0;
  originator = address_number r.originator;
  from = learnt_number r.from;
  cluster_len = saturated (length r.clusters);
  clusters = map (has_address r.clusters) tracked.clusters;
}
