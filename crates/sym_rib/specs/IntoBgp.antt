-- What a line of a BGP process brings in, and with which metric.
use Rattle.std.specs.Prelude.{ℕ, ◌+◌, max, [], if◌then◌else◌, Option, Some, None}
use Rattle.ios_ast.specs.Setting.{Attributes}
use Rattle.route_record.specs.declared.BgpRec.{BgpRec}
use Rattle.route_record.specs.declared.Learnt.TheVariants.{Local}
use Rattle.route_record.specs.Origins.{origin_of_code}
use Rattle.sym_rib.specs.declared.metric.SymMetric.{SymMetric}
use Rattle.term_store.specs.Terms.{Reading, at}
use Rattle.term_arith.specs.Bits.{number, ids_end}

-- the metric, where it is there
abbrev pub metric_of : Reading → SymMetric → Option ℕ
metric_of w s = if at w s.valid then Some (number w s.value.nodes.items) else None

-- the least size of a store that has all nodes of the metric
abbrev pub metric_end : SymMetric → ℕ
metric_end s = max (s.valid.0 + 1) (ids_end s.value.nodes.items)

-- a local route with these attributes: it has no next hop, no originator and no clusters
abbrev pub local_with : Attributes → BgpRec
local_with c = record {
  from = Local;
  weight = c.weight;
  local_pref = c.local_pref;
  path = c.path;
  origin = origin_of_code c.origin;
  med = c.med;
  communities = c.communities;
  next_hop = record { 0 = 0 };
  originator = None;
  clusters = [];
}
