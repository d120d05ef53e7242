-- What route maps see of a record, and what they leave.
use Rattle.std.specs.Prelude.{◌≡◌}
use Rattle.ios_ast.specs.Setting.{Attributes}
use Rattle.route_record.specs.declared.MapRec.{MapRec}
use Rattle.route_record.specs.Origins.{origin_code}

-- what route maps see of a record and may set
abbrev pub attributes_of : MapRec → Attributes
attributes_of rec = record {
  weight = rec.bgp.weight;
  local_pref = rec.bgp.local_pref;
  med = rec.bgp.med;
  origin = origin_code rec.bgp.origin;
  path = rec.bgp.path;
  communities = rec.bgp.communities;
  type1 = rec.type1;
}

-- what route maps never set is the same in both records
pub record KeepsRest (a b : MapRec) : Type 0 where
  pub from : b.bgp.from ≡ a.bgp.from
  pub next_hop : b.bgp.next_hop ≡ a.bgp.next_hop
  pub originator : b.bgp.originator ≡ a.bgp.originator
  pub clusters : b.bgp.clusters ≡ a.bgp.clusters
