-- Routes that are known but for their metric.
use Rattle.std.specs.Prelude.{◌≡◌, ℕ, Bool, [], map}
use Rattle.ios_ast.specs.Setting.{Attributes}
use Rattle.route_record.specs.declared.tracked.Tracked.{Tracked}
use Rattle.route_record.specs.Shape.{has_address}
use Rattle.sym_policy.specs.declared.records.SymMapRec.{SymMapRec}
use Rattle.term_store.specs.Terms.{Reading}
use Rattle.term_arith.specs.Bits.{bits, number}

-- what route maps see of a route with an empty path and no communities
abbrev pub known_attributes : ℕ → ℕ → ℕ → Bool → ℕ → Attributes
known_attributes weight local_pref origin type1 med = record {
  weight = weight;
  local_pref = local_pref;
  med = med;
  origin = origin;
  path = [];
  communities = [];
  type1 = type1;
}

-- the record has no next hop, no originator and no clusters, and was learnt from no peer
pub record IsOwn (w : Reading) (tracked : Tracked) (rec : SymMapRec) : Type 0 where
  pub next_hop : number w rec.bgp.next_hop.nodes.items ≡ 0
  pub originator : number w rec.bgp.originator.nodes.items ≡ 0
  pub from : number w rec.bgp.from.nodes.items ≡ 0
  pub cluster_len : number w rec.bgp.cluster_len.nodes.items ≡ 0
  pub clusters : bits w rec.bgp.clusters.nodes.items ≡ map (has_address []) tracked.clusters
