-- The same nodes, number by number: in a copy of a route, in what route maps see of a record, and in what they leave.
use Rattle.std.specs.Prelude.{◌≡◌}
use Rattle.term_store.specs.declared.NodeId.{NodeId}
use Rattle.term_arith.specs.declared.Bits.{Bits}
use Rattle.sym_policy.specs.declared.parts.SymPath.{SymPath}
use Rattle.sym_policy.specs.declared.parts.SymPreferences.{SymPreferences}
use Rattle.sym_policy.specs.declared.parts.SymRest.{SymRest}
use Rattle.sym_policy.specs.declared.parts.SymRoute.{SymRoute}
use Rattle.sym_policy.specs.declared.records.SymBgp.{SymBgp}
use Rattle.sym_policy.specs.declared.records.SymMapRec.{SymMapRec}

-- the path has these: its length, its first number, its last one and its marks
pub record HasPath (a b c d : Bits) (s : SymPath) : Type 0 where
  pub len : s.len.nodes.items ≡ a.nodes.items
  pub first : s.first.nodes.items ≡ b.nodes.items
  pub last : s.last.nodes.items ≡ c.nodes.items
  pub numbers : s.numbers.nodes.items ≡ d.nodes.items

-- and these: weight, local preference, metric and origin
pub record HasPreferences (a b c d : Bits) (s : SymPreferences) : Type 0 where
  pub weight : s.weight.nodes.items ≡ a.nodes.items
  pub local_pref : s.local_pref.nodes.items ≡ b.nodes.items
  pub med : s.med.nodes.items ≡ c.nodes.items
  pub origin : s.origin.nodes.items ≡ d.nodes.items

abbrev pub SamePath : SymPath → SymPath → Type 0
SamePath a b = HasPath a.len a.first a.last a.numbers b

abbrev pub SamePreferences : SymPreferences → SymPreferences → Type 0
SamePreferences a b = HasPreferences a.weight a.local_pref a.med a.origin b

pub record SameRoute (a b : SymRoute) : Type 0 where
  pub preferences : SamePreferences a.preferences b.preferences
  pub path : SamePath a.path b.path
  pub communities : b.communities.nodes.items ≡ a.communities.nodes.items
  pub type1 : b.type1 ≡ a.type1

-- the route is what route maps see of the record
pub record IsSeen (rec : SymMapRec) (s : SymRoute) : Type 0 where
  pub preferences : HasPreferences rec.bgp.weight rec.bgp.local_pref rec.bgp.med rec.bgp.origin s.preferences
  pub path : HasPath rec.bgp.len rec.bgp.first rec.bgp.last rec.bgp.numbers s.path
  pub communities : s.communities.nodes.items ≡ rec.bgp.communities.nodes.items
  pub type1 : s.type1 ≡ rec.type1

-- the numbers are what route maps never set of the record
pub record IsRest (bgp : SymBgp) (s : SymRest) : Type 0 where
  pub next_hop : s.next_hop.nodes.items ≡ bgp.next_hop.nodes.items
  pub originator : s.originator.nodes.items ≡ bgp.originator.nodes.items
  pub from : s.from.nodes.items ≡ bgp.from.nodes.items
  pub cluster_len : s.cluster_len.nodes.items ≡ bgp.cluster_len.nodes.items
  pub clusters : s.clusters.nodes.items ≡ bgp.clusters.nodes.items

-- the record is put together from these, and is there where the node is true
pub record IsJoined (there : NodeId) (route : SymRoute) (others : SymRest) (rec : SymMapRec) : Type 0 where
  pub valid : rec.bgp.valid ≡ there
  pub seen : IsSeen rec route
  pub rest : IsRest rec.bgp others
