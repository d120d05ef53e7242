-- What a reading makes of what the steps of the decision process compare.
use Rattle.std.specs.Prelude.{◌≡◌, ℕ, ◌+◌, ◌≤◌, max, Bool, List, [], ◌∷◌, length, map}
use Rattle.term_store.specs.Terms.{Reading, at}
use Rattle.term_arith.specs.declared.Bits.{Bits}
use Rattle.term_arith.specs.Bits.{number, ids_end}
use Rattle.net_parts.specs.declared.steps.Step.{Step}
use Rattle.net_parts.specs.declared.steps.Step.TheVariants.{Weight, Preference, Origination, PathLength, Origin, Med}
use Rattle.net_parts.specs.declared.steps.Step.TheVariants.{Session, Cost, Identifier, Clusters, Address}
use Rattle.net_parts.specs.Decisions.{Key}
use Rattle.bgp_shapes.specs.Numbers.{compared_number}
use Rattle.sym_bgp.specs.declared.parts.SymKey.{SymKey}
use Rattle.sym_bgp.specs.declared.parts.SymMark.{SymMark}
use Rattle.sym_bgp.specs.declared.parts.SymRank.{SymRank}
use Rattle.sym_bgp.specs.declared.parts.SymReach.{SymReach}
use Rattle.sym_bgp.specs.declared.parts.SymTie.{SymTie}

-- the values of the three groups
pub record Rank : Type 0 where
  pub weight : ℕ
  pub local_pref : ℕ
  pub local : Bool
  pub len : ℕ

pub record Reach : Type 0 where
  pub origin : ℕ
  pub first : ℕ
  pub med : ℕ
  pub external : Bool

pub record Tie : Type 0 where
  pub cost : ℕ
  pub id : ℕ
  pub clusters : ℕ
  pub address : ℕ

abbrev pub rank_at : Reading → SymRank → Rank
rank_at w k = record {
  weight = number w k.weight.nodes.items;
  local_pref = number w k.local_pref.nodes.items;
  local = at w k.local.node;
  len = number w k.len.nodes.items;
}

abbrev pub reach_at : Reading → SymReach → Reach
reach_at w k = record {
  origin = number w k.origin.nodes.items;
  first = number w k.first.nodes.items;
  med = number w k.med.nodes.items;
  external = at w k.external.node;
}

abbrev pub tie_at : Reading → SymTie → Tie
tie_at w k = record {
  cost = number w k.cost.nodes.items;
  id = number w k.id.nodes.items;
  clusters = number w k.clusters.nodes.items;
  address = number w k.address.nodes.items;
}

-- the key of these
abbrev pub key_of_parts : Rank → Reach → Tie → Key
key_of_parts rank reach tie = record {
  weight = rank.weight;
  local_pref = rank.local_pref;
  local = rank.local;
  len = rank.len;
  origin = reach.origin;
  first = reach.first;
  med = reach.med;
  external = reach.external;
  cost = tie.cost;
  id = tie.id;
  clusters = tie.clusters;
  address = tie.address;
}

abbrev pub key_at : Reading → SymKey → Key
key_at w k = key_of_parts (rank_at w k.rank) (reach_at w k.reach) (tie_at w k.tie)

abbrev pub keys_at : Reading → List SymKey → List Key
keys_at w ks = map (key_at w) ks

-- the least size of a store that has all of their nodes
abbrev pub mark_end : SymMark → ℕ
mark_end m = max (m.node.0 + 1) (ids_end m.bit.nodes.items)

abbrev pub rank_end : SymRank → ℕ
rank_end k =
    max (max (ids_end k.weight.nodes.items) (ids_end k.local_pref.nodes.items))
    (max (mark_end k.local) (ids_end k.len.nodes.items))

abbrev pub reach_end : SymReach → ℕ
reach_end k =
    max (max (ids_end k.origin.nodes.items) (ids_end k.first.nodes.items))
    (max (ids_end k.med.nodes.items) (mark_end k.external))

abbrev pub tie_end : SymTie → ℕ
tie_end k =
    max (max (ids_end k.cost.nodes.items) (ids_end k.id.nodes.items))
    (max (ids_end k.clusters.nodes.items) (ids_end k.address.nodes.items))

abbrev pub key_end : SymKey → ℕ
key_end k = max (rank_end k.rank) (max (reach_end k.reach) (tie_end k.tie))

abbrev pub keys_end : List SymKey → ℕ
keys_end [] = 0
keys_end (k ∷ ks) = max (key_end k) (keys_end ks)

-- how many bits the number has that a step compares
abbrev pub compared_width : Step → ℕ
compared_width Weight = 32
compared_width Preference = 32
compared_width Origination = 1
compared_width PathLength = 32
compared_width Origin = 2
compared_width Med = 32
compared_width Session = 1
compared_width Cost = 32
compared_width Identifier = 32
compared_width Clusters = 32
compared_width Address = 32

-- the number is the one that the step compares of the key
pub record IsCompared (s : Step) (k : SymKey) (n : Bits) : Type 0 where
  pub width : length n.nodes.items ≡ compared_width s
  pub within : ids_end n.nodes.items ≤ key_end k
  pub value : (w : Reading) → number w n.nodes.items ≡ compared_number s (key_at w k)
