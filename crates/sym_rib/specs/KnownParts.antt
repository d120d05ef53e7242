-- What a reading makes of the path and the communities of a held route.
use Rattle.std.specs.Prelude.{◌≡◌, ℕ, ◌+◌, ◌≤◌, max}
use Rattle.sym_policy.specs.declared.records.SymBgp.{SymBgp}
use Rattle.sym_policy.specs.declared.records.SymMapRec.{SymMapRec}
use Rattle.sym_policy.specs.MapRecs.{attributes_at, map_rec_end}
use Rattle.sym_policy.specs.Routes.{path_at, path_end}
use Rattle.sym_policy.specs.SameNodes.{HasPath}
use Rattle.sym_rib.specs.declared.known_parts.HeldParts.{HeldParts}
use Rattle.term_store.specs.declared.NodeId.{NodeId}
use Rattle.term_store.specs.Terms.{Reading}
use Rattle.term_arith.specs.Bits.{bits, ids_end}

-- path and communities have the nodes of the route's
pub record HasPartsOf (held : SymBgp) (s : HeldParts) : Type 0 where
  pub path : HasPath held.len held.first held.last held.numbers s.path
  pub communities : s.communities.nodes.items ≡ held.communities.nodes.items

abbrev pub held_parts_end : NodeId → HeldParts → ℕ
held_parts_end there s = max (there.0 + 1) (max (path_end s.path) (ids_end s.communities.nodes.items))

-- the record `made` is `rec` with that path and those communities, which is there where the node is true
pub record PutsParts (rec : SymMapRec) (there : NodeId) (s : HeldParts) (made : SymMapRec) : Type 0 where
  pub valid : made.bgp.valid ≡ there
  pub nodes : (n : ℕ) → map_rec_end rec ≤ n → held_parts_end there s ≤ n → map_rec_end made ≤ n
  pub numbers : made.bgp.numbers.nodes.items ≡ s.path.numbers.nodes.items
  pub communities : made.bgp.communities.nodes.items ≡ s.communities.nodes.items
  pub value : (w : Reading) → attributes_at w made ≡ record (attributes_at w rec)
      { path = path_at w s.path; communities = bits w s.communities.nodes.items }
