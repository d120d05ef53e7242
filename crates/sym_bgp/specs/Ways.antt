-- How a route goes on, as a known way and as terms.
use Rattle.std.specs.Prelude.{ℕ, ◌+◌, max}
use Rattle.term_store.specs.Terms.{Reading, at}
use Rattle.term_arith.specs.Bits.{number, ids_end}
use Rattle.bgp_shapes.specs.Crossings.{Crossing}
use Rattle.sym_bgp.specs.declared.parts.SymCrossing.{SymCrossing}
use Rattle.sym_bgp.specs.declared.parts.Way.{Way}

abbrev pub crossing_of : Way → Crossing
crossing_of way = record { may = way.may; own_hop = way.own_hop; reflected = way.reflected; peer = way.peer }

abbrev pub crossing_at : Reading → SymCrossing → Crossing
crossing_at w x = record {
  may = at w x.may;
  own_hop = at w x.own_hop;
  reflected = at w x.reflected;
  peer = number w x.peer.nodes.items;
}

abbrev pub crossing_end : SymCrossing → ℕ
crossing_end x = max (max (x.may.0 + 1) (x.own_hop.0 + 1)) (max (x.reflected.0 + 1) (ids_end x.peer.nodes.items))
