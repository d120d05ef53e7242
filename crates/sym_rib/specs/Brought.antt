-- What a reading makes of what OSPF takes of a route.
use Rattle.std.specs.Prelude.{ℕ, ◌+◌, max, if◌then◌else◌, Option, Some, None}
use Rattle.route_record.specs.declared.OspfRec.{OspfRec}
use Rattle.net_parts.specs.Origins.{external_record}
use Rattle.sym_rib.specs.declared.brought.SymBrought.{SymBrought}
use Rattle.term_store.specs.Terms.{Reading, at}
use Rattle.term_arith.specs.Bits.{number, ids_end}

-- the external route, where it is there
abbrev pub brought_of : Reading → SymBrought → Option OspfRec
brought_of w s = if at w s.valid then Some (external_record (at w s.type1) (number w s.metric.nodes.items)) else None

-- the least size of a store that has all of its nodes
abbrev pub brought_end : SymBrought → ℕ
brought_end s = max (max (s.valid.0 + 1) (s.type1.0 + 1)) (ids_end s.metric.nodes.items)
