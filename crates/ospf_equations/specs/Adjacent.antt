-- What a router is offered over adjacencies, each with the node that says whether it is up.
use Rattle.std.specs.Prelude.{ℕ, ◌+◌, List, Option, None, if◌then◌else◌}
use Rattle.std.specs.List.{filter_map}
use Rattle.mw_text.specs.declared.address.Prefix.{Prefix}
use Rattle.route_record.specs.declared.OspfRec.{OspfRec}
use Rattle.route_record.specs.declared.Tables.{Tables}
use Rattle.net_parts.specs.OspfRoutes.{offer_over}
use Rattle.sym_rib.specs.Into.{list_end}
use Rattle.term_store.specs.Terms.{Reading, at}
use Rattle.ospf_equations.specs.declared.adjacent.SymAdjacency.{SymAdjacency}

-- what is offered over one, where it is up
abbrev pub offer_read : Reading → Tables → Prefix → SymAdjacency → Option OspfRec
offer_read w tables p s = if at w s.up then offer_over tables p s.adjacency else None

-- what is offered over all of them
unfoldable pub offers_read : Reading → Tables → Prefix → List SymAdjacency → List OspfRec
offers_read w tables p over = filter_map (offer_read w tables p) over

-- the least size of a store that has all of their nodes
abbrev pub ups_end : List SymAdjacency → ℕ
ups_end over = list_end (λ (s : SymAdjacency). s.up.0 + 1) over
