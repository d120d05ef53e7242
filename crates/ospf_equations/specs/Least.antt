-- What internal routes cost at least: failed links only make them dearer (RFC 2328, section 16.1).
use Rattle.std.specs.Prelude.{ℕ, ◌+◌, ◌&&◌, ◌||◌, Bool, false, not, nat_lt, List, Option, slice_index_or}
use Rattle.std.specs.Option.{option_map_or}
use Rattle.mw_text.specs.declared.address.Prefix.{Prefix}
use Rattle.mw_text.specs.Address.{same_prefix}
use Rattle.mw_text.specs.Members.{all_below}
use Rattle.route_record.specs.declared.OspfRec.{OspfRec}
use Rattle.route_record.specs.declared.Tables.{Tables}
use Rattle.route_record.specs.Places.{slot_at}
use Rattle.net_parts.specs.declared.adjacencies.Adjacency.{Adjacency}
use Rattle.net_parts.specs.declared.ospf.OspfInterface.{OspfInterface}
use Rattle.net_parts.specs.Ospf.{advertisement}
use Rattle.sym_ospf.specs.Rows.{is_internal}

-- what a router's route is said to cost at least, by router; 0 where nothing is said
abbrev pub least_of : List ℕ → ℕ → ℕ
least_of least router = slice_index_or least router 0

-- it costs the near router of the adjacency no more than the far one and the link together
abbrev pub rises_over : List ℕ → Adjacency → Bool
rises_over least a = not (nat_lt (least_of least a.to.router + a.cost) (least_of least a.from.router))

-- and no more than an interface of the router that advertises the prefix
abbrev pub begins_at : List ℕ → Prefix → OspfInterface → Bool
begins_at least p x =
    not (same_prefix (advertisement x) p) || not (nat_lt x.cost (least_of least x.at.id.router))

-- there is a route, it is internal, and it costs less than that
abbrev pub is_cheaper : ℕ → Option OspfRec → Bool
is_cheaper most o = option_map_or (λ r. is_internal r.kind && nat_lt r.cost most) o false

-- the router holds such a route for the prefix
abbrev pub holds_cheaper : Tables → Prefix → ℕ → ℕ → Bool
holds_cheaper tables p most router =
    option_map_or (λ slot. is_cheaper most slot.ospf) (slot_at tables router p.len) false

-- none of so many routers holds one that costs less than it is said to cost at least
abbrev pub none_cheaper : Tables → Prefix → List ℕ → ℕ → Bool
none_cheaper tables p least = all_below (λ router. not (holds_cheaper tables p (least_of least router) router))
