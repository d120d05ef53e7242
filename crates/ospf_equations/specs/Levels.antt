-- Limits of what an OSPF route costs.
use Rattle.std.specs.Prelude.{ℕ, ◌==◌, ◌&&◌, Bool, false, not, nat_lt, Option}
use Rattle.std.specs.Option.{option_map_or}
use Rattle.mw_text.specs.declared.address.Prefix.{Prefix}
use Rattle.route_record.specs.declared.OspfRec.{OspfRec}
use Rattle.net_parts.specs.OspfRoutes.{kind_rank}

-- the route is internal and costs no more than that
abbrev pub is_within : ℕ → OspfRec → Bool
is_within most r = (kind_rank r.kind == 0) && not (nat_lt most r.cost)

-- there is a route, and it is within the limit
abbrev pub has_within : ℕ → Option OspfRec → Bool
has_within most o = option_map_or (is_within most) o false

-- some prefix of that length: which routers hold a route at a length, and which offer it, depends on nothing else
abbrev pub of_length : ℕ → Prefix
of_length len = record { addr = record { 0 = 0 }; len = len }
