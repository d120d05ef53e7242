-- OSPF routes as terms, one after another.
use Rattle.std.specs.Prelude.{ℕ, max, List, [], ◌∷◌, Option, Some, None}
use Rattle.route_record.specs.declared.OspfRec.{OspfRec}
use Rattle.net_parts.specs.OspfRoutes.{better_of}
use Rattle.sym_policy.specs.declared.records.SymOspf.{SymOspf}
use Rattle.sym_policy.specs.Held.{ospf_end}

-- the least size of a store that has all nodes of the routes
abbrev pub routes_end : List SymOspf → ℕ
routes_end [] = 0
routes_end (s ∷ rest) = max (ospf_end s) (routes_end rest)

-- the better one of the best so far and the next, where there is one
abbrev pub kept : Option OspfRec → Option OspfRec → Option OspfRec
kept best None = best
kept best (Some next) = better_of best next
