-- Rows of symbolic routes and of candidates.
use Rattle.std.proofs.Common.{◌≡◌, List, [], ◌∷◌, ◌++◌, max, arith}
use Rattle.sym_policy.specs.declared.records.SymOspf.{SymOspf}
use Rattle.sym_policy.specs.Held.{ospf_end}
use Rattle.sym_ospf.specs.Routes.{routes_end}

-- the end of the routes with one more
pub routes_end_push : (xs : List SymOspf) (x : SymOspf) → routes_end (xs ++ x ∷ []) ≡ max (routes_end xs) (ospf_end x)
routes_end_push [] x = omega arith
routes_end_push (y ∷ xs) x = let rest = routes_end_push xs x in omega arith
