-- The end of a row of candidates.
use Rattle.std.proofs.Common.{◌≡◌, List, [], ◌∷◌, ◌++◌, max, arith}
use Rattle.sym_bgp.specs.declared.parts.SymCand.{SymCand}
use Rattle.sym_bgp.specs.Candidates.{candidate_end, candidates_end}

-- with one more
pub candidates_end_push : (xs : List SymCand) (x : SymCand) →
    candidates_end (xs ++ x ∷ []) ≡ max (candidates_end xs) (candidate_end x)
candidates_end_push [] x = omega arith
candidates_end_push (y ∷ xs) x = let rest = candidates_end_push xs x in omega arith
