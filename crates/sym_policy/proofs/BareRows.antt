-- Rows of marks of which none is set.
use Rattle.std.proofs.Common.{◌≡◌, ℕ, zero, suc, false, List, [], ◌∷◌, length, map, replicate, refl, ap}
use Rattle.mw_text.specs.declared.address.Addr.{Addr}
use Rattle.ios_ast.specs.Deciding.{carries}
use Rattle.route_record.specs.Shape.{saturated}
use Rattle.route_record.specs.Shape.{has_address}
use Rattle.route_record.proofs.Saturated.{saturated-none}

-- an empty path has no length
pub no_length : saturated 0 ≡ 0
no_length = saturated-none

-- an empty list carries no tracked value
pub no_numbers : (tracked : List ℕ) → map (carries []) tracked ≡ replicate (length tracked) false
no_numbers [] = refl
no_numbers (t ∷ ts) = ap (λ bs. false ∷ bs) (no_numbers ts)

pub no_clusters : (tracked : List Addr) → map (has_address []) tracked ≡ replicate (length tracked) false
no_clusters [] = refl
no_clusters (t ∷ ts) = ap (λ bs. false ∷ bs) (no_clusters ts)

pub ruleset empty_path = (no_numbers, saturated-none)
