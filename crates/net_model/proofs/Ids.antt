-- The identifiers of the routers, by their numbers.
use Rattle.std.proofs.Common.{◌≡◌, ℕ, zero, suc, ◌+◌, ◌<◌, List, [], ◌∷◌, length, refl, ap, ◌∙◌, arith}
use Rattle.std.specs.Prelude.{slice_index_or}
use Rattle.mw_text.specs.declared.address.Addr.{Addr}
use Rattle.ios_ast.specs.declared.file.File.{File}
use Rattle.net_parts.specs.Exports.{router_id}
use Rattle.net_model.specs.Kept.{ids_from}

as_many_from : (files : List File) (router : ℕ) (rest : List File) → length (ids_from files router rest) ≡ length rest
as_many_from files router [] = refl
as_many_from files router (file ∷ rest) = ap suc (as_many_from files (router + 1) rest)

-- there is one for each router
pub as_many : (files : List File) (ids : List Addr) → ids ≡ ids_from files 0 files → length ids ≡ length files
as_many files ids all = ap length all ∙ as_many_from files 0 files

id_from : (files : List File) (router k : ℕ) (rest : List File) (other : Addr) → k < length rest →
    slice_index_or (ids_from files router rest) k other ≡ router_id files (router + k)
id_from files router k [] other below = absurd (omega (arith, below))
id_from files router zero (file ∷ rest) other below = ap (router_id files) (omega arith)
id_from files router (suc k) (file ∷ rest) other below =
    let place : (router + 1) + k ≡ router + suc k = omega arith in
    id_from files (router + 1) k rest other (omega (arith, below)) ∙ ap (router_id files) place

-- and it is that of the router
pub id_at : (files : List File) (ids : List Addr) (router : ℕ) (other : Addr) → ids ≡ ids_from files 0 files →
    router < length files → slice_index_or ids router other ≡ router_id files router
id_at files ids router other all below =
    ap (λ xs. slice_index_or xs router other) all ∙ id_from files 0 router files other below
    ∙ ap (router_id files) from_zero
  where
    from_zero : 0 + router ≡ router
    from_zero = omega arith
