-- The interfaces of a router.
use Rattle.std.proofs.Common.{◌≡◌, ℕ, zero, suc, ◌≤◌, true, List, [], ◌∷◌, length, arith}
use Rattle.std.proofs.lemmas.Bool.{and_parts, leb-true}
use Rattle.std.specs.List.{list_all}
use Rattle.std.specs.Prelude.{nat_le}
use Rattle.ios_ast.specs.declared.file.File.{File}
use Rattle.ios_ast.specs.declared.file.TheConstants.{MOST_INTERFACES}
use Rattle.net_interfaces.specs.Limits.{keeps_limits}
use Rattle.question_lang.specs.Naming.{interfaces_at}

-- where the files keep their limits, a router has not too many interfaces
pub few_interfaces : (files : List File) (router : ℕ) → list_all keeps_limits files ≡ true →
    length (interfaces_at files router) ≤ MOST_INTERFACES
few_interfaces [] router limits = omega arith
few_interfaces (file ∷ rest) zero limits =
    let kept = (and_parts (keeps_limits file) _ limits).0 in
    leb-true _ _ (and_parts (nat_le (length file.interfaces) MOST_INTERFACES) _ kept).0
few_interfaces (file ∷ rest) (suc router) limits =
    few_interfaces rest router (and_parts (keeps_limits file) _ limits).1
