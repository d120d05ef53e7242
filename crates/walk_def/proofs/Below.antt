-- Each interface of a network is of one of its routers.
use Rattle.std.proofs.Common.{◌≡◌, ℕ, ◌+◌, ◌<◌, ◌≤◌, Bool, true, false, List, [], ◌∷◌, ◌++◌, length, Option, Some}
use Rattle.std.proofs.Common.{None, refl, arith, ◌∙◌, cond}
use Rattle.std.proofs.lemmas.Bool.{and_from, and_parts, lt-ltb}
use Rattle.std.specs.Prelude.{nat_lt, filter}
use Rattle.std.specs.List.{find, list_all}
use Rattle.std.specs.Option.{option_map_or}
use Rattle.std.proofs.lemmas.List.Folds.{list_all-append}
use Rattle.ios_ast.specs.declared.file.File.{File}
use Rattle.ios_ast.specs.declared.file.Iface.{Iface}
use Rattle.ios_ast.specs.declared.file.IfAddr.{IfAddr}
use Rattle.net_interfaces.specs.declared.interfaces.Addressed.{Addressed}
use Rattle.net_interfaces.specs.Interfaces.{addressed, addressed_from, addressed_routers, addressed_iface}

-- the interface is of a router below the bound
abbrev pub of_router_below : ℕ → Addressed → Bool
of_router_below bound x = nat_lt x.id.router bound

-- lists that pass, one after the other
pub all-append : {A : Type 0} (test : A → Bool) (xs ys : List A) → list_all test xs ≡ true → list_all test ys ≡ true →
    list_all test (xs ++ ys) ≡ true
all-append test xs ys front back = list_all-append test xs ys
    ∙ and_from (list_all test xs) (list_all test ys) front back

one_kept : {A : Type 0} (test : A → Bool) (k : Bool) (x : A) (rest : List A) → test x ≡ true → list_all test rest
    ≡ true →
    list_all test (cond k (x ∷ rest) rest) ≡ true
one_kept test true x rest first others = and_from (test x) (list_all test rest) first others
one_kept test false x rest first others = others

-- what is kept of items that pass passes
pub all-filter : {A : Type 0} (test keep : A → Bool) (xs : List A) → list_all test xs ≡ true
    → list_all test (filter keep xs) ≡ true
all-filter test keep [] h = refl
all-filter test keep (x ∷ xs) h =
    one_kept test (keep x) x (filter keep xs) (and_parts (test x) (list_all test xs) h).0
    (all-filter test keep xs (and_parts (test x) (list_all test xs) h).1)

-- an item that is there passes
abbrev pub PassesIfThere : {A : Type 0} → (A → Bool) → Option A → Type 0
PassesIfThere test None = Unit {0}
PassesIfThere test (Some x) = test x ≡ true

one_found : {A : Type 0} (test : A → Bool) (k : Bool) (x : A) (o : Option A) → test x ≡ true → PassesIfThere test o →
    PassesIfThere test (cond k (Some x) o)
one_found test true x o first others = first
one_found test false x o first others = others

-- what is found among items that pass passes
pub found_passes : {A : Type 0} (test wanted : A → Bool) (xs : List A) → list_all test xs ≡ true
    → PassesIfThere test (find wanted xs)
found_passes test wanted [] h = tt
found_passes test wanted (x ∷ xs) h =
    one_found test (wanted x) x (find wanted xs) (and_parts (test x) (list_all test xs) h).0
    (found_passes test wanted xs (and_parts (test x) (list_all test xs) h).1)

one_address : (bound router at : ℕ) (iface : Iface) (a : Option IfAddr) → router < bound →
    list_all (of_router_below bound)
    (option_map_or (λ x. addressed_iface (record { router = router; at = at }) iface x ∷ []) a []) ≡ true
one_address bound router at iface None h = refl
one_address bound router at iface (Some x) h = and_from (nat_lt router bound) true (lt-ltb router bound h) refl

below-from : (bound router at : ℕ) (interfaces : List Iface) → router < bound →
    list_all (of_router_below bound) (addressed_from router at interfaces) ≡ true
below-from bound router at [] h = refl
below-from bound router at (iface ∷ rest) h =
    all-append (of_router_below bound)
    (option_map_or (λ x. addressed_iface (record { router = router; at = at }) iface x ∷ []) iface.address [])
    (addressed_from router (at + 1) rest)
    (one_address bound router at iface iface.address h) (below-from bound router (at + 1) rest h)

below-routers : (bound router : ℕ) (files : List File) → router + length files ≤ bound →
    list_all (of_router_below bound) (addressed_routers router files) ≡ true
below-routers bound router [] h = refl
below-routers bound router (file ∷ rest) h =
    all-append (of_router_below bound) (addressed_from router 0 file.interfaces) (addressed_routers (router + 1) rest)
    (below-from bound router 0 file.interfaces (omega arith)) (below-routers bound (router + 1) rest (omega arith))

-- every interface of the files
pub below-all : (files : List File) → list_all (of_router_below (length files)) (addressed files) ≡ true
below-all files = below-routers (length files) 0 files (omega arith)
