-- The costs of a network's OSPF interfaces and adjacencies are in their range.
use Rattle.std.proofs.Common.{◌≡◌, ℕ, ◌<◌, ◌≤◌, Bool, true, false, ◌&&◌, List, [], ◌∷◌, ◌++◌}
use Rattle.std.proofs.Common.{Option, Some, None, refl, subst, arith}
use Rattle.std.proofs.lemmas.Bool.{and_parts, leb-true}
use Rattle.std.specs.Prelude.{All, filter, map, nat_le, nat_lt, option_and_then, option_map, slice_get}
use Rattle.std.specs.Prelude.{unwrap_or, if◌then◌else◌}
use Rattle.std.specs.List.{AllByRecursion, cons_option, filter_map, flat_map, list_all}
use Rattle.std.specs.Option.{option_map_or}
use Rattle.std.proofs.lemmas.List.Elements.{All-from_recursion}
use Rattle.mw_text.proofs.Lists.{all_at}
use Rattle.ios_ast.specs.declared.file.File.{File}
use Rattle.ios_ast.specs.declared.file.Iface.{Iface}
use Rattle.ios_ast.specs.declared.ospf.Ospf.{Ospf}
use Rattle.ios_ast.proofs.KeptLimits.{limits_of}
use Rattle.net_interfaces.specs.declared.interfaces.Addressed.{Addressed}
use Rattle.net_parts.specs.declared.ospf.OspfInterface.{OspfInterface}
use Rattle.net_interfaces.specs.Interfaces.{addressed}
use Rattle.net_interfaces.specs.Limits.{has_cost_in_range, keeps_limits}
use Rattle.net_parts.specs.Ospf.{adjacencies, adjacencies_of, adjacency, are_adjacent, bandwidth_cost, interface_cost}
use Rattle.net_parts.specs.Ospf.{is_matched, ospf_at, ospf_interfaces, running, running_in}

abbrev IsCost : ℕ → Type 0
IsCost cost = (0 < cost) × (cost ≤ 65535)

of_interface : (process : Ospf) (iface : Iface) (loopback : Bool) → has_cost_in_range iface ≡ true →
    IsCost (interface_cost process iface loopback)
of_interface process iface loopback = by_cost iface.cost where
  plain : (loopback : Bool) → IsCost (if loopback then 1 else bandwidth_cost process.reference iface.bandwidth)
  plain true = (omega arith, omega arith)
  plain false = (omega arith, omega arith)

  by_cost : (cost : Option ℕ) → option_map_or (λ c. nat_lt 0 c && nat_le c 65535) cost true ≡ true →
      IsCost (unwrap_or cost (if loopback then 1 else bandwidth_cost process.reference iface.bandwidth))
  by_cost None fits = plain loopback
  by_cost (Some c) fits =
      let parts = and_parts (nat_lt 0 c) (nat_le c 65535) fits in
      (leb-true _ _ parts.0, leb-true _ _ parts.1)

mapped : {A B : Type 0} (P : B → Type 0) (f : A → Option B) → ((x : A) (y : B) → f x ≡ Some y → P y) → (xs : List A) →
    AllByRecursion P (filter_map f xs)
mapped {B = B} P f each [] = tt
mapped {B = B} P f each (x ∷ xs) = by_first (f x) (λ y is. each x y is) (mapped P f each xs) where
  by_first : (o : Option B) → ((y : B) → o ≡ Some y → P y) → AllByRecursion P (filter_map f xs) →
      AllByRecursion P (cons_option o (filter_map f xs))
  by_first None here later = later
  by_first (Some y) here later = (here y refl, later)

of_running : (files : List File) → list_all keeps_limits files ≡ true → (x : Addressed) (y : OspfInterface) →
    ospf_at files x ≡ Some y → IsCost y.cost
of_running files limits x y =
    by_file (slice_get files x.id.router) (λ file found. all_at keeps_limits files x.id.router file limits found)
  where
    by_iface : (process : Ospf) (interfaces : List Iface) (iface : Option Iface) (y : OspfInterface) →
        ((i : Iface) → iface ≡ Some i → has_cost_in_range i ≡ true) → option_map (λ i. running process i x) iface
        ≡ Some y → IsCost y.cost
    by_iface process interfaces None y fits is = cc
    by_iface process interfaces (Some i) y fits is =
        let same : running process i x ≡ y = cc in
        subst (λ r. IsCost r.cost) same (of_interface process i x.loopback (fits i refl))

    by_match : (matched : Bool) (process : Ospf) (file : File) (y : OspfInterface)
        → list_all has_cost_in_range file.interfaces ≡ true →
        (if matched then option_map (λ i. running process i x) (slice_get file.interfaces x.id.at) else None) ≡ Some y
        → IsCost y.cost
    by_match false process file y fits is = cc
    by_match true process file y fits is =
        by_iface process file.interfaces (slice_get file.interfaces x.id.at) y
        (λ i found. all_at has_cost_in_range file.interfaces x.id.at i fits found) is

    by_process : (ospf : Option Ospf) (file : File) (y : OspfInterface) → list_all has_cost_in_range file.interfaces
        ≡ true →
        option_and_then (λ process. running_in file process x) ospf ≡ Some y → IsCost y.cost
    by_process None file y fits is = cc
    by_process (Some process) file y fits is = by_match (is_matched process x.addr) process file y fits is

    by_file : (found : Option File) → ((file : File) → found ≡ Some file → keeps_limits file ≡ true) →
        option_and_then (λ file. option_and_then (λ process. running_in file process x) file.ospf) found ≡ Some y
        → IsCost y.cost
    by_file None kept is = cc
    by_file (Some file) kept is =
        by_process file.ospf file y (limits_of file (kept file refl)).costs is

in_recursion : (files : List File) → list_all keeps_limits files ≡ true
    → AllByRecursion (λ x. IsCost x.cost) (ospf_interfaces files)
unfolding ospf_interfaces
in_recursion files limits = mapped (λ x. IsCost x.cost) (ospf_at files) (of_running files limits) (addressed files)

-- the cost of each interface that runs OSPF is from 1 to 65535
pub interface_costs : (files : List File) → list_all keeps_limits files ≡ true →
    All (λ x. (0 < x.cost) × (x.cost ≤ 65535)) (ospf_interfaces files)
interface_costs files limits = All-from_recursion _ (ospf_interfaces files) (in_recursion files limits)

appended : {A : Type 0} (P : A → Type 0) (xs ys : List A) → AllByRecursion P xs → AllByRecursion P ys
    → AllByRecursion P (xs ++ ys)
appended P [] ys front back = back
appended P (x ∷ xs) ys front back = (front.0, appended P xs ys front.1 back)

over_one : (a : OspfInterface) → IsCost a.cost → (others : List OspfInterface) →
    AllByRecursion (λ x. IsCost x.cost) (map (adjacency a) others)
over_one a cost [] = tt
over_one a cost (b ∷ rest) = (cost, over_one a cost rest)

over_all : (others from : List OspfInterface) → AllByRecursion (λ x. IsCost x.cost) from →
    AllByRecursion (λ x. IsCost x.cost) (flat_map (λ a. adjacencies_of a others) from)
over_all others [] costs = tt
over_all others (a ∷ rest) costs =
    appended (λ x. IsCost x.cost) (adjacencies_of a others) (flat_map (λ b. adjacencies_of b others) rest)
    (over_one a costs.0 (filter (are_adjacent a) others)) (over_all others rest costs.1)

-- and so is that of each adjacency
pub adjacency_costs : (files : List File) → list_all keeps_limits files ≡ true →
    All (λ a. (0 < a.cost) × (a.cost ≤ 65535)) (adjacencies files)
unfolding adjacencies
adjacency_costs files limits =
    All-from_recursion _ (adjacencies files)
    (over_all (ospf_interfaces files) (ospf_interfaces files) (in_recursion files limits))
