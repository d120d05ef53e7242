-- How many interfaces have an address, and how many links there are.
use Rattle.std.proofs.Common.{◌≡◌, ℕ, ◌+◌, ◌*◌, ◌≤◌, Bool, true, false, List, [], ◌∷◌, length, length-append}
use Rattle.std.proofs.Common.{Option, Some, None, arith, if◌then◌else◌}
use Rattle.std.proofs.lemmas.Bool.{and_parts, leb-true}
use Rattle.std.proofs.lemmas.List.{length-map}
use Rattle.std.specs.Prelude.{fold, map}
use Rattle.std.specs.List.{list_all}
use Rattle.std.specs.Option.{option_map_or}
use Rattle.mw_text.specs.declared.address.Prefix.{Prefix}
use Rattle.mw_text.specs.Address.{same_prefix}
use Rattle.ios_ast.specs.declared.file.File.{File}
use Rattle.ios_ast.specs.declared.file.IfAddr.{IfAddr}
use Rattle.ios_ast.specs.declared.file.Iface.{Iface}
use Rattle.ios_ast.proofs.KeptLimits.{limits_of}
use Rattle.net_interfaces.specs.declared.interfaces.Addressed.{Addressed}
use Rattle.net_interfaces.specs.Interfaces.{addressed, addressed_from, addressed_iface, addressed_routers}
use Rattle.net_interfaces.specs.Limits.{keeps_limits}
use Rattle.net_parts.specs.Sessions.{peerings}
use Rattle.net_parts.specs.World.{comes_before, is_link, link_on, linked_subnets, links_of, put_in_order}
use Rattle.net_parts.proofs.Peers.{filter-le}

pub at_most_one : (f : IfAddr → Addressed) (o : Option IfAddr) → length (option_map_or (λ a. f a ∷ []) o []) ≤ 1
at_most_one f None = omega arith
at_most_one f (Some a) = omega arith

pub few_from : (router at : ℕ) (interfaces : List Iface) → length (addressed_from router at interfaces) ≤ length interfaces
few_from router at [] = omega arith
few_from router at (iface ∷ rest) =
    let f : IfAddr → Addressed = λ a. addressed_iface (record { router = router; at = at }) iface a in
    omega (
      arith,
      length-append (option_map_or (λ a. f a ∷ []) iface.address []) (addressed_from router (at + 1) rest),
      at_most_one f iface.address,
      few_from router (at + 1) rest,
    )

pub few_routers : (router : ℕ) (files : List File) → list_all keeps_limits files ≡ true →
    length (addressed_routers router files) ≤ 64 * length files
few_routers router [] few = omega arith
few_routers router (file ∷ rest) few =
    let both = and_parts (keeps_limits file) (list_all keeps_limits rest) few in
    omega (
      arith,
      length-append (addressed_from router 0 file.interfaces) (addressed_routers (router + 1) rest),
      few_from router 0 file.interfaces,
      leb-true _ _ (limits_of file both.0).interfaces,
      few_routers (router + 1) rest both.1,
    )

one_more : (xs : List Prefix) (p : Prefix) → length (put_in_order xs p) ≤ length xs + 1
one_more [] p = omega arith
one_more (q ∷ rest) p = by_place (comes_before q p) (same_prefix q p) (one_more rest p) where
  by_place : (b c : Bool) → length (put_in_order rest p) ≤ length rest + 1 →
      length (if b then q ∷ put_in_order rest p else (if c then q ∷ rest else p ∷ q ∷ rest)) ≤ length (q ∷ rest) + 1
  by_place true c deeper = omega (arith, deeper)
  by_place false true deeper = omega arith
  by_place false false deeper = omega arith

as_many : (ps xs : List Prefix) → length (fold put_in_order xs ps) ≤ length xs + length ps
as_many [] xs = omega arith
as_many (p ∷ rest) xs = omega (arith, one_more xs p, as_many rest (put_in_order xs p))

-- the place of a link fits
pub few_links : (files : List File) → length files ≤ 64 → list_all keeps_limits files ≡ true →
    length (links_of files) ≤ 4294967295
unfolding links_of
few_links files small few =
    let subnets = map (λ (x : Addressed). x.subnet) (addressed files) in
    omega (
      arith,
      length-map (linked_subnets files) (link_on (addressed files)),
      filter-le (is_link (addressed files) (peerings files)) (fold put_in_order [] subnets),
      as_many subnets [],
      length-map (addressed files) (λ (x : Addressed). x.subnet),
      few_routers 0 files few,
    )
