-- The links of files whose addresses fit are prefixes.
use Rattle.std.proofs.Common.{◌≡◌, ℕ, ◌+◌, ◌-◌, ◌*◌, ◌/◌, ◌^◌, ◌<◌, ◌≤◌, Bool, true, false, List, [], ◌∷◌}
use Rattle.std.proofs.Common.{map, Option, Some, None, ap, arith}
use Rattle.std.specs.Prelude.{All, IfSome, fold, if◌then◌else◌}
use Rattle.std.specs.Option.{option_map_or}
use Rattle.std.proofs.lemmas.List.Elements.{All-append, All-cons, All-filter, All-head, All-map, All-nil, All-tail}
use Rattle.std.proofs.lemmas.Nat.{pow_pos}
use Rattle.std.proofs.Math.Nat.{div-mul-le_self, mul-div_cancel}
use Rattle.mw_text.specs.declared.address.Addr.{Addr}
use Rattle.mw_text.specs.declared.address.Prefix.{Prefix}
use Rattle.mw_text.specs.Address.{block, prefix_at, same_prefix}
use Rattle.ios_ast.specs.declared.file.File.{File}
use Rattle.ios_ast.specs.declared.file.IfAddr.{IfAddr}
use Rattle.ios_ast.specs.declared.file.Iface.{Iface}
use Rattle.net_interfaces.specs.declared.interfaces.Addressed.{Addressed}
use Rattle.net_interfaces.specs.Interfaces.{addressed, addressed_from, addressed_iface, addressed_routers}
use Rattle.net_parts.specs.Sessions.{peerings}
use Rattle.net_parts.specs.World.{comes_before, is_link, link_on, linked_subnets, links_of, put_in_order}
use Rattle.cex_json.specs.Writable.{IsOwnAddress, IsPrefix}

-- ---- a subnet

block_some : (len : ℕ) → 0 < block len
block_some len = pow_pos (32 - len)

-- the address under its mask
prefix_is : (a : Addr) (len : ℕ) → a.0 < 2 ^ 32 → len ≤ 32 → IsPrefix (prefix_at a len)
prefix_is a len small short =
    let below : a.0 / block len * block len ≤ a.0 = div-mul-le_self a.0 (block len) in
    let again : a.0 / block len * block len / block len ≡ a.0 / block len = mul-div_cancel (a.0 / block len)
    (block_some len) in
    record {
      addr = omega (arith, below);
      len = short;
      cleared = ap (λ n. record { addr = record { 0 = n * block len }; len = len }) again;
    }

-- ---- of all interfaces

abbrev HasPrefix : Addressed → Type 0
HasPrefix x = IsPrefix x.subnet

abbrev FitsIface : Iface → Type 0
FitsIface iface = IfSome iface.address IsOwnAddress

subnets_from : (router at : ℕ) (ifaces : List Iface) → All FitsIface ifaces →
    All HasPrefix (addressed_from router at ifaces)
subnets_from router at [] fits = All-nil HasPrefix
subnets_from router at (iface ∷ rest) fits =
    All-append HasPrefix
    (option_map_or (λ a. addressed_iface (record { router = router; at = at }) iface a ∷ []) iface.address [])
    (addressed_from router (at + 1) rest) (here iface.address (All-head FitsIface iface rest fits))
    (subnets_from router (at + 1) rest (All-tail FitsIface iface rest fits))
  where
    here : (own : Option IfAddr) → IfSome own IsOwnAddress →
        All HasPrefix (option_map_or (λ a. addressed_iface (record { router = router; at = at }) iface a ∷ []) own [])
    here None fit = All-nil HasPrefix
    here (Some own) fit =
        All-cons HasPrefix (addressed_iface (record { router = router; at = at }) iface own) []
        (prefix_is own.addr own.len fit.0 fit.1) (All-nil HasPrefix)

abbrev FitsFile : File → Type 0
FitsFile file = All FitsIface file.interfaces

subnets_routers : (router : ℕ) (files : List File) → All FitsFile files → All HasPrefix (addressed_routers router files)
subnets_routers router [] fits = All-nil HasPrefix
subnets_routers router (file ∷ rest) fits =
    All-append HasPrefix (addressed_from router 0 file.interfaces) (addressed_routers (router + 1) rest)
    (subnets_from router 0 file.interfaces (All-head FitsFile file rest fits))
    (subnets_routers (router + 1) rest (All-tail FitsFile file rest fits))

-- ---- in order, and of the links

put_all : (xs : List Prefix) (p : Prefix) → IsPrefix p → All IsPrefix xs → All IsPrefix (put_in_order xs p)
put_all [] p here all = All-cons IsPrefix p [] here (All-nil IsPrefix)
put_all (q ∷ rest) p here all =
    by_place (comes_before q p) (same_prefix q p) (put_all rest p here (All-tail IsPrefix q rest all))
  where
    by_place : (b c : Bool) → All IsPrefix (put_in_order rest p) →
        All IsPrefix (if b then q ∷ put_in_order rest p else (if c then q ∷ rest else p ∷ q ∷ rest))
    by_place true c deeper = All-cons IsPrefix q (put_in_order rest p) (All-head IsPrefix q rest all) deeper
    by_place false true deeper = all
    by_place false false deeper = All-cons IsPrefix p (q ∷ rest) here all

fold_all : (ps xs : List Prefix) → All IsPrefix ps → All IsPrefix xs → All IsPrefix (fold put_in_order xs ps)
fold_all [] xs more all = all
fold_all (p ∷ rest) xs more all =
    fold_all rest (put_in_order xs p) (All-tail IsPrefix p rest more)
    (put_all xs p (All-head IsPrefix p rest more) all)

-- each link's subnet is a prefix
pub links_fit : (files : List File) → All FitsFile files → All (λ link. IsPrefix link.prefix) (links_of files)
unfolding links_of
links_fit files fits =
    All-map (λ link. IsPrefix link.prefix) (link_on (addressed files)) (linked_subnets files)
    (All-filter (is_link (addressed files) (peerings files)) IsPrefix
    (fold put_in_order [] (map (λ x. x.subnet) (addressed files)))
    (fold_all (map (λ x. x.subnet) (addressed files)) []
    (All-map IsPrefix (λ x. x.subnet) (addressed files) (subnets_routers 0 files fits)) (All-nil IsPrefix)))
