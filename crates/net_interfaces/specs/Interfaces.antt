-- The interfaces of a network that have an address, and their subnets.
use Rattle.std.specs.Prelude.{◌≡◌, ℕ, ◌+◌, ◌==◌, Bool, true, List, [], ◌∷◌, ◌++◌, Contains, codes, map, take, Option}
use Rattle.std.specs.Prelude.{option_map}
use Rattle.std.specs.List.{find}
use Rattle.std.specs.Option.{option_map_or}
use Rattle.std.specs.Char.{to_ascii_lowercase}
use Rattle.mw_text.specs.declared.address.Addr.{Addr}
use Rattle.mw_text.specs.declared.address.Prefix.{Prefix}
use Rattle.mw_text.specs.Address.{covers, prefix_at}
use Rattle.mw_text.specs.Text.{same_text}
use Rattle.ios_ast.specs.declared.file.File.{File}
use Rattle.ios_ast.specs.declared.file.Iface.{Iface}
use Rattle.ios_ast.specs.declared.file.IfAddr.{IfAddr}
use Rattle.net_interfaces.specs.declared.interfaces.IfaceId.{IfaceId}
use Rattle.net_interfaces.specs.declared.interfaces.Addressed.{Addressed}

-- a loopback is an interface whose kind is `Loopback`, in any case
abbrev pub is_loopback : List ℕ → Bool
is_loopback name = same_text (map to_ascii_lowercase (take 8 name)) (codes "loopback")

-- the interface at that place, with its address and its subnet: the address under its mask
abbrev pub addressed_iface : IfaceId → Iface → IfAddr → Addressed
addressed_iface id iface address = record {
  id = id;
  addr = address.addr;
  subnet = prefix_at address.addr address.len;
  loopback = is_loopback iface.name;
  shutdown = iface.shutdown;
}

-- the interfaces of one router that have an address, from that place on
abbrev pub addressed_from : ℕ → ℕ → List Iface → List Addressed
addressed_from router at [] = []
addressed_from router at (iface ∷ rest) =
    option_map_or (λ a. addressed_iface (record { router = router; at = at }) iface a ∷ []) iface.address []
    ++ addressed_from router (at + 1) rest

-- those of the routers from that number on
abbrev pub addressed_routers : ℕ → List File → List Addressed
addressed_routers router [] = []
addressed_routers router (file ∷ rest) = addressed_from router 0 file.interfaces ++ addressed_routers (router + 1) rest

-- all interfaces of the files that have an address, in the order of the files
abbrev pub addressed : List File → List Addressed
addressed files = addressed_routers 0 files

-- the interface that has the address
abbrev pub owner : List File → Addr → Option IfaceId
owner files a = option_map (λ x. x.id) (find (λ x. x.addr.0 == a.0) (addressed files))

-- the subnet of an interface that contains the address
abbrev pub subnet_of : List File → Addr → Option Prefix
subnet_of files a = option_map (λ x. x.subnet) (find (λ x. covers x.subnet a) (addressed files))

-- one interface of the router, and no other of its interfaces, has the address on its subnet
pub record LiesOnOne (files : List File) (router : ℕ) (a : Addr) : Type 0 where
  pub on : Addressed
  pub listed : Contains (addressed files) on
  pub own : on.id.router ≡ router
  pub covered : covers on.subnet a ≡ true
  pub only : (x : Addressed) → Contains (addressed files) x → x.id.router ≡ router → covers x.subnet a ≡ true → x ≡ on
