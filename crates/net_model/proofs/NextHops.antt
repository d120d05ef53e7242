-- The next hop of a static route of a network lies on the subnet of one interface of the router.
use Rattle.std.proofs.Common.{◌≡◌, ℕ, Bool, true, false, ◌&&◌, not, List, Option, Some, None, refl, ap, sym}
use Rattle.std.proofs.Common.{subst, ◌∙◌}
use Rattle.std.specs.Prelude.{Contains, slice_get}
use Rattle.std.specs.List.{list_any}
use Rattle.std.specs.Option.{option_map_or}
use Rattle.std.proofs.lemmas.Bool.{and_parts}
use Rattle.std.proofs.lemmas.List.Folds.{Any-from_list_any}
use Rattle.std.proofs.lemmas.Option.{slice_get-get_or}
use Rattle.mw_text.specs.declared.address.Addr.{Addr}
use Rattle.mw_text.specs.declared.address.Prefix.{Prefix}
use Rattle.mw_text.specs.Address.{covers, prefix_at}
use Rattle.mw_text.specs.Text.{same_text}
use Rattle.ios_ast.specs.declared.file.File.{File}
use Rattle.ios_ast.specs.declared.file.IfAddr.{IfAddr}
use Rattle.ios_ast.specs.declared.file.Iface.{Iface}
use Rattle.ios_ast.specs.declared.file.StaticRoute.{StaticRoute}
use Rattle.ios_ast.specs.declared.file.Via.{Via}
use Rattle.ios_ast.specs.declared.file.Via.TheVariants.{Null0, Next, Out}
use Rattle.net_interfaces.specs.declared.interfaces.Addressed.{Addressed}
use Rattle.net_refusals.specs.declared.refusals.NetCause.TheVariants.{NextHopNotConnected}
use Rattle.net_interfaces.specs.Connected.{is_connected, next_hop, reaches}
use Rattle.net_interfaces.specs.Interfaces.{LiesOnOne, addressed_iface}
use Rattle.net_refusals.specs.Network.{IsNetwork}
use Rattle.net_refusals.specs.Refusals.{unconnected_route}
use Rattle.net_refusals.proofs.Few.{no_line}
use Rattle.net_model.proofs.OnlyOne.{one_interface}
use Rattle.net_model.proofs.Placed.{listed}
use Rattle.net_model.proofs.Unbroken.{hops_connected, least_none, unbroken_at}

-- one of some interfaces has the address on its subnet
record Reached (interfaces : List Iface) (a : Addr) : Type 0 where
  at : ℕ
  iface : Iface
  own : IfAddr
  there : slice_get interfaces at ≡ Some iface
  address : iface.address ≡ Some own
  covered : covers (prefix_at own.addr own.len) a ≡ true

reached_by : (test : Iface → Bool) (a : Addr) → ((iface : Iface) → test iface ≡ true → reaches a iface ≡ true) →
    (interfaces : List Iface) → list_any test interfaces ≡ true → Reached interfaces a
reached_by test a each interfaces any =
    let found = Any-from_list_any test interfaces any in
    let there = slice_get-get_or interfaces found.0 found.1 found.2 ∙ ap Some found.3 in
    by_address found.0 found.1 there found.1.address refl (each found.1 found.4)
  where
    by_address : (at : ℕ) (iface : Iface) → slice_get interfaces at ≡ Some iface → (o : Option IfAddr) →
        iface.address ≡ o → option_map_or (λ own. covers (prefix_at own.addr own.len) a) iface.address false ≡ true →
        Reached interfaces a
    by_address at iface there None address reaching =
        let wrong : false ≡ true = subst (λ z. option_map_or (λ own. covers (prefix_at own.addr own.len) a) z false
        ≡ true) address reaching in absurd cc
    by_address at iface there (Some own) address reaching = record {
      at = at;
      iface = iface;
      own = own;
      there = there;
      address = address;
      covered =
          subst (λ z. option_map_or (λ own. covers (prefix_at own.addr own.len) a) z false ≡ true) address reaching;
    }

-- a route that is connected leads to an address that one of them has
connected : (interfaces : List Iface) (line : ℕ) (prefix : Prefix) (distance : ℕ) (via : Via) (a : Addr) →
    is_connected interfaces (record { line = line; prefix = prefix; via = via; distance = distance }) ≡ true →
    next_hop via ≡ Some a → Reached interfaces a
connected interfaces line prefix distance Null0 a leads hop = absurd cc
connected interfaces line prefix distance (Next b) a leads hop =
    let same : b ≡ a = cc in
    subst (Reached interfaces) same (reached_by (reaches b) b (λ iface reaching. reaching) interfaces leads)
connected interfaces line prefix distance (Out named b) a leads hop =
    let same : b ≡ a = cc in
    subst (Reached interfaces) same
    (reached_by (λ iface. same_text iface.name named.name && reaches b iface) b
    (λ iface both. (and_parts (same_text iface.name named.name) (reaches b iface) both).1) interfaces leads)

positive : (b : Bool) → not b ≡ false → b ≡ true
positive true denied = refl
positive false denied = sym denied

-- it lies on one subnet
pub on_one : (files : List File) → IsNetwork files → (router : ℕ) (file : File) (route : StaticRoute) (a : Addr) →
    slice_get files router ≡ Some file → Contains file.statics route → next_hop route.via ≡ Some a →
    LiesOnOne files router a
on_one files net router file route a found has hop =
    let line = unbroken_at NextHopNotConnected files router file (hops_connected files net.unrefused) found in
    let there = slice_get-get_or file.statics has.0 route has.1 ∙ ap Some has.2 in
    let clear = least_none (unconnected_route file.interfaces) file.statics line has.0 route there in
    let leads = positive (is_connected file.interfaces route)
    (no_line (not (is_connected file.interfaces route)) route.line clear) in
    lies (connected file.interfaces route.line route.prefix route.distance route.via a leads hop)
  where
    lies : Reached file.interfaces a → LiesOnOne files router a
    lies reached =
        let x : Addressed = addressed_iface (record { router = router; at = reached.at }) reached.iface reached.own in
        let member = listed files router reached.at file reached.iface reached.own found reached.there reached.address
        in
        record {
          on = x;
          listed = member;
          own = refl;
          covered = reached.covered;
          only = λ y other same covering. one_interface files net a y x other member same covering reached.covered;
        }
