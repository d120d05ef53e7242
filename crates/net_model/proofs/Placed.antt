-- Each interface with an address stands in the file of its router, at its place.
use Rattle.std.proofs.Common.{◌≡◌, ℕ, zero, suc, ◌+◌, List, [], ◌∷◌, Option, Some, None, refl, ap, sym, subst}
use Rattle.std.proofs.Common.{◌∙◌, arith}
use Rattle.std.proofs.lemmas.List.Elements.{All-append, All-cons, All-contains, All-nil, All-weaker}
use Rattle.std.proofs.lemmas.List.Elements.{Contains-append_left, Contains-append_right}
use Rattle.std.specs.Prelude.{All, Contains, slice_get}
use Rattle.std.specs.Option.{option_map_or}
use Rattle.ios_ast.specs.declared.file.File.{File}
use Rattle.ios_ast.specs.declared.file.IfAddr.{IfAddr}
use Rattle.ios_ast.specs.declared.file.Iface.{Iface}
use Rattle.net_interfaces.specs.declared.interfaces.Addressed.{Addressed}
use Rattle.net_interfaces.specs.Interfaces.{addressed, addressed_from, addressed_iface, addressed_routers}
use Rattle.net_refusals.proofs.InOrder.{of_one}

-- the interface of a router, whose interfaces these are from a place on
record IsOf (router at : ℕ) (interfaces : List Iface) (x : Addressed) : Type 0 where
  k : ℕ
  iface : Iface
  own : IfAddr
  there : slice_get interfaces k ≡ Some iface
  address : iface.address ≡ Some own
  is : x ≡ addressed_iface (record { router = router; at = at + k }) iface own

all_of : (router at : ℕ) (interfaces : List Iface) →
    All (IsOf router at interfaces) (addressed_from router at interfaces)
all_of router at [] = All-nil (IsOf router at [])
all_of router at (iface ∷ rest) =
    All-append (IsOf router at (iface ∷ rest)) (own iface.address) (addressed_from router (at + 1) rest)
    (here iface.address refl)
    (All-weaker (IsOf router (at + 1) rest) (IsOf router at (iface ∷ rest)) further
    (addressed_from router (at + 1) rest) (all_of router (at + 1) rest))
  where
    own : Option IfAddr → List Addressed
    own address = option_map_or (λ a. addressed_iface (record { router = router; at = at }) iface a ∷ []) address []

    here : (o : Option IfAddr) → iface.address ≡ o → All (IsOf router at (iface ∷ rest)) (own o)
    here None is = All-nil (IsOf router at (iface ∷ rest))
    here (Some a) is =
        let place : at ≡ at + 0 = omega arith in
        All-cons (IsOf router at (iface ∷ rest)) (addressed_iface (record { router = router; at = at }) iface a) []
        (record {
          k = 0;
          iface = iface;
          own = a;
          there = refl;
          address = is;
          is = ap (λ n. addressed_iface (record { router = router; at = n }) iface a) place;
        })
        (All-nil (IsOf router at (iface ∷ rest)))

    further : (x : Addressed) → IsOf router (at + 1) rest x → IsOf router at (iface ∷ rest) x
    further x of =
        let place : (at + 1) + of.k ≡ at + suc of.k = omega arith in
        record {
          k = suc of.k;
          iface = of.iface;
          own = of.own;
          there = of.there;
          address = of.address;
          is = of.is ∙ ap (λ n. addressed_iface (record { router = router; at = n }) of.iface of.own) place;
        }

-- the interface of one of the files, which are those of the routers from a number on
record IsIn (router : ℕ) (files : List File) (x : Addressed) : Type 0 where
  k : ℕ
  file : File
  there : slice_get files k ≡ Some file
  of : IsOf (router + k) 0 file.interfaces x

all_in : (router : ℕ) (files : List File) → All (IsIn router files) (addressed_routers router files)
all_in router [] = All-nil (IsIn router [])
all_in router (file ∷ rest) =
    All-append (IsIn router (file ∷ rest)) (addressed_from router 0 file.interfaces)
    (addressed_routers (router + 1) rest)
    (All-weaker (IsOf router 0 file.interfaces) (IsIn router (file ∷ rest)) here
    (addressed_from router 0 file.interfaces) (all_of router 0 file.interfaces))
    (All-weaker (IsIn (router + 1) rest) (IsIn router (file ∷ rest)) further (addressed_routers (router + 1) rest)
    (all_in (router + 1) rest))
  where
    here : (x : Addressed) → IsOf router 0 file.interfaces x → IsIn router (file ∷ rest) x
    here x of =
        let place : router ≡ router + 0 = omega arith in
        record { k = 0; file = file; there = refl; of = subst (λ n. IsOf n 0 file.interfaces x) place of }

    further : (x : Addressed) → IsIn (router + 1) rest x → IsIn router (file ∷ rest) x
    further x in_rest =
        let place : (router + 1) + in_rest.k ≡ router + suc in_rest.k = omega arith in
        record {
          k = suc in_rest.k;
          file = in_rest.file;
          there = in_rest.there;
          of = subst (λ n. IsOf n 0 in_rest.file.interfaces x) place in_rest.of;
        }

-- the file of its router, its interface there, and that one's address
pub record IsPlaced (files : List File) (x : Addressed) : Type 0 where
  pub file : File
  pub iface : Iface
  pub own : IfAddr
  pub router : slice_get files x.id.router ≡ Some file
  pub at : slice_get file.interfaces x.id.at ≡ Some iface
  pub address : iface.address ≡ Some own
  pub is : x ≡ addressed_iface x.id iface own

-- each interface of a network that has an address
pub placed : (files : List File) (x : Addressed) → Contains (addressed files) x → IsPlaced files x
placed files x has =
    let found = All-contains (IsIn 0 files) (addressed files) x (all_in 0 files) has in
    let of = found.of in
    let id : x.id ≡ record { router = 0 + found.k; at = 0 + of.k } = ap (λ y. y.id) of.is in
    let router : x.id.router ≡ found.k = omega (arith, ap (λ i. i.router) id) in
    let at : x.id.at ≡ of.k = omega (arith, ap (λ i. i.at) id) in
    record {
      file = found.file;
      iface = of.iface;
      own = of.own;
      router = ap (slice_get files) router ∙ found.there;
      at = ap (slice_get found.file.interfaces) at ∙ of.there;
      address = of.address;
      is = of.is ∙ ap (λ i. addressed_iface i of.iface of.own) (sym id);
    }

-- ---- and each interface that has an address is one of them

from_of : (router at : ℕ) (interfaces : List Iface) (k : ℕ) (iface : Iface) (own : IfAddr) →
    slice_get interfaces k ≡ Some iface → iface.address ≡ Some own →
    Contains (addressed_from router at interfaces) (addressed_iface (record { router = router; at = at + k }) iface own)
from_of router at [] k iface own there address = absurd cc
from_of router at (first ∷ rest) zero iface own there address =
    let same : first ≡ iface = cc in
    let first_address : first.address ≡ Some own = ap (λ i. i.address) same ∙ address in
    let place : at ≡ at + 0 = omega arith in
    let x : Addressed = addressed_iface (record { router = router; at = at }) first own in
    let listed : Option IfAddr → List Addressed = λ o.
    option_map_or (λ a. addressed_iface (record { router = router; at = at }) first a ∷ []) o [] in
    let has : Contains (listed first.address) x =
    subst (λ o. Contains (listed o) x) (sym first_address) (0, omega arith, refl) in
    let whole : Contains (addressed_from router at (first ∷ rest)) x =
    Contains-append_left (listed first.address) (addressed_from router (at + 1) rest) x has in
    subst (λ n. Contains (addressed_from router at (first ∷ rest))
    (addressed_iface (record { router = router; at = n }) iface own)) place
    (subst (λ i. Contains (addressed_from router at (first ∷ rest))
    (addressed_iface (record { router = router; at = at }) i own)) same whole)
from_of router at (first ∷ rest) (suc k) iface own there address =
    let place : (at + 1) + k ≡ at + suc k = omega arith in
    let deeper = from_of router (at + 1) rest k iface own there address in
    subst (λ n. Contains (addressed_from router at (first ∷ rest))
    (addressed_iface (record { router = router; at = n }) iface own)) place
    (Contains-append_right
    (option_map_or (λ a. addressed_iface (record { router = router; at = at }) first a ∷ []) first.address [])
    (addressed_from router (at + 1) rest)
    (addressed_iface (record { router = router; at = (at + 1) + k }) iface own) deeper)

-- an interface that has an address is one of all
pub listed : (files : List File) (router at : ℕ) (file : File) (iface : Iface) (own : IfAddr) →
    slice_get files router ≡ Some file → slice_get file.interfaces at ≡ Some iface → iface.address ≡ Some own →
    Contains (addressed files) (addressed_iface (record { router = router; at = at }) iface own)
listed files router at file iface own found there address =
    let place : 0 + at ≡ at = omega arith in
    let here = from_of router 0 file.interfaces at iface own there address in
    of_one files router file (addressed_iface (record { router = router; at = at }) iface own) found
    (subst (λ n. Contains (addressed_from router 0 file.interfaces)
    (addressed_iface (record { router = router; at = n }) iface own)) place here)
