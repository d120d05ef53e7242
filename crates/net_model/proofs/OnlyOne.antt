-- What covers an address in a network: one subnet, one interface of a router, one advertised prefix.
use Rattle.std.proofs.Common.{◌≡◌, ℕ, zero, suc, ◌-◌, ◌*◌, ◌/◌, Bool, true, false, List, [], ◌∷◌, cond, map}
use Rattle.std.proofs.Common.{Option, Some, None, refl, ap, sym, subst, ◌∙◌, ◌⊎◌, inl, inr, arith}
use Rattle.std.specs.Prelude.{All, Contains, option_map, slice_get}
use Rattle.std.specs.Prelude.{if◌then◌else◌}
use Rattle.std.specs.List.{cons_option, filter_map, find}
use Rattle.std.proofs.lemmas.Bool.{eq-eqb, eqb-true}
use Rattle.std.proofs.lemmas.List.Elements.{All-cons, All-contains, All-contains_itself, All-head, All-map, All-nil}
use Rattle.std.proofs.lemmas.List.Elements.{All-tail}
use Rattle.std.proofs.lemmas.Nat.{pow_pos}
use Rattle.std.proofs.lemmas.Option.{slice_get-get_or}
use Rattle.std.proofs.Math.Nat.{mul-div_cancel}
use Rattle.mw_text.specs.declared.address.Addr.{Addr}
use Rattle.mw_text.specs.declared.address.Prefix.{Prefix}
use Rattle.mw_text.specs.Address.{block, covers, prefix_at}
use Rattle.ios_ast.specs.declared.file.File.{File}
use Rattle.net_interfaces.specs.declared.interfaces.Addressed.{Addressed}
use Rattle.net_parts.specs.declared.ospf.OspfInterface.{OspfInterface}
use Rattle.net_interfaces.specs.Interfaces.{addressed, subnet_of}
use Rattle.net_refusals.specs.Network.{IsNetwork}
use Rattle.net_parts.specs.Ospf.{advertised, advertisement, ospf_at, ospf_interfaces}
use Rattle.net_parts.proofs.Ascending.{fold_all}
use Rattle.net_parts.proofs.LeastWalks.{ospf_at-same}
use Rattle.net_model.proofs.OneSubnet.{MeetOnOne, one_or_meet}
use Rattle.net_model.proofs.Placed.{placed}

-- ---- the first of a list

-- where one passes, the first that does is found
record Found {A : Type 0} (test : A → Bool) (xs : List A) : Type 0 where
  item : A
  is : find test xs ≡ Some item
  has : Contains xs item
  passes : test item ≡ true

found_first : {A : Type 0} (test : A → Bool) (xs : List A) (k : ℕ) (x : A) → slice_get xs k ≡ Some x →
    test x ≡ true → Found test xs
found_first test [] k x there passes = absurd cc
found_first {A = A} test (y ∷ rest) k x there passes = by_first (test y) refl (λ j. found_first test rest j x) where
  deeper : test y ≡ false → Found test rest → Found test (y ∷ rest)
  deeper not_first later = record {
    item = later.item;
    is = ap (λ b. cond b (Some y) (find test rest)) not_first ∙ later.is;
    has = (suc later.has.0, omega (arith, later.has.1), later.has.2);
    passes = later.passes;
  }

  by_place : (j : ℕ) → slice_get (y ∷ rest) j ≡ Some x → test y ≡ false →
      ((i : ℕ) → slice_get rest i ≡ Some x → test x ≡ true → Found test rest) → Found test (y ∷ rest)
  by_place zero here not_first later =
      let same : y ≡ x = cc in
      let wrong : false ≡ true = sym not_first ∙ ap test same ∙ passes in absurd cc
  by_place (suc i) further not_first later = deeper not_first (later i further passes)

  by_first : (b : Bool) → test y ≡ b → ((i : ℕ) → slice_get rest i ≡ Some x → test x ≡ true → Found test rest) →
      Found test (y ∷ rest)
  by_first true first later = record {
    item = y;
    is = ap (λ b. cond b (Some y) (find test rest)) first;
    has = (0, omega arith, refl);
    passes = first;
  }
  by_first false not_first later = by_place k there not_first later

member_found : {A : Type 0} (test : A → Bool) (xs : List A) (x : A) → Contains xs x → test x ≡ true → Found test xs
member_found test xs x has passes =
    found_first test xs has.0 x (slice_get-get_or xs has.0 x has.1 ∙ ap Some has.2) passes

-- ---- subnets

-- the subnets that cover an address are one
pub one_subnet : (files : List File) → IsNetwork files → (a : Addr) (x y : Addressed) → Contains (addressed files) x →
    Contains (addressed files) y → covers x.subnet a ≡ true → covers y.subnet a ≡ true → x.subnet ≡ y.subnet
one_subnet files net a x y has has_other one other =
    by_meeting (one_or_meet files net a x y has has_other one other)
  where
    by_meeting : (x ≡ y) ⊎ MeetOnOne x y → x.subnet ≡ y.subnet
    by_meeting (inl same) = ap (λ z. z.subnet) same
    by_meeting (inr meets) = meets.subnet

-- so the first that covers it is the only one
pub only_subnet : (files : List File) → IsNetwork files → (a : Addr) (x : Addressed) → Contains (addressed files) x →
    covers x.subnet a ≡ true → subnet_of files a ≡ Some x.subnet
only_subnet files net a x has covered =
    let found = member_found (λ z. covers z.subnet a) (addressed files) x has covered in
    ap (option_map (λ z. z.subnet)) found.is
    ∙ ap Some (one_subnet files net a found.item x found.has has found.passes covered)

-- the interfaces of one router whose subnets cover an address are one
pub one_interface : (files : List File) → IsNetwork files → (a : Addr) (x y : Addressed) →
    Contains (addressed files) x → Contains (addressed files) y → x.id.router ≡ y.id.router →
    covers x.subnet a ≡ true → covers y.subnet a ≡ true → x ≡ y
one_interface files net a x y has has_other same one other =
    by_meeting (one_or_meet files net a x y has has_other one other)
  where
    by_meeting : (x ≡ y) ⊎ MeetOnOne x y → x ≡ y
    by_meeting (inl one) = one
    by_meeting (inr meets) = absurd (meets.routers same)

-- ---- advertised prefixes

-- a prefix covers the address of which it is a prefix
covers_own : (d : Addr) (len : ℕ) → covers (prefix_at d len) d ≡ true
covers_own d len = eq-eqb _ _ (sym (mul-div_cancel (d.0 / block len) (pow_pos (32 - len))))

-- a prefix of 32 bits covers that address alone
host_alone : (d a : Addr) → covers (prefix_at d 32) a ≡ true → a.0 ≡ d.0
host_alone d a covered =
    let same : a.0 / 1 ≡ d.0 / 1 * 1 / 1 = eqb-true _ _ covered in
    omega (arith, same)

-- what covers an address of the advertised prefixes does so as the subnet
by_subnet : (files : List File) (u : OspfInterface) (a : Addr) → Contains (addressed files) u.at →
    covers (advertisement u) a ≡ true → covers u.at.subnet a ≡ true
by_subnet files u a has = by_kind u.at.loopback where
  by_kind : (loopback : Bool) →
      covers (if loopback then prefix_at u.at.addr 32 else u.at.subnet) a ≡ true → covers u.at.subnet a ≡ true
  by_kind false covered = covered
  by_kind true covered =
      let at = placed files u.at has in
      let addr : u.at.addr ≡ at.own.addr = ap (λ z. z.addr) at.is in
      let subnet : u.at.subnet ≡ prefix_at at.own.addr at.own.len = ap (λ z. z.subnet) at.is in
      let same : a.0 ≡ at.own.addr.0 = host_alone u.at.addr a covered ∙ ap (λ d. d.0) addr in
      ap (λ p. covers p a) subnet
      ∙ ap (λ n. covers (prefix_at at.own.addr at.own.len) (record { 0 = n })) same
      ∙ covers_own at.own.addr at.own.len

-- it is advertised by an interface of the network
record IsAdvertised (files : List File) (p : Prefix) : Type 0 where
  by : OspfInterface
  has : Contains (addressed files) by.at
  is : p ≡ advertisement by

kept : {A B : Type 0} (Q : A → Type 0) (P : B → Type 0) (f : A → Option B) →
    ((x : A) (y : B) → Q x → f x ≡ Some y → P y) → (xs : List A) → All Q xs → All P (filter_map f xs)
kept Q P f each [] all = All-nil P
kept {B = B} Q P f each (x ∷ xs) all =
    by_first (f x) refl (kept Q P f each xs (All-tail Q x xs all))
  where
    by_first : (o : Option B) → f x ≡ o → All P (filter_map f xs) → All P (cons_option o (filter_map f xs))
    by_first None is later = later
    by_first (Some y) is later = All-cons P y (filter_map f xs) (each x y (All-head Q x xs all) is) later

all_advertised : (files : List File) → All (IsAdvertised files) (advertised files)
unfolding advertised ospf_interfaces
all_advertised files =
    let all = addressed files in
    fold_all (IsAdvertised files) (map advertisement (filter_map (ospf_at files) all)) []
    (All-map (IsAdvertised files) advertisement (filter_map (ospf_at files) all)
    (kept (Contains all) (λ u. IsAdvertised files (advertisement u)) (ospf_at files)
    (λ x u has is. record {
      by = u;
      has = subst (Contains all) (sym (ospf_at-same files x u is)) has;
      is = refl;
    }) all (All-contains_itself all)))
    (All-nil (IsAdvertised files))

-- the advertisements of two interfaces whose subnets cover one address are one
one_advertisement : (files : List File) → IsNetwork files → (a : Addr) (u v : OspfInterface) →
    Contains (addressed files) u.at → Contains (addressed files) v.at → covers (advertisement u) a ≡ true →
    covers (advertisement v) a ≡ true → advertisement u ≡ advertisement v
one_advertisement files net a u v has has_other one other =
    by_meeting (one_or_meet files net a u.at v.at has has_other (by_subnet files u a has one)
    (by_subnet files v a has_other other))
  where
    by_meeting : (u.at ≡ v.at) ⊎ MeetOnOne u.at v.at → advertisement u ≡ advertisement v
    by_meeting (inl same) = ap (λ x. if x.loopback then prefix_at x.addr 32 else x.subnet) same
    by_meeting (inr meets) =
        ap (λ b. if b then prefix_at u.at.addr 32 else u.at.subnet) meets.first ∙ meets.subnet
        ∙ sym (ap (λ b. if b then prefix_at v.at.addr 32 else v.at.subnet) meets.second)

-- the advertised prefixes that cover an address are one
pub one_advertised : (files : List File) → IsNetwork files → (a : Addr) (p q : Prefix) →
    Contains (advertised files) p → Contains (advertised files) q → covers p a ≡ true → covers q a ≡ true → p ≡ q
one_advertised files net a p q has has_other one other =
    let first = All-contains (IsAdvertised files) (advertised files) p (all_advertised files) has in
    let second = All-contains (IsAdvertised files) (advertised files) q (all_advertised files) has_other in
    first.is ∙ one_advertisement files net a first.by second.by first.has second.has
    (ap (λ r. covers r a) (sym first.is) ∙ one) (ap (λ r. covers r a) (sym second.is) ∙ other) ∙ sym second.is

-- so the first that covers it is the only one
pub only_advertised : (files : List File) → IsNetwork files → (a : Addr) (p : Prefix) → Contains (advertised files) p →
    covers p a ≡ true → find (λ q. covers q a) (advertised files) ≡ Some p
only_advertised files net a p has covered =
    let found = member_found (λ q. covers q a) (advertised files) p has covered in
    found.is ∙ ap Some (one_advertised files net a found.item p found.has has found.passes covered)
