-- Where each address follows the one before, in some order, none clashes with one of an earlier file.
use Rattle.std.proofs.Common.{◌≡◌, ℕ, zero, suc, ◌+◌, ◌*◌, ◌/◌, ◌<◌, ◌≤◌, Bool, true, false, ◌&&◌, ◌||◌, not}
use Rattle.std.proofs.Common.{List, [], ◌∷◌, length, take, get_or, Option, Some, None, refl, ap, ◌∙◌, sym}
use Rattle.std.proofs.Common.{arith, ◌⊎◌, inl, inr, subst, ◌-◌}
use Rattle.std.specs.Prelude.{◌==◌, All, AllPairs, Contains, fold, nat_le, nat_lt, slice_get}
use Rattle.std.specs.List.{AllAdjacentBelow, list_any}
use Rattle.std.specs.List.Sorted.{IsPermutation}
use Rattle.std.proofs.Math.Nat.{div-mul-le_self, lt-div-mul-add, mul-div_cancel}
use Rattle.std.proofs.lemmas.Bool.{leb-true}
use Rattle.std.proofs.lemmas.Bool.Decides.{nat_tests}
use Rattle.std.proofs.lemmas.List.{get_or_default}
use Rattle.std.proofs.lemmas.List.Elements.{All-cons, All-head, All-nil, All-tail}
use Rattle.std.proofs.lemmas.List.Elements.{Contains-append_left, Contains-append_right}
use Rattle.std.proofs.lemmas.List.Folds.{list_any_none}
use Rattle.std.proofs.lemmas.List.Sorted.{Contains-permutation}
use Rattle.std.proofs.lemmas.Nat.{pow_pos}
use Rattle.std.specs.Option.{option_map_or}
use Rattle.mw_text.specs.Address.{block, covers, prefix_at}
use Rattle.ios_ast.specs.declared.file.File.{File}
use Rattle.ios_ast.specs.declared.file.IfAddr.{IfAddr}
use Rattle.ios_ast.specs.declared.file.Iface.{Iface}
use Rattle.net_interfaces.specs.declared.interfaces.Addressed.{Addressed}
use Rattle.net_interfaces.specs.declared.interfaces.IfaceId.{IfaceId}
use Rattle.net_refusals.specs.declared.refusals.NetCause.TheVariants.{SameAddress, SubnetClash}
use Rattle.net_refusals.specs.Apart.{Follows, KeptAbroad, end_of}
use Rattle.net_interfaces.specs.Interfaces.{addressed, addressed_from, addressed_iface, addressed_routers, is_loopback}
use Rattle.net_refusals.specs.Refusals.{addresses_overlap, are_on_one, clash_line, clashes_abroad, earlier}
use Rattle.net_refusals.specs.Refusals.{has_address, least, some_has, taken_line}
use Rattle.net_interfaces.proofs.Pairs.{every_pair}

-- ---- the order

chained : (a b c p q r k l m K L : ℕ) (u v w : Bool) → (k ≡ l → K ≡ L) →
    (nat_lt a b && (nat_le (p + K) q || (((p == q) && (k == l)) && not (u || v)))) ≡ true →
    (nat_lt b c && (nat_le (q + L) r || (((q == r) && (l == m)) && not (v || w)))) ≡ true →
    (nat_lt a c && (nat_le (p + K) r || (((p == r) && (k == m)) && not (u || w)))) ≡ true
chained a b c p q r k l m K L u v w same one two = grind (arith, nat_tests)

follows-trans : (x y z : Addressed) → Follows x y → Follows y z → Follows x z
follows-trans x y z one two =
    chained x.addr.0 y.addr.0 z.addr.0 x.subnet.addr.0 y.subnet.addr.0 z.subnet.addr.0 x.subnet.len y.subnet.len
    z.subnet.len (block x.subnet.len) (block y.subnet.len) x.loopback y.loopback z.loopback (ap block) one two

-- in a list each item of which follows the one before, each follows all before it
pub all_follow : (xs : List Addressed) → AllAdjacentBelow Follows xs (length xs) → AllPairs Follows xs
all_follow xs each = every_pair Follows follows-trans xs each

-- of two of its items that are of two routers one follows the other
pub one_follows : (xs ys : List Addressed) → IsPermutation xs ys → AllPairs Follows ys → (x y : Addressed) →
    Contains xs x → Contains xs y → x.id.router < y.id.router → Follows x y ⊎ Follows y x
one_follows xs ys moved up x y has_x has_y differ =
    by_places (Contains-permutation xs ys x moved has_x) (Contains-permutation xs ys y moved has_y)
  where
    cases_order : (k n : ℕ) → (k < n) ⊎ ((k ≡ n) ⊎ (n < k))
    cases_order k n = grind arith

    by_places : Contains ys x → Contains ys y → Follows x y ⊎ Follows y x
    by_places (i, low, is_x) (j, high, is_y) = by_order (cases_order i j) where
      there : (d : Addressed) → get_or ys j d ≡ y
      there d = get_or_default ys j d y high ∙ is_y

      here : (d : Addressed) → get_or ys i d ≡ x
      here d = get_or_default ys i d x low ∙ is_x

      by_order : (i < j) ⊎ ((i ≡ j) ⊎ (j < i)) → Follows x y ⊎ Follows y x
      by_order (inl less) =
          inl (subst (λ z. Follows x z) (there x)
          (subst (λ z. Follows z (get_or ys j x)) (here x) (up i j x less high)))
      by_order (inr (inr more)) =
          inr (subst (λ z. Follows y z) (here x) (subst (λ z. Follows z (get_or ys i x)) (there x) (up j i x more low)))
      by_order (inr (inl same)) =
          let one : x ≡ y = sym (here x) ∙ ap (λ n. get_or ys n x) same ∙ there x in
          let routers : x.id.router ≡ y.id.router = ap (λ z. z.id.router) one in
          absurd (omega (arith, routers, differ))

-- ---- what follows does not clash

past_first : (q u v p A : ℕ) → q < u + A → v ≤ p → p + A ≤ q → u ≡ v → ⊥
past_first q u v p A over under past same = omega arith

before_last : (q u v p A : ℕ) → 0 < A → u ≤ p → v ≡ q → p + A ≤ q → u ≡ v → ⊥
before_last q u v p A some under whole past same = omega arith

both_false : (a b c d : ℕ) → (a ≡ b → ⊥) → (c ≡ d → ⊥) → ((a == b) || (c == d)) ≡ false
both_false a b c d one two = grind (arith, nat_tests)

-- where a block of B addresses begins after one of A addresses neither lies in the other
parted : (p b A B : ℕ) → 0 < A → 0 < B → p + A ≤ b * B →
    (((b * B) / A == p / A) || (p / B == (b * B) / B)) ≡ false
parted p b A B some_A some_B past =
    both_false ((b * B) / A) (p / A) (p / B) ((b * B) / B)
    (λ same. past_first (b * B) ((b * B) / A * A) (p / A * A) p A (lt-div-mul-add some_A) (div-mul-le_self p A) past
    (ap (λ n. n * A) same))
    (λ same. before_last (b * B) (p / B * B) ((b * B) / B * B) p A some_A (div-mul-le_self p B)
    (ap (λ n. n * B) (mul-div_cancel b some_B)) past (ap (λ n. n * B) same))

no_overlap : (a b : IfAddr) → nat_le (end_of (prefix_at a.addr a.len)) (prefix_at b.addr b.len).addr.0 ≡ true →
    addresses_overlap a b ≡ false
no_overlap a b past =
    parted (prefix_at a.addr a.len).addr.0 (b.addr.0 / block b.len) (block a.len) (block b.len) (pow_pos (32 - a.len))
    (pow_pos (32 - b.len)) (leb-true _ _ past)

-- the subnets of two interfaces clash, which may be loopbacks
abbrev Clashing : IfAddr → Bool → IfAddr → Bool → Bool
Clashing a k b l = addresses_overlap a b && not (are_on_one a b && not (k || l))

kept : (n b c k l o : Bool) → (n && (b || (c && not (k || l)))) ≡ true → (b ≡ true → o ≡ false) →
    (o && not (c && not (k || l))) ≡ false
kept n b c k l o is none = grind arith

turned : (o u : Bool) (p q m n : ℕ) (k l : Bool) → ((o || u) && not (((p == q) && (m == n)) && not (k || l)))
    ≡ ((u || o) && not (((q == p) && (n == m)) && not (l || k)))
turned o u p q m n k l = grind (arith, nat_tests)

clashing_turned : (a b : IfAddr) (k l : Bool) → Clashing a k b l ≡ Clashing b l a k
clashing_turned a b k l =
    let p = prefix_at a.addr a.len in
    let q = prefix_at b.addr b.len in
    turned (covers p q.addr) (covers q p.addr) p.addr.0 q.addr.0 p.len q.len k l

in_turn : (i j : IfaceId) (f g : Iface) (a b : IfAddr) → Follows (addressed_iface i f a) (addressed_iface j g b) →
    Clashing a (is_loopback f.name) b (is_loopback g.name) ≡ false
in_turn i j f g a b one =
    kept (nat_lt a.addr.0 b.addr.0) (nat_le (end_of (prefix_at a.addr a.len)) (prefix_at b.addr b.len).addr.0)
    (are_on_one a b) (is_loopback f.name) (is_loopback g.name) (addresses_overlap a b) one (no_overlap a b)

no_clash : (i j : IfaceId) (f g : Iface) (a b : IfAddr) →
    Follows (addressed_iface i f a) (addressed_iface j g b) ⊎ Follows (addressed_iface j g b) (addressed_iface i f a) →
    Clashing b (is_loopback g.name) a (is_loopback f.name) ≡ false
no_clash i j f g a b (inl one) =
    clashing_turned b a (is_loopback g.name) (is_loopback f.name) ∙ in_turn i j f g a b one
no_clash i j f g a b (inr one) = in_turn j i g f b a one

ordered_apart : (a b : ℕ) (c : Bool) → (nat_lt a b && c) ≡ true → (a == b) ≡ false
ordered_apart a b c one = grind (arith, nat_tests)

apart_ordered : (a b : ℕ) (c : Bool) → (nat_lt b a && c) ≡ true → (a == b) ≡ false
apart_ordered a b c one = grind (arith, nat_tests)

differ : (x y : Addressed) → Follows x y ⊎ Follows y x → (x.addr.0 == y.addr.0) ≡ false
differ x y (inl one) = ordered_apart x.addr.0 y.addr.0 _ one
differ x y (inr one) = apart_ordered x.addr.0 y.addr.0 _ one

-- ---- interfaces of files

-- a fact of each interface of a router, from that of each which has an address
each_iface : (P : Addressed → Type 0) (Q : Iface → Type 0) (r : ℕ) →
    ((id : IfaceId) (iface : Iface) (a : IfAddr) → id.router ≡ r → P (addressed_iface id iface a)
    → iface.address ≡ Some a
    → Q iface) →
    ((iface : Iface) → iface.address ≡ None → Q iface) → (at : ℕ) (interfaces : List Iface) →
    ((x : Addressed) → Contains (addressed_from r at interfaces) x → P x) → All Q interfaces
each_iface P Q r step bare at [] each = All-nil Q
each_iface P Q r step bare at (iface ∷ rest) each =
    All-cons Q iface rest (by_address iface.address refl)
    (each_iface P Q r step bare (at + 1) rest (λ x has. each x (Contains-append_right (own iface.address) _ x has)))
  where
    id : IfaceId
    id = record { router = r; at = at }

    own : Option IfAddr → List Addressed
    own address = option_map_or (λ a. addressed_iface id iface a ∷ []) address []

    by_address : (address : Option IfAddr) → iface.address ≡ address → Q iface
    by_address None is = bare iface is
    by_address (Some a) is =
        let x = addressed_iface id iface a in
        let has : Contains (own iface.address) x = subst (λ o. Contains (own o) x) (sym is) (0, omega arith, refl) in
        step id iface a refl (each x (Contains-append_left (own iface.address) _ x has)) is

-- no interface of the files before one passes a test
none_before : (P : Addressed → Type 0) (test : Iface → Bool) (last : ℕ) →
    ((id : IfaceId) (iface : Iface) (a : IfAddr) → id.router < last → P (addressed_iface id iface a) → iface.address
    ≡ Some a → test iface ≡ false) →
    ((iface : Iface) → iface.address ≡ None → test iface ≡ false) → (files : List File) (r at : ℕ) → r + at ≡ last →
    ((x : Addressed) → Contains (addressed_routers r files) x → P x) →
    list_any (λ f. list_any test f.interfaces) (take at files) ≡ false
none_before P test last step bare files r zero is each = refl
none_before P test last step bare [] r (suc at) is each = refl
none_before P test last step bare (f ∷ rest) r (suc at) is each =
    let here : list_any test f.interfaces ≡ false = list_any_none test f.interfaces
    (each_iface P (λ iface. test iface ≡ false) r
    (λ id iface a same has found. step id iface a (omega (arith, same, is)) has found) bare 0 f.interfaces
    (λ x has. each x (Contains-append_left (addressed_from r 0 f.interfaces) _ x has))) in
    rw here (none_before P test last step bare rest (r + 1) at (omega (arith, is))
    (λ x has. each x (Contains-append_right (addressed_from r 0 f.interfaces) _ x has)))

-- an interface of one of the files is one of all
of_file : (files : List File) (r at : ℕ) (file : File) (x : Addressed) → slice_get files at ≡ Some file →
    Contains (addressed_from (r + at) 0 file.interfaces) x → Contains (addressed_routers r files) x
of_file [] r at file x found has = cc
of_file (f ∷ rest) r zero file x found has =
    let same : file ≡ f = cc in
    let place : r + 0 ≡ r = omega arith in
    Contains-append_left (addressed_from r 0 f.interfaces) _ x
    (subst (λ g. Contains (addressed_from r 0 g.interfaces) x) same
    (subst (λ n. Contains (addressed_from n 0 file.interfaces) x) place has))
of_file (f ∷ rest) r (suc at) file x found has =
    let place : r + suc at ≡ (r + 1) + at = omega arith in
    Contains-append_right (addressed_from r 0 f.interfaces) _ x
    (of_file rest (r + 1) at file x found (subst (λ n. Contains (addressed_from n 0 file.interfaces) x) place has))

pub of_one : (files : List File) (at : ℕ) (file : File) (x : Addressed) → slice_get files at ≡ Some file →
    Contains (addressed_from at 0 file.interfaces) x → Contains (addressed files) x
of_one files at file x found has =
    let place : at ≡ 0 + at = omega arith in
    of_file files 0 at file x found (subst (λ n. Contains (addressed_from n 0 file.interfaces) x) place has)

-- ---- the rules

-- rules that agree at each part have one first line
least_same : {A : Type 0} (f g : A → Option ℕ) (xs : List A) → All (λ x. f x ≡ g x) xs → least f xs ≡ least g xs
least_same {A = A} f g xs all = from None xs all where
  from : (first : Option ℕ) (xs : List A) → All (λ x. f x ≡ g x) xs → fold (λ a x. earlier a (f x)) first xs
      ≡ fold (λ a x. earlier a (g x)) first xs
  from first [] all = refl
  from first (x ∷ rest) all =
      ap (λ n. fold (λ a y. earlier a (f y)) (earlier first n) rest) (All-head (λ y. f y ≡ g y) x rest all)
      ∙ from (earlier first (g x)) rest (All-tail (λ y. f y ≡ g y) x rest all)

-- of two interfaces of two files one follows the other
abbrev pub AreApart : List File → Type 0
AreApart files =
    (x y : Addressed) → Contains (addressed files) x → Contains (addressed files) y → x.id.router < y.id.router →
    Follows x y ⊎ Follows y x

pub no_address_abroad : (files : List File) → AreApart files → KeptAbroad SameAddress files
no_address_abroad files apart at file found =
    least_same (taken_line (take at files) file) (taken_line [] file) file.interfaces
    (each_iface (Contains (addressed files)) (λ iface. taken_line (take at files) file iface ≡ taken_line [] file iface)
    at (λ id iface a same has is.
    let none : some_has a.addr (take at files) ≡ false =
    none_before (Contains (addressed files)) (has_address a.addr) at
    (λ other_id other b lower has_other is_b. rw is_b
    (differ (addressed_iface other_id other b) (addressed_iface id iface a)
    (apart (addressed_iface other_id other b) (addressed_iface id iface a) has_other has
    (omega (arith, same, lower))))) (λ other is_none. rw is_none refl) files 0 at (omega arith) (λ x has_x. has_x) in
    rw (is, none) refl) (λ iface is. rw is refl) 0 file.interfaces
    (λ x has. of_one files at file x found has))

pub no_subnet_abroad : (files : List File) → AreApart files → KeptAbroad SubnetClash files
no_subnet_abroad files apart at file found =
    least_same (clash_line (take at files) file) (clash_line [] file) file.interfaces
    (each_iface (Contains (addressed files)) (λ iface. clash_line (take at files) file iface ≡ clash_line [] file iface)
    at (λ id iface a same has is.
    let none : list_any (λ f. list_any (clashes_abroad a (is_loopback iface.name)) f.interfaces) (take at files) ≡ false
    = none_before (Contains (addressed files)) (clashes_abroad a (is_loopback iface.name)) at
    (λ other_id other b lower has_other is_b. rw is_b
    (no_clash other_id id other iface b a
    (apart (addressed_iface other_id other b) (addressed_iface id iface a) has_other has
    (omega (arith, same, lower))))) (λ other is_none. rw is_none refl) files 0 at (omega arith) (λ x has_x. has_x) in
    rw (is, none) refl) (λ iface is. rw is refl) 0 file.interfaces
    (λ x has. of_one files at file x found has))
