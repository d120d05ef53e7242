-- At most one subnet of a network covers an address.
use Rattle.std.proofs.Common.{◌≡◌, ℕ, zero, suc, ◌+◌, ◌-◌, ◌/◌, ◌^◌, ◌<◌, ◌≤◌, Bool, true, false, ◌&&◌, ◌||◌, not}
use Rattle.std.proofs.Common.{List, [], ◌∷◌, take, Some, None, refl, ap, sym, subst, ◌∙◌, ◌⊎◌, inl, inr, arith}
use Rattle.std.proofs.lemmas.Bool.{and_parts, eq-eqb, eqb-true, lt-ltb, or_left, or_parts, or_right}
use Rattle.std.proofs.lemmas.Nat.{shr-shr}
use Rattle.std.specs.List.{list_any}
use Rattle.std.specs.Option.{option_map_or}
use Rattle.std.specs.Prelude.{◌==◌, Contains, nat_lt, option_and_then, slice_get}
use Rattle.mw_text.proofs.Lists.{all_at, none_passes}
use Rattle.mw_text.specs.declared.address.Addr.{Addr}
use Rattle.mw_text.specs.declared.address.Prefix.{Prefix}
use Rattle.mw_text.specs.Address.{block, covers, prefix_at, same_prefix}
use Rattle.ios_ast.specs.declared.file.File.{File}
use Rattle.ios_ast.specs.declared.file.IfAddr.{IfAddr}
use Rattle.ios_ast.specs.declared.file.Iface.{Iface}
use Rattle.ios_ast.proofs.KeptLimits.{limits_of}
use Rattle.ios_ast.proofs.Pairs.{pair_at}
use Rattle.net_interfaces.specs.declared.interfaces.Addressed.{Addressed}
use Rattle.net_refusals.specs.declared.refusals.NetCause.TheVariants.{SubnetClash}
use Rattle.net_interfaces.specs.Connected.{overlap}
use Rattle.net_interfaces.specs.Interfaces.{addressed, addressed_iface, is_loopback}
use Rattle.net_interfaces.specs.Limits.{each_pair, have_two_lines, keeps_limits}
use Rattle.net_refusals.specs.Network.{IsNetwork}
use Rattle.net_refusals.specs.Refusals.{addresses_overlap, are_on_one, clash_line, clashes, clashes_above, clashes_abroad}
use Rattle.net_refusals.specs.Refusals.{first_refusal, line_if}
use Rattle.net_refusals.proofs.Few.{no_line}
use Rattle.net_model.proofs.Placed.{IsPlaced, placed}
use Rattle.net_model.proofs.Unbroken.{least_none, subnets_apart, unbroken_at}

-- ---- prefixes that cover one address

-- where a number begins as one that is shorter and as one that is longer, the longer begins as the shorter
begins : (a p q k l : ℕ) → l ≤ k → a / 2 ^ k ≡ p / 2 ^ k → a / 2 ^ l ≡ q / 2 ^ l → q / 2 ^ k ≡ p / 2 ^ k
begins a p q k l less one other =
    let more : ℕ = k - l in
    let sum : k ≡ l + more = omega (arith, less) in
    let parts : (n : ℕ) → n / 2 ^ k ≡ n / 2 ^ l / 2 ^ more =
    λ n. ap (λ m. n / 2 ^ m) sum ∙ sym (shr-shr n l more) in
    parts q ∙ ap (λ n. n / 2 ^ more) (sym other) ∙ sym (parts a) ∙ one

cases_le : (k l : ℕ) → (l ≤ k) ⊎ (k ≤ l)
cases_le k l = grind arith

-- they overlap
pub both_cover : (p q : Prefix) (a : Addr) → covers p a ≡ true → covers q a ≡ true → overlap p q ≡ true
both_cover p q a one other = by_length (cases_le (32 - p.len) (32 - q.len)) where
  first : a.0 / block p.len ≡ p.addr.0 / block p.len
  first = eqb-true (a.0 / block p.len) (p.addr.0 / block p.len) one

  second : a.0 / block q.len ≡ q.addr.0 / block q.len
  second = eqb-true (a.0 / block q.len) (q.addr.0 / block q.len) other

  by_length : (32 - q.len ≤ 32 - p.len) ⊎ (32 - p.len ≤ 32 - q.len) → overlap p q ≡ true
  by_length (inl longer) =
      or_left (covers p q.addr) (covers q p.addr)
      (eq-eqb _ _ (begins a.0 p.addr.0 q.addr.0 (32 - p.len) (32 - q.len) longer first second))
  by_length (inr shorter) =
      or_right (covers p q.addr) (covers q p.addr)
      (eq-eqb _ _ (begins a.0 q.addr.0 p.addr.0 (32 - q.len) (32 - p.len) shorter second first))

-- prefixes that are the same are one
pub one_prefix : (p q : Prefix) → same_prefix p q ≡ true → p ≡ q
one_prefix p q same =
    let parts = and_parts (p.addr.0 == q.addr.0) (p.len == q.len) same in
    let addr : p.addr.0 ≡ q.addr.0 = eqb-true p.addr.0 q.addr.0 parts.0 in
    let len : p.len ≡ q.len = eqb-true p.len q.len parts.1 in
    ap (λ n. record { addr = record { 0 = n }; len = p.len }) addr
    ∙ ap (λ n. record { addr = q.addr; len = n }) len

-- ---- the rule on subnets, at one interface

-- an item of a list is in its front
pub in_front : {A : Type 0} (xs : List A) (i j : ℕ) (x : A) → i < j → slice_get xs i ≡ Some x →
    slice_get (take j xs) i ≡ Some x
in_front [] i j x less there = absurd cc
in_front (y ∷ rest) i zero x less there = absurd (omega arith)
in_front (y ∷ rest) zero (suc j) x less there = there
in_front (y ∷ rest) (suc i) (suc j) x less there = in_front rest i j x (omega arith) there

-- the subnet of an interface of a network does not clash
clear_at : (files : List File) → first_refusal files ≡ None → (router at : ℕ) (file : File) (iface : Iface)
    (own : IfAddr) → slice_get files router ≡ Some file → slice_get file.interfaces at ≡ Some iface →
    iface.address ≡ Some own → clashes (take router files) file own (is_loopback iface.name) ≡ false
clear_at files unrefused router at file iface own found there address =
    let line = unbroken_at SubnetClash files router file (subnets_apart files unrefused) found in
    let here = least_none (clash_line (take router files) file) file.interfaces line at iface there in
    no_line (clashes (take router files) file own (is_loopback iface.name)) own.line
    (subst (λ o. option_and_then
    (λ a. line_if (clashes (take router files) file a (is_loopback iface.name)) a.line) o ≡ None) address here)

alone : (o c k l : Bool) → (o && not (c && not (k || l))) ≡ false → o ≡ true → (c ≡ true) × (k ≡ false) × (l ≡ false)
alone true true false false clear over = (refl, refl, refl)
alone true true false true clear over = absurd cc
alone true true true l clear over = absurd cc
alone true false k l clear over = absurd cc
alone false c k l clear over = absurd cc

-- with one of an earlier file it is on one subnet, and neither is a loopback
with_earlier : (files : List File) → first_refusal files ≡ None → (r s i j : ℕ) (file other : File) (f g : Iface)
    (a b : IfAddr) → r < s → slice_get files r ≡ Some file → slice_get files s ≡ Some other →
    slice_get file.interfaces i ≡ Some f → slice_get other.interfaces j ≡ Some g → f.address ≡ Some a →
    g.address ≡ Some b → addresses_overlap b a ≡ true →
    (are_on_one b a ≡ true) × (is_loopback g.name ≡ false) × (is_loopback f.name ≡ false)
with_earlier files unrefused r s i j file other f g a b less found found_other there there_other own own_other over =
    let loopback : Bool = is_loopback g.name in
    let clear = clear_at files unrefused s j other g b found_other there_other own_other in
    let abroad = (or_parts (list_any (λ h. list_any (clashes_abroad b loopback) h.interfaces) (take s files))
    (list_any (clashes_above b) other.interfaces) clear).0 in
    let in_file = none_passes (λ (h : File). list_any (clashes_abroad b loopback) h.interfaces) (take s files) r file
    abroad (in_front files r s file less found) in
    let here = none_passes (clashes_abroad b loopback) file.interfaces i f in_file there in
    alone (addresses_overlap b a) (are_on_one b a) loopback (is_loopback f.name)
    (subst (λ o. option_map_or (λ z. addresses_overlap b z
    && not (are_on_one b z && not (loopback || is_loopback f.name))) o false ≡ false) own here) over

both_true : (n o : Bool) → (n && o) ≡ false → n ≡ true → o ≡ true → ⊥
both_true true true clear one two = cc
both_true true false clear one two = cc
both_true false o clear one two = cc

-- it overlaps none of an earlier line of its file
with_above : (files : List File) → first_refusal files ≡ None → (r i j : ℕ) (file : File) (f g : Iface) (a b : IfAddr) →
    slice_get files r ≡ Some file → slice_get file.interfaces i ≡ Some f → slice_get file.interfaces j ≡ Some g →
    f.address ≡ Some a → g.address ≡ Some b → a.line < b.line → addresses_overlap b a ≡ true → ⊥
with_above files unrefused r i j file f g a b found there there_other own own_other less over =
    let clear = clear_at files unrefused r j file g b found there_other own_other in
    let above = (or_parts (list_any (λ h. list_any (clashes_abroad b (is_loopback g.name)) h.interfaces)
    (take r files)) (list_any (clashes_above b) file.interfaces) clear).1 in
    let here = none_passes (clashes_above b) file.interfaces i f above there in
    both_true (nat_lt a.line b.line) (addresses_overlap b a)
    (subst (λ o. option_map_or (λ z. nat_lt z.line b.line && addresses_overlap b z) o false ≡ false) own here)
    (lt-ltb _ _ less) over

-- ---- two interfaces of one router

pub negated : (b : Bool) → not b ≡ true → b ≡ true → ⊥
negated true denied holds = cc
negated false denied holds = cc

-- they have their addresses by two lines
two_lines : (interfaces : List Iface) → each_pair have_two_lines interfaces ≡ true → (i j : ℕ) (f g : Iface)
    (a b : IfAddr) → i < j → slice_get interfaces i ≡ Some f → slice_get interfaces j ≡ Some g → f.address ≡ Some a →
    g.address ≡ Some b → a.line ≡ b.line → ⊥
two_lines interfaces apart i j f g a b less there there_other own own_other same =
    let passes = pair_at have_two_lines interfaces i j f g apart less there there_other in
    let first : option_map_or (λ z. not (a.line == z.line)) g.address true ≡ true =
    subst (λ o. option_map_or (λ y. option_map_or (λ z. not (y.line == z.line)) g.address true) o true ≡ true) own
    passes in
    let both : not (a.line == b.line) ≡ true =
    subst (λ o. option_map_or (λ z. not (a.line == z.line)) o true ≡ true) own_other first in
    negated (a.line == b.line) both (eq-eqb a.line b.line same)

cases_order : (k n : ℕ) → (k < n) ⊎ ((k ≡ n) ⊎ (n < k))
cases_order k n = grind arith

-- no address is on the subnets of both
one_of_router : (files : List File) → IsNetwork files → (a : Addr) (r i j : ℕ) (file : File) (f g : Iface)
    (b c : IfAddr) → i < j → slice_get files r ≡ Some file → slice_get file.interfaces i ≡ Some f →
    slice_get file.interfaces j ≡ Some g → f.address ≡ Some b → g.address ≡ Some c →
    covers (prefix_at b.addr b.len) a ≡ true → covers (prefix_at c.addr c.len) a ≡ true → ⊥
one_of_router files net a r i j file f g b c less found there there_other own own_other one other =
    by_lines (cases_order b.line c.line)
  where
    limits : keeps_limits file ≡ true
    limits = all_at keeps_limits files r file net.limits found

    p : Prefix
    p = prefix_at b.addr b.len

    q : Prefix
    q = prefix_at c.addr c.len

    by_lines : (b.line < c.line) ⊎ ((b.line ≡ c.line) ⊎ (c.line < b.line)) → ⊥
    by_lines (inl above) =
        with_above files net.unrefused r i j file f g b c found there there_other own own_other above
        (both_cover q p a other one)
    by_lines (inr (inl same)) =
        two_lines file.interfaces (limits_of file limits).lines i j f g b c less there there_other own own_other same
    by_lines (inr (inr below)) =
        with_above files net.unrefused r j i file g f c b found there_other there own_other own below
        (both_cover p q a one other)

-- ---- any two interfaces

-- they are of two routers and on one subnet, and neither is a loopback
pub record MeetOnOne (x y : Addressed) : Type 0 where
  pub routers : x.id.router ≡ y.id.router → ⊥
  pub subnet : x.subnet ≡ y.subnet
  pub first : x.loopback ≡ false
  pub second : y.loopback ≡ false

-- what stands at one place is one interface
pub one_place : (files : List File) (x y : Addressed) → IsPlaced files x → IsPlaced files y →
    x.id.router ≡ y.id.router → x.id.at ≡ y.id.at → x ≡ y
one_place files x y px py router at =
    let files_same : Some px.file ≡ Some py.file = sym px.router ∙ ap (slice_get files) router ∙ py.router in
    let file : px.file ≡ py.file = cc in
    let ifaces_same : Some px.iface ≡ Some py.iface = sym px.at
    ∙ ap (λ f. slice_get f.interfaces x.id.at) file ∙ ap (slice_get py.file.interfaces) at ∙ py.at in
    let iface : px.iface ≡ py.iface = cc in
    let owns_same : Some px.own ≡ Some py.own = sym px.address ∙ ap (λ i. i.address) iface ∙ py.address in
    let own : px.own ≡ py.own = cc in
    px.is ∙ ap (λ n. addressed_iface (record { router = n; at = x.id.at }) px.iface px.own) router
    ∙ ap (λ n. addressed_iface (record { router = y.id.router; at = n }) px.iface px.own) at
    ∙ ap (λ i. addressed_iface y.id i px.own) iface ∙ ap (λ a. addressed_iface y.id py.iface a) own ∙ sym py.is

-- in the order of their routers
earlier_meets : (files : List File) → first_refusal files ≡ None → (a : Addr) (x y : Addressed) → IsPlaced files x →
    IsPlaced files y → x.id.router < y.id.router → covers x.subnet a ≡ true → covers y.subnet a ≡ true → MeetOnOne x y
earlier_meets files unrefused a x y px py less one other =
    let first : x.subnet ≡ prefix_at px.own.addr px.own.len = ap (λ z. z.subnet) px.is in
    let second : y.subnet ≡ prefix_at py.own.addr py.own.len = ap (λ z. z.subnet) py.is in
    let over : addresses_overlap py.own px.own ≡ true = both_cover (prefix_at py.own.addr py.own.len)
    (prefix_at px.own.addr px.own.len) a (ap (λ p. covers p a) (sym second) ∙ other)
    (ap (λ p. covers p a) (sym first) ∙ one) in
    let meets = with_earlier files unrefused x.id.router y.id.router x.id.at y.id.at px.file py.file px.iface py.iface
    px.own py.own less px.router py.router px.at py.at px.address py.address over in
    record {
      routers = λ same. omega (arith, same, less);
      subnet =
          first ∙ sym (one_prefix (prefix_at py.own.addr py.own.len) (prefix_at px.own.addr px.own.len) meets.0)
          ∙ sym second;
      first = ap (λ z. z.loopback) px.is ∙ meets.2;
      second = ap (λ z. z.loopback) py.is ∙ meets.1;
    }

-- two of one router are one
own_one : (files : List File) → IsNetwork files → (a : Addr) (x y : Addressed) → IsPlaced files x → IsPlaced files y →
    x.id.router ≡ y.id.router → covers x.subnet a ≡ true → covers y.subnet a ≡ true → x ≡ y
own_one files net a x y px py same one other = by_places (cases_order x.id.at y.id.at) where
  files_same : Some px.file ≡ Some py.file
  files_same = sym px.router ∙ ap (slice_get files) same ∙ py.router

  file : px.file ≡ py.file
  file = let both = files_same in cc

  at_other : slice_get px.file.interfaces y.id.at ≡ Some py.iface
  at_other = ap (λ f. slice_get f.interfaces y.id.at) file ∙ py.at

  first : covers (prefix_at px.own.addr px.own.len) a ≡ true
  first = ap (λ z. covers z.subnet a) (sym px.is) ∙ one

  second : covers (prefix_at py.own.addr py.own.len) a ≡ true
  second = ap (λ z. covers z.subnet a) (sym py.is) ∙ other

  by_places : (x.id.at < y.id.at) ⊎ ((x.id.at ≡ y.id.at) ⊎ (y.id.at < x.id.at)) → x ≡ y
  by_places (inl less) =
      absurd (one_of_router files net a x.id.router x.id.at y.id.at px.file px.iface py.iface px.own py.own less
      px.router px.at at_other px.address py.address first second)
  by_places (inr (inl at)) = one_place files x y px py same at
  by_places (inr (inr more)) =
      absurd (one_of_router files net a x.id.router y.id.at x.id.at px.file py.iface px.iface py.own px.own more
      px.router at_other px.at py.address px.address second first)

turned : (x y : Addressed) → MeetOnOne x y → MeetOnOne y x
turned x y meets = record {
  routers = λ same. meets.routers (sym same);
  subnet = sym meets.subnet;
  first = meets.second;
  second = meets.first;
}

-- two interfaces on whose subnets an address lies are one, or they meet
pub one_or_meet : (files : List File) → IsNetwork files → (a : Addr) (x y : Addressed) → Contains (addressed files) x →
    Contains (addressed files) y → covers x.subnet a ≡ true → covers y.subnet a ≡ true → (x ≡ y) ⊎ MeetOnOne x y
one_or_meet files net a x y has has_other one other = by_routers (cases_order x.id.router y.id.router) where
  px : IsPlaced files x
  px = placed files x has

  py : IsPlaced files y
  py = placed files y has_other

  by_routers : (x.id.router < y.id.router) ⊎ ((x.id.router ≡ y.id.router) ⊎ (y.id.router < x.id.router)) →
      (x ≡ y) ⊎ MeetOnOne x y
  by_routers (inl less) = inr (earlier_meets files net.unrefused a x y px py less one other)
  by_routers (inr (inl same)) = inl (own_one files net a x y px py same one other)
  by_routers (inr (inr more)) = inr (turned y x (earlier_meets files net.unrefused a y x py px more other one))
