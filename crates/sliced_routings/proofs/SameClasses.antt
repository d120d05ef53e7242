-- Between two cuts all lengths are the same to every line of the files.
use Rattle.std.proofs.Common.{◌≡◌, ℕ, ◌+◌, ◌*◌, ◌-◌, ◌/◌, ◌^◌, ◌<◌, ◌≤◌, Bool, true, false, List, []}
use Rattle.std.proofs.Common.{◌∷◌}
use Rattle.std.proofs.Common.{Option, Some, None, inl, inr, refl, sym, ap, ap₂, subst, arith, ◌∙◌}
use Rattle.std.specs.Prelude.{◌⊎◌, All, filter, not, ◌&&◌, ◌||◌, ◌==◌, max, nat_le, nat_lt, slice_get}
use Rattle.std.specs.Prelude.{if◌then◌else◌}
use Rattle.std.proofs.Common.{get_or}
use Rattle.std.specs.List.{cons_option, filter_map, find, list_any}
use Rattle.std.specs.Option.{option_map_or}
use Rattle.std.proofs.Math.Bool.{and-true}
use Rattle.std.proofs.Math.Nat.{le-max_left, le-max_right, mul-div_cancel}
use Rattle.std.proofs.lemmas.Nat.{pow_pos}
use Rattle.std.proofs.lemmas.Bool.{cases_lt, eqb-true, eq-eqb, or_parts, le-leb, leb-true}
use Rattle.std.proofs.lemmas.List.Elements.{All-cons, All-head, All-nil, All-tail}
use Rattle.mw_text.proofs.Lists.{all_found, filter_none}
use Rattle.mw_text.specs.declared.address.Addr.{Addr}
use Rattle.mw_text.specs.declared.address.Prefix.{Prefix}
use Rattle.mw_text.specs.Address.{block, covers, prefix_at, same_prefix}
use Rattle.mw_text.specs.Text.{same_text}
use Rattle.mw_text.proofs.Found.{all_find}
use Rattle.mw_text.proofs.Numbers.{coarser}
use Rattle.ios_ast.specs.declared.bgp.Bgp.{Bgp}
use Rattle.ios_ast.specs.declared.bgp.BgpNet.{BgpNet}
use Rattle.ios_ast.specs.declared.file.File.{File}
use Rattle.ios_ast.specs.declared.file.Use.{Use}
use Rattle.ios_ast.specs.declared.ospf.Ospf.{Ospf}
use Rattle.ios_ast.specs.declared.policies.MapEntry.{MapEntry}
use Rattle.ios_ast.specs.declared.policies.Match.{Match}
use Rattle.ios_ast.specs.declared.policies.Match.TheVariants.{Access, Prefixes, Communities, Paths}
use Rattle.ios_ast.specs.declared.policies.PrefixEntry.{PrefixEntry}
use Rattle.ios_ast.specs.declared.policies.PrefixList.{PrefixList}
use Rattle.ios_ast.specs.declared.policies.RouteMap.{RouteMap}
use Rattle.ios_ast.specs.Maps.{deciding, route_taken}
use Rattle.ios_ast.specs.Matching.{asks, kind_holds, kind_of, line_holds, prefixes_named}
use Rattle.ios_ast.specs.Prefixes.{prefix_permitted, prefix_taken}
use Rattle.ios_ast.specs.Setting.{Attributes}
use Rattle.net_interfaces.specs.declared.interfaces.Addressed.{Addressed}
use Rattle.net_parts.specs.declared.ospf.OspfInterface.{OspfInterface}
use Rattle.net_interfaces.specs.Interfaces.{addressed}
use Rattle.ios_ast.specs.Maps.{entries_named}
use Rattle.ios_ast.proofs.Order.{ordered_all}
use Rattle.net_parts.specs.Origins.{is_classful}
use Rattle.net_parts.specs.Ospf.{advertisement, ospf_at, ospf_interfaces}
use Rattle.net_parts.specs.World.{is_up}
use Rattle.net_parts.specs.Routing.{counts}
use Rattle.net_parts.proofs.LeastWalks.{ospf_at-same}
use Rattle.sliced_routings.proofs.Found.{find_alike}
use Rattle.alike_prefixes.specs.Alike.{IsBare, NamesAnother, TakesClassAlike}
use Rattle.alike_prefixes.specs.Moving.{ArePlain}
use Rattle.sliced_routings.specs.Cuts.{asks_access, bounds, bounds_class, bounds_entry, bounds_list, bounds_loopback}
use Rattle.sliced_routings.specs.Cuts.{is_access, is_classful_only, is_cut, is_cut_by, networks_of, redistributed_into}
use Rattle.sliced_routings.specs.Cuts.{uses_access}

-- ---- what is known where no cut is

none_all : {A : Type 0} (p : A → Bool) (xs : List A) → list_any p xs ≡ false → All (λ x. p x ≡ false) xs
none_all p [] none = All-nil (λ x. p x ≡ false)
none_all p (x ∷ xs) none =
    let both = or_parts (p x) (list_any p xs) none in
    All-cons (λ y. p y ≡ false) x xs both.0 (none_all p xs both.1)

abbrev pub IsNoEnd : ℕ → ℕ → Type 0
IsNoEnd l m = bounds l m ≡ false

pub record IsClearOf (l : ℕ) (file : File) : Type 0 where
  pub statics : All (λ r. IsNoEnd l r.prefix.len) file.statics
  pub networks : All (λ n. IsNoEnd l n.prefix.len) (networks_of file)
  pub lists : All (λ x. All (λ e. bounds_entry l e ≡ false) x.entries) file.policies.prefix_lists
  pub classes : (bounds_class l && list_any is_classful_only (redistributed_into file)) ≡ false
  pub access : All (λ m. All (λ e. All (λ x. is_access x ≡ false) e.matches) m.entries) file.policies.maps

pub record IsClear (files : List File) (l : ℕ) : Type 0 where
  pub first : (l == 1) ≡ false
  pub subnets : All (λ x. IsNoEnd l x.subnet.len) (addressed files)
  pub loopbacks : All (λ x. bounds_loopback l x ≡ false) (ospf_interfaces files)
  pub each : (router : ℕ) (file : File) → slice_get files router ≡ Some file → IsClearOf l file

file_clear : (l : ℕ) (file : File) → is_cut_by l file ≡ false → IsClearOf l file
unfolding is_cut_by
file_clear l file none =
    let a = or_parts _ _ none in
    let b = or_parts _ _ a.1 in
    let c = or_parts _ _ b.1 in
    let d = or_parts _ _ c.1 in
    record {
      statics = none_all (λ r. bounds l r.prefix.len) file.statics a.0;
      networks = none_all (λ n. bounds l n.prefix.len) (networks_of file) b.0;
      lists = λ k x within. none_all (bounds_entry l) _
          (none_all (bounds_list l) file.policies.prefix_lists c.0 k x within);
      classes = d.0;
      access = λ k m within. λ j e inside. none_all is_access _
          (none_all asks_access _ (none_all uses_access file.policies.maps d.1 k m within) j e inside);
    }

pub clear : (files : List File) (l : ℕ) → is_cut files l ≡ false → IsClear files l
unfolding is_cut
clear files l none =
    let a = or_parts _ _ none in
    let b = or_parts _ _ a.1 in
    let c = or_parts _ _ b.1 in
    record {
      first = a.0;
      subnets = none_all (λ x. bounds l x.subnet.len) (addressed files) b.0;
      loopbacks = none_all (bounds_loopback l) (ospf_interfaces files) c.0;
      each = λ router file at. file_clear l file (all_found (λ f. is_cut_by l f ≡ false) files router file
          (none_all (is_cut_by l) files c.1) at);
    }

-- ---- nothing stands at the length

and_false : (b : Bool) → (b && false) ≡ false
and_false true = refl
and_false false = refl

other : (x : Prefix) (d : Addr) (len : ℕ) → (x.len == len) ≡ false → same_prefix x (prefix_at d len) ≡ false
other x d len not_same =
    ap (λ b. (x.addr.0 == (prefix_at d len).addr.0) && b) not_same
    ∙ and_false (x.addr.0 == (prefix_at d len).addr.0)

none_of_filter : {A : Type 0} (p test : A → Bool) (xs : List A) → All (λ x. p x ≡ false) xs →
    list_any p (filter test xs) ≡ false
none_of_filter p test [] all = refl
none_of_filter p test (x ∷ xs) all =
    by (test x) (none_of_filter p test xs (All-tail (λ y. p y ≡ false) x xs all))
  where
    by : (b : Bool) → list_any p (filter test xs) ≡ false →
        list_any p (if b then x ∷ filter test xs else filter test xs) ≡ false
    by true rest = ap₂ (λ a b. a || b) (All-head (λ y. p y ≡ false) x xs all) rest
    by false rest = rest

none_any : {A : Type 0} (p : A → Bool) (xs : List A) → All (λ x. p x ≡ false) xs → list_any p xs ≡ false
none_any p [] all = refl
none_any p (x ∷ xs) all = ap₂ (λ a b. a || b) (All-head (λ y. p y ≡ false) x xs all)
    (none_any p xs (All-tail (λ y. p y ≡ false) x xs all))

-- what is true of all items is true of all that is made of them
all_made : {A B : Type 0} (P : A → Type 0) (Q : B → Type 0) (f : A → Option B) (xs : List A) →
    ((x : A) (y : B) → f x ≡ Some y → P x → Q y) → All P xs → All Q (filter_map f xs)
all_made P Q f [] gives all = All-nil Q
all_made P Q f (x ∷ xs) gives all = by (f x) refl (all_made P Q f xs gives (All-tail P x xs all)) where
  by : (o : Option _) → f x ≡ o → All Q (filter_map f xs) → All Q (cons_option o (filter_map f xs))
  by None none rest = rest
  by (Some y) is rest = All-cons Q y (filter_map f xs) (gives x y is (All-head P x xs all)) rest

module _ (files : List File) (l len : ℕ) (known : IsClear files l) (zero_not : (len == 0) ≡ false)
    (off : (m : ℕ) → IsNoEnd l m → (m == len) ≡ false) (d : Addr) where
  nets_off : (file : File) (process : Bgp) → file.bgp ≡ Some process → All (λ n. IsNoEnd l n.prefix.len)
      (networks_of file) →
      All (NamesAnother (prefix_at d len)) process.networks
  nets_off file process runs all = λ k n within. other _ d len (off _ (moved k n within)) where
    moved : All (λ n. IsNoEnd l n.prefix.len) process.networks
    moved = subst (λ o. All (λ (n : BgpNet). IsNoEnd l n.prefix.len) (option_map_or (λ b. b.networks) o [])) runs all

  bare : IsBare files (prefix_at d len)
  unfolding ospf_interfaces
  bare = record {
    not_default = zero_not;
    direct = λ failures router. none_of_filter (λ x. same_prefix x.subnet (prefix_at d len)) _ (addressed files)
        (λ k x within. other _ d len (off _ (known.subnets k x within)));
    statics = λ router file up at. filter_none (λ r. same_prefix r.prefix (prefix_at d len) && counts up r) file.statics
        (λ k r within. ap (λ b. b && counts up (get_or file.statics k r))
        (other _ d len (off _ ((known.each router file at).statics k r within))));
    origins = λ failures router. filter_none _ (ospf_interfaces files) (λ k x within.
        ap (λ b. ((get_or (ospf_interfaces files) k x).at.id.router == router)
        && (b && is_up files failures (get_or (ospf_interfaces files) k x).at))
        (other _ d len (off _ (advertised_off k x within)))
        ∙ and_false ((get_or (ospf_interfaces files) k x).at.id.router == router));
    networks = λ router file process at runs. nets_off file process runs (known.each router file at).networks;
    no_subnet = λ router. none_any _ (ospf_interfaces files) (λ k x within.
        ap (λ b. ((get_or (ospf_interfaces files) k x).at.id.router == router) && b)
        (other _ d len (off _ (running_off k x within)))
        ∙ and_false ((get_or (ospf_interfaces files) k x).at.id.router == router));
  } where
    running_off : All (λ (x : OspfInterface). IsNoEnd l x.at.subnet.len) (ospf_interfaces files)
    running_off = all_made (λ (x : Addressed). IsNoEnd l x.subnet.len) (λ
        (x : OspfInterface). IsNoEnd l x.at.subnet.len)
        (ospf_at files) (addressed files)
        (λ x y is h. subst (λ (z : Addressed). IsNoEnd l z.subnet.len) (sym (ospf_at-same files x y is)) h) known.subnets

    advertised_of : (x : OspfInterface) → IsNoEnd l x.at.subnet.len → bounds_loopback l x ≡ false →
        IsNoEnd l (advertisement x).len
    advertised_of x subnet loopback = by x.at.loopback loopback where
      by : (b : Bool) → (b && bounds l 32) ≡ false → IsNoEnd l (if b then prefix_at x.at.addr 32 else x.at.subnet).len
      by true none = none
      by false none = subnet

    advertised_off : All (λ (x : OspfInterface). IsNoEnd l (advertisement x).len) (ospf_interfaces files)
    advertised_off = λ k x within. advertised_of (get_or (ospf_interfaces files) k x) (running_off k x within)
        (known.loopbacks k x within)

-- ---- the policies take both lengths alike

list_any_alike : {A : Type 0} (f g : A → Bool) (xs : List A) → All (λ x. f x ≡ g x) xs → list_any f xs ≡ list_any g xs
list_any_alike f g [] all = refl
list_any_alike f g (x ∷ xs) all = ap₂ (λ a b. a || b) (All-head (λ y. f y ≡ g y) x xs all)
    (list_any_alike f g xs (All-tail (λ y. f y ≡ g y) x xs all))

-- a prefix sees no more of an address than its own bits
covers_cut : (e : Prefix) (d : Addr) (len : ℕ) → e.len ≤ len → covers e (prefix_at d len).addr ≡ covers e d
covers_cut e d len le = ap (λ n. n == e.addr.0 / block e.len)
    (coarser (d.0 / block len * block len) d.0 len e.len le
    (mul-div_cancel (d.0 / block len) (pow_pos (32 - len))))

le_alike : (a b c d : ℕ) → (a ≤ b → c ≤ d) → (c ≤ d → a ≤ b) → nat_le a b ≡ nat_le c d
le_alike a b c d there back = by (nat_le a b) refl (nat_le c d) refl where
  by : (x : Bool) → nat_le a b ≡ x → (y : Bool) → nat_le c d ≡ y → x ≡ y
  by true p true q = refl
  by false p false q = refl
  by true p false q = let h = le-leb c d (there (leb-true a b p)) in cc
  by false p true q = let h = le-leb a b (back (leb-true c d q)) in cc

module _ (files : List File) (d : Addr) (a l : ℕ) (before : a < l)
    (none : (k : ℕ) → a < k → k ≤ l → IsClear files k) where
  -- an entry of a prefix list takes both or none
  taken_alike : (e : PrefixEntry) → ((k : ℕ) → a < k → k ≤ l → bounds_entry k e ≡ false) →
      prefix_taken e (prefix_at d l) ≡ prefix_taken e (prefix_at d a)
  taken_alike e apart = by (cases_lt a (max e.prefix.len e.low)) where
    high : nat_le l e.high ≡ nat_le a e.high
    high = le_alike l e.high a e.high (λ h. omega (arith, h, before)) (λ h. by_high h (cases_lt e.high l)) where
      by_high : a ≤ e.high → (e.high < l) ⊎ (l ≤ e.high) → l ≤ e.high
      by_high h (inr fine) = fine
      by_high h (inl less) =
          let k : ℕ = e.high + 1 in
          let nay : (k == k) ≡ false =
          (or_parts (max e.prefix.len e.low == k) (e.high + 1 == k)
          (apart k (omega (arith, h)) (omega (arith, less)))).1 in
          let yes : (k == k) ≡ true = eq-eqb k k refl in
          absurd cc

    -- where the entry begins behind the one, it begins behind both
    later : a < max e.prefix.len e.low → l < max e.prefix.len e.low
    later more = by_begin (cases_lt l (max e.prefix.len e.low)) where
      by_begin : (l < max e.prefix.len e.low) ⊎ (max e.prefix.len e.low ≤ l) → l < max e.prefix.len e.low
      by_begin (inl fine) = fine
      by_begin (inr h) =
          let k : ℕ = max e.prefix.len e.low in
          let nay : (k == k) ≡ false = (or_parts (max e.prefix.len e.low == k) (e.high + 1 == k) (apart k more h)).0 in
          let yes : (k == k) ≡ true = eq-eqb k k refl in
          absurd cc

    by : (a < max e.prefix.len e.low) ⊎ (max e.prefix.len e.low ≤ a) →
        prefix_taken e (prefix_at d l) ≡ prefix_taken e (prefix_at d a)
    by (inr inside) = λ i. (len i && cover i) && (low i && high i) where
      fit : e.prefix.len ≤ a
      fit = let h = le-max_left e.prefix.len e.low in omega (arith, h, inside)

      begun : e.low ≤ a
      begun = let h = le-max_right e.prefix.len e.low in omega (arith, h, inside)

      len : nat_le e.prefix.len l ≡ nat_le e.prefix.len a
      len = le_alike e.prefix.len l e.prefix.len a (λ h. fit) (λ h. omega (arith, h, before))

      low : nat_le e.low l ≡ nat_le e.low a
      low = le_alike e.low l e.low a (λ h. begun) (λ h. omega (arith, h, before))

      cover : covers e.prefix (prefix_at d l).addr ≡ covers e.prefix (prefix_at d a).addr
      cover = covers_cut e.prefix d l (let h = fit in omega (arith, h, before))
          ∙ sym (covers_cut e.prefix d a fit)
    by (inl outside) = too_short l (later outside) ∙ sym (too_short a outside) where
      too_short : (n : ℕ) → n < max e.prefix.len e.low → prefix_taken e (prefix_at d n) ≡ false
      too_short n short = test (nat_le e.prefix.len n) refl (nat_le e.low n) refl where
        test : (x : Bool) → nat_le e.prefix.len n ≡ x → (y : Bool) → nat_le e.low n ≡ y →
            ((x && covers e.prefix (prefix_at d n).addr) && (y && nat_le n e.high)) ≡ false
        test false p y q = refl
        test true p false q = and_false (covers e.prefix (prefix_at d n).addr)
        test true p true q =
            let h = leb-true e.prefix.len n p in
            let g = leb-true e.low n q in
            absurd (omega (arith, h, g, short))

  permitted_alike : (x : PrefixList) → ((k : ℕ) → a < k → k ≤ l → All (λ e. bounds_entry k e ≡ false) x.entries) →
      prefix_permitted x.entries (prefix_at d l) ≡ prefix_permitted x.entries (prefix_at d a)
  permitted_alike x apart = ap (λ o. option_map_or (λ e. e.permit) o false)
      (find_alike (λ e. prefix_taken e (prefix_at d l)) (λ e. prefix_taken e (prefix_at d a)) _
      (ordered_all (λ e. prefix_taken e (prefix_at d l) ≡ prefix_taken e (prefix_at d a)) (λ e. e.seq) x.entries
      (λ k e within. taken_alike (get_or x.entries k e) (λ j more less. apart j more less k e within))))

  named_alike : (router : ℕ) (file : File) (named : Use) → slice_get files router ≡ Some file →
      prefixes_named file.policies (prefix_at d l) named ≡ prefixes_named file.policies (prefix_at d a) named
  named_alike router file named at =
      by (find (λ x. same_text x.name named.name) file.policies.prefix_lists) refl
    where
      by : (o : Option PrefixList) → find (λ x. same_text x.name named.name) file.policies.prefix_lists ≡ o →
          option_map_or (λ x. prefix_permitted x.entries (prefix_at d l)) o false
          ≡ option_map_or (λ x. prefix_permitted x.entries (prefix_at d a)) o false
      by None gone = refl
      by (Some x) there = permitted_alike x
          (λ k more less. all_find (λ y. All (λ e. bounds_entry k e ≡ false) y.entries) _ file.policies.prefix_lists x
          ((none k more less).each router file at).lists there)

  line_alike : (router : ℕ) (file : File) (path communities : List ℕ) (line : Match) →
      slice_get files router ≡ Some file → is_access line ≡ false →
      line_holds file.policies (prefix_at d l) path communities line
      ≡ line_holds file.policies (prefix_at d a) path communities line
  line_alike router file path communities (Access names) at nay = absurd cc
  line_alike router file path communities (Prefixes names) at nay =
      λ i. list_any (λ named. named_alike router file named at i) names
  line_alike router file path communities (Communities names) at nay = refl
  line_alike router file path communities (Paths names) at nay = refl

  entry_alike : (router : ℕ) (file : File) (r : Attributes) (e : MapEntry) → slice_get files router ≡ Some file →
      All (λ x. is_access x ≡ false) e.matches →
      route_taken file.policies (prefix_at d l) r e ≡ route_taken file.policies (prefix_at d a) r e
  entry_alike router file r e at nay =
      λ i. ((not (asks e.matches 0) || kind 0 i) && (not (asks e.matches 1) || kind 1 i))
      && ((not (asks e.matches 2) || kind 2 i) && (not (asks e.matches 3) || kind 3 i))
    where
      kind : (n : ℕ) → kind_holds (line_holds file.policies (prefix_at d l) r.path r.communities) e.matches n
          ≡ kind_holds (line_holds file.policies (prefix_at d a) r.path r.communities) e.matches n
      kind n = list_any_alike _ _ e.matches (λ k x within. ap (λ b. (kind_of (get_or e.matches k x) == n) && b)
          (line_alike router file r.path r.communities (get_or e.matches k x) at (nay k x within)))

  deciding_alike : (router : ℕ) (file : File) (named : Use) (r : Attributes) → slice_get files router ≡ Some file →
      deciding file.policies (prefix_at d l) r (entries_named file.policies named)
      ≡ deciding file.policies (prefix_at d a) r (entries_named file.policies named)
  deciding_alike router file named r at =
      by (find (λ x. same_text x.name named.name) file.policies.maps) refl
    where
      by : (o : Option RouteMap) → find (λ x. same_text x.name named.name) file.policies.maps ≡ o →
          deciding file.policies (prefix_at d l) r (option_map_or (λ x. x.entries) o [])
          ≡ deciding file.policies (prefix_at d a) r (option_map_or (λ x. x.entries) o [])
      by None gone = refl
      by (Some m) there = find_alike (route_taken file.policies (prefix_at d l) r)
          (route_taken file.policies (prefix_at d a) r) _
          (ordered_all (λ e. route_taken file.policies (prefix_at d l) r e ≡ route_taken file.policies
          (prefix_at d a) r e)
          (λ e. e.seq) m.entries (λ k e within. entry_alike router file r (get_or m.entries k e) at
          (all_find (λ y. All (λ z. All (λ x. is_access x ≡ false) z.matches) y.entries) _ file.policies.maps m
          ((none l before (omega arith)).each router file at).access there k e within)))

  -- ---- classful networks

  no_class : (p : Prefix) → (p.len == 8) ≡ false → (p.len == 16) ≡ false → (p.len == 24) ≡ false →
      is_classful p ≡ false
  no_class p x y z = by (nat_lt p.addr.0 (2 ^ 31)) (nat_lt p.addr.0 (3 * 2 ^ 30)) (nat_lt p.addr.0 (7 * 2 ^ 29)) where
    by : (s t u : Bool) → (if s then p.len == 8 else if t then p.len == 16 else if u then p.len == 24 else false)
        ≡ false
    by true t u = x
    by false true u = y
    by false false true = z
    by false false false = refl

  differ : (m n : ℕ) → (m == n) ≡ false → (n == m) ≡ false
  differ m n nay = by (n == m) refl where
    by : (b : Bool) → (n == m) ≡ b → (n == m) ≡ false
    by false is = is
    by true is = let h = eq-eqb m n (sym (eqb-true n m is)) in absurd cc

  differ_next : (m n : ℕ) → (m + 1 == n + 1) ≡ false → (n == m) ≡ false
  differ_next m n nay = by (n == m) refl where
    by : (b : Bool) → (n == m) ≡ b → (n == m) ≡ false
    by false is = is
    by true is =
        let e : n ≡ m = eqb-true n m is in
        let h = eq-eqb (m + 1) (n + 1) (omega (arith, e)) in
        absurd cc

  upper : (k : ℕ) → bounds_class k ≡ false → is_classful (prefix_at d k) ≡ false
  upper k open_there =
      let x = or_parts (bounds k 8) (bounds k 16 || bounds k 24) open_there in
      let y = or_parts (bounds k 16) (bounds k 24) x.1 in
      no_class (prefix_at d k) (differ 8 k (or_parts (8 == k) (8 + 1 == k) x.0).0)
      (differ 16 k (or_parts (16 == k) (16 + 1 == k) y.0).0) (differ 24 k (or_parts (24 == k) (24 + 1 == k) y.1).0)

  lower : (k : ℕ) → bounds_class (k + 1) ≡ false → is_classful (prefix_at d k) ≡ false
  lower k open_there =
      let x = or_parts (bounds (k + 1) 8) (bounds (k + 1) 16 || bounds (k + 1) 24) open_there in
      let y = or_parts (bounds (k + 1) 16) (bounds (k + 1) 24) x.1 in
      no_class (prefix_at d k) (differ_next 8 k (or_parts (8 == k + 1) (8 + 1 == k + 1) x.0).1)
      (differ_next 16 k (or_parts (16 == k + 1) (16 + 1 == k + 1) y.0).1)
      (differ_next 24 k (or_parts (24 == k + 1) (24 + 1 == k + 1) y.1).1)

  classes_alike : (router : ℕ) (file : File) (process : Ospf) → slice_get files router ≡ Some file →
      file.ospf ≡ Some process → All (TakesClassAlike (prefix_at d l) (prefix_at d a)) process.redistribute
  classes_alike router file process at runs = by (list_any is_classful_only process.redistribute) refl where
    known : (k : ℕ) → a < k → k ≤ l →
        (bounds_class k && list_any is_classful_only process.redistribute) ≡ false
    known k more less = subst (λ o. (bounds_class k && list_any is_classful_only
        (option_map_or (λ ospf. ospf.redistribute) o [])) ≡ false) runs
        ((none k more less).each router file at).classes

    by : (b : Bool) → list_any is_classful_only process.redistribute ≡ b →
        All (TakesClassAlike (prefix_at d l) (prefix_at d a)) process.redistribute
    by false is = λ k r within. all_subnets (get_or process.redistribute k r).subnets
        (none_all is_classful_only process.redistribute is k r within)
      where
        all_subnets : (s : Bool) → not s ≡ false →
            (s || is_classful (prefix_at d l)) ≡ (s || is_classful (prefix_at d a))
        all_subnets true nay = refl
        all_subnets false nay = absurd cc
    by true is = λ k r within. ap (λ c. (get_or process.redistribute k r).subnets || c) (at_l ∙ sym at_a) where
      open_at : (k : ℕ) → a < k → k ≤ l → bounds_class k ≡ false
      open_at k more less = sym (and-true (bounds_class k)) ∙ ap (λ b. bounds_class k && b) (sym is)
          ∙ known k more less

      at_l : is_classful (prefix_at d l) ≡ false
      at_l = upper l (open_at l before (omega arith))

      at_a : is_classful (prefix_at d a) ≡ false
      at_a = lower a (open_at (a + 1) (omega arith) (omega (arith, before)))

  -- two lengths between which no cut is are the same to every line
  pub same_class : ArePlain files d l a
  same_class = (
    bare files l l (none l before (omega arith)) long_one (λ m nay. (or_parts _ _ nay).0) d,
    bare files (a + 1) a (none (a + 1) (omega arith) (omega (arith, before)))
        (differ_next 0 a (sym_test 1 (a + 1) (none (a + 1) (omega arith) (omega (arith, before))).first))
        (λ m nay. differ a m (differ_next m a (or_parts _ _ nay).1)) d,
    record {
      lists = λ router file named at. named_alike router file named at;
      maps = λ router file named r at. deciding_alike router file named r at;
      classes = λ router file process at runs. classes_alike router file process at runs;
    },
  )
    where
      sym_test : (m n : ℕ) → (n == m) ≡ false → (m == n) ≡ false
      sym_test m n nay = differ n m nay

      long_one : (l == 0) ≡ false
      long_one = by (l == 0) refl where
        by : (b : Bool) → (l == 0) ≡ b → (l == 0) ≡ false
        by false is = is
        by true is = let h = eqb-true l 0 is in absurd (omega (arith, h, before))
