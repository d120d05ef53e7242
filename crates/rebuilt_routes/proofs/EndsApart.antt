-- Each end of a router is that of another neighbour line, so that where a process names each address once the address of
-- the neighbour finds the end again.
use Rattle.std.proofs.Common.{◌≡◌, ℕ, zero, suc, ◌+◌, ◌<◌, ◌≤◌, ◌^◌, ◌==◌, Bool, true, false, not, List, []}
use Rattle.std.proofs.Common.{◌∷◌, ◌++◌, filter, Option, Some, None, nat_lt, if◌then◌else◌}
use Rattle.std.proofs.Common.{refl, sym, ap, ◌∙◌, arith}
use Rattle.std.specs.Prelude.{All, AllPairs, option_and_then, slice_get}
use Rattle.std.specs.List.{enumerate_from, find, list_all}
use Rattle.std.specs.Option.{option_map_or}
use Rattle.std.proofs.lemmas.Bool.{and_from, eq-eqb}
use Rattle.std.proofs.lemmas.Bool.Decides.{nat_tests}
use Rattle.std.proofs.lemmas.List.Elements.{All-append, All-cons, All-head, All-nil, All-tail, All-weaker}
use Rattle.std.proofs.lemmas.List.Kept.{AllPairs-cons, AllPairs-filter}
use Rattle.std.proofs.lemmas.Option.{get_or_from_slice_get, same_Some, slice_get-map, slice_get_within}
use Rattle.mw_text.proofs.Lists.{all_at}
use Rattle.mw_text.proofs.Found.{find_passes, mapped}
use Rattle.ios_ast.specs.declared.bgp.Bgp.{Bgp}
use Rattle.ios_ast.specs.declared.bgp.Neighbour.{Neighbour}
use Rattle.ios_ast.specs.declared.file.File.{File}
use Rattle.ios_ast.specs.Limits.{each_pair, have_two_addresses, keeps_limits}
use Rattle.ios_ast.proofs.KeptLimits.{limits_of}
use Rattle.ios_ast.proofs.Pairs.{pair_at}
use Rattle.net_interfaces.proofs.Pairs.{first, later}
use Rattle.net_interfaces.specs.declared.interfaces.Addressed.{Addressed}
use Rattle.net_interfaces.specs.Interfaces.{addressed}
use Rattle.net_parts.specs.declared.sessions.Peering.{Peering}
use Rattle.net_parts.specs.declared.sessions.SessionEnd.{SessionEnd}
use Rattle.net_parts.specs.Sessions.{end_of, ends_of, has_session, neighbour_of, peering, peerings, peerings_from}
use Rattle.net_parts.specs.Sessions.{peerings_of, peerings_routers, sessions, speaking, speaks_from}
use Rattle.net_parts.proofs.EndPlaces.{of_router}
use Rattle.bgp_shapes.specs.Crossings.{is_from}
use Rattle.bgp_shapes.proofs.Once.{process_of}
use Rattle.rebuilt_routes.specs.Following.{numbered_end}
use Rattle.rebuilt_routes.proofs.Numbered.{IsNumbered, from_end}
use Rattle.rebuilt_routes.proofs.Options.{numbered_there}

-- of one router, the earlier has the earlier line
abbrev IsEarlier : Peering → Peering → Type 0
IsEarlier a b = a.router ≡ b.router → a.at < b.at

joined : (xs ys : List Peering) → AllPairs IsEarlier xs → AllPairs IsEarlier ys →
    All (λ x. All (IsEarlier x) ys) xs → AllPairs IsEarlier (xs ++ ys)
joined [] ys one two between = two
joined (x ∷ xs) ys one two between =
    AllPairs-cons IsEarlier x (xs ++ ys)
    (All-append (IsEarlier x) xs ys (first IsEarlier x xs one) (All-head (λ z. All (IsEarlier z) ys) x xs between))
    (joined xs ys (later IsEarlier x xs one) two (All-tail (λ z. All (IsEarlier z) ys) x xs between))

-- ---- the lines of one router

abbrev IsFromLine : ℕ → ℕ → Peering → Type 0
IsFromLine router at a = (a.router ≡ router) × (at ≤ a.at)

lines_from : (own : List Addressed) (router : ℕ) (file : File) (asn at : ℕ) (ns : List Neighbour) →
    All (IsFromLine router at) (peerings_from own router file asn at ns)
lines_from own router file asn at [] = All-nil (IsFromLine router at)
lines_from own router file asn at (n ∷ rest) =
    All-append (IsFromLine router at)
    (option_map_or (λ source. peering router asn at n source ∷ []) (find (speaks_from file n) own) [])
    (peerings_from own router file asn (at + 1) rest) (here (find (speaks_from file n) own))
    (All-weaker (IsFromLine router (at + 1)) (IsFromLine router at) (λ a is. (is.0, one_less a.at is.1))
    (peerings_from own router file asn (at + 1) rest) (lines_from own router file asn (at + 1) rest))
  where
    one_less : (k : ℕ) → at + 1 ≤ k → at ≤ k
    one_less k above = omega (arith, above)

    here : (o : Option Addressed) → All (IsFromLine router at)
        (option_map_or (λ source. peering router asn at n source ∷ []) o [])
    here None = All-nil (IsFromLine router at)
    here (Some source) =
        All-cons (IsFromLine router at) (peering router asn at n source) [] (refl, omega arith)
        (All-nil (IsFromLine router at))

no_pairs : AllPairs IsEarlier []
no_pairs i j d below within = absurd (omega (arith, below, within))

pairs_from : (own : List Addressed) (router : ℕ) (file : File) (asn at : ℕ) (ns : List Neighbour) →
    AllPairs IsEarlier (peerings_from own router file asn at ns)
pairs_from own router file asn at [] = no_pairs
pairs_from own router file asn at (n ∷ rest) =
    here (find (speaks_from file n) own) (pairs_from own router file asn (at + 1) rest)
  where
    here : (o : Option Addressed) → AllPairs IsEarlier (peerings_from own router file asn (at + 1) rest) →
        AllPairs IsEarlier (option_map_or (λ source. peering router asn at n source ∷ []) o []
        ++ peerings_from own router file asn (at + 1) rest)
    here None others = others
    here (Some source) others =
        AllPairs-cons IsEarlier (peering router asn at n source) (peerings_from own router file asn (at + 1) rest)
        (All-weaker (IsFromLine router (at + 1)) (IsEarlier (peering router asn at n source))
        (λ a is same. above a.at is.1) (peerings_from own router file asn (at + 1) rest)
        (lines_from own router file asn (at + 1) rest)) others
      where
        above : (k : ℕ) → at + 1 ≤ k → at < k
        above k more = omega (arith, more)

pairs_of : (all : List Addressed) (router : ℕ) (file : File) → AllPairs IsEarlier (peerings_of all router file)
pairs_of all router file = by_process file.bgp
  where
    by_process : (o : Option Bgp) → AllPairs IsEarlier (option_map_or (λ bgp. peerings_from
        (filter (λ x. x.id.router == router) all) router file bgp.asn 0 bgp.neighbours) o [])
    by_process None = no_pairs
    by_process (Some bgp) =
        pairs_from (filter (λ (x : Addressed). x.id.router == router) all) router file bgp.asn 0 bgp.neighbours

-- ---- the lines of all

of_routers : (all : List Addressed) (router : ℕ) (files : List File) →
    All (λ a. router ≤ a.router) (peerings_routers all router files)
of_routers all router [] = All-nil (λ a. router ≤ a.router)
of_routers all router (file ∷ rest) =
    All-append (λ a. router ≤ a.router) (peerings_of all router file) (peerings_routers all (router + 1) rest)
    (All-weaker (λ a. a.router ≡ router) (λ a. router ≤ a.router) (λ a is. omega (arith, is))
    (peerings_of all router file) (of_router all router file))
    (All-weaker (λ a. router + 1 ≤ a.router) (λ a. router ≤ a.router) (λ a is. omega (arith, is))
    (peerings_routers all (router + 1) rest) (of_routers all (router + 1) rest))

pairs_routers : (all : List Addressed) (router : ℕ) (files : List File) →
    AllPairs IsEarlier (peerings_routers all router files)
pairs_routers all router [] = no_pairs
pairs_routers all router (file ∷ rest) =
    joined (peerings_of all router file) (peerings_routers all (router + 1) rest) (pairs_of all router file)
    (pairs_routers all (router + 1) rest)
    (All-weaker (λ a. a.router ≡ router) (λ x. All (IsEarlier x) (peerings_routers all (router + 1) rest))
    (λ x is. All-weaker (λ a. router + 1 ≤ a.router) (IsEarlier x) (λ a above same. absurd (never x a is above same))
    (peerings_routers all (router + 1) rest) (of_routers all (router + 1) rest))
    (peerings_of all router file) (of_router all router file))
  where
    never : (x a : Peering) → x.router ≡ router → router + 1 ≤ a.router → x.router ≡ a.router → ⊥
    never x a is above same = omega (arith, is, above, same)

pairs_sessions : (files : List File) → AllPairs IsEarlier (sessions files)
unfolding sessions peerings
pairs_sessions files =
    AllPairs-filter IsEarlier (has_session (addressed files) (speaking files)) (speaking files)
    (AllPairs-filter IsEarlier (λ a. not a.shutdown) (peerings files) (pairs_routers (addressed files) 0 files))

-- ---- the ends

-- two ends of one router and of one neighbour line stand at one place
pub one_end : (files : List File) (i j : ℕ) (a b : SessionEnd) → slice_get (ends_of files) i ≡ Some a →
    slice_get (ends_of files) j ≡ Some b → a.router ≡ b.router → a.neighbour ≡ b.neighbour → i ≡ j
unfolding ends_of
one_end files i j a b one other same line = by_order (nat_lt i j) (nat_lt j i) refl refl
  where
    make : Peering → SessionEnd
    make = end_of (addressed files) (sessions files)

    from : (k : ℕ) (e : SessionEnd) → slice_get (ends_of files) k ≡ Some e →
        (x : Peering) × (slice_get (sessions files) k ≡ Some x) × (make x ≡ e)
    from k e there =
        mapped make (slice_get (sessions files) k) e (sym (slice_get-map make (sessions files) k) ∙ there)

    never : (k l : ℕ) (x y : Peering) → slice_get (sessions files) k ≡ Some x → slice_get (sessions files) l ≡ Some y →
        k < l → x.router ≡ y.router → x.at ≡ y.at → ⊥
    never k l x y here there less routers lines =
        let within = slice_get_within (sessions files) l y there in
        let earlier = pairs_sessions files k l x less within in
        let first_is = get_or_from_slice_get (sessions files) k x x here in
        let later_is = get_or_from_slice_get (sessions files) l y x there in
        let less_at = earlier (ap (λ (z : Peering). z.router) first_is ∙ routers
        ∙ sym (ap (λ (z : Peering). z.router) later_is)) in
        let at_first = ap (λ (z : Peering). z.at) first_is in
        let at_later = ap (λ (z : Peering). z.at) later_is in
        omega (arith, less_at, at_first, at_later, lines)

    by_order : (p q : Bool) → nat_lt i j ≡ p → nat_lt j i ≡ q → i ≡ j
    by_order true q less more =
        let x = from i a one in
        let y = from j b other in
        absurd (never i j x.0 y.0 x.1 y.1 (grind (arith, nat_tests))
        (ap (λ (e : SessionEnd). e.router) x.2 ∙ same ∙ sym (ap (λ (e : SessionEnd). e.router) y.2))
        (ap (λ (e : SessionEnd). e.neighbour) x.2 ∙ line ∙ sym (ap (λ (e : SessionEnd). e.neighbour) y.2)))
    by_order false true less more =
        let x = from i a one in
        let y = from j b other in
        absurd (never j i y.0 x.0 y.1 x.1 (grind (arith, nat_tests))
        (ap (λ (e : SessionEnd). e.router) y.2 ∙ sym same ∙ sym (ap (λ (e : SessionEnd). e.router) x.2))
        (ap (λ (e : SessionEnd). e.neighbour) y.2 ∙ sym line ∙ sym (ap (λ (e : SessionEnd). e.neighbour) x.2)))
    by_order false false less more = grind (arith, nat_tests)

-- ---- the lines of a process that keeps its limits

one_place : (lines : List Neighbour) → each_pair have_two_addresses lines ≡ true → (i j : ℕ) (x y : Neighbour) →
    slice_get lines i ≡ Some x → slice_get lines j ≡ Some y → x.addr.0 ≡ y.addr.0 → i ≡ j
one_place lines two i j x y one other same = by_order (nat_lt i j) (nat_lt j i) refl refl
  where
    by_order : (b c : Bool) → nat_lt i j ≡ b → nat_lt j i ≡ c → i ≡ j
    by_order true c less more =
        let differ = pair_at have_two_addresses lines i j x y two (grind (arith, nat_tests)) one other in
        let equal = eq-eqb x.addr.0 y.addr.0 same in
        absurd cc
    by_order false true less more =
        let differ = pair_at have_two_addresses lines j i y x two (grind (arith, nat_tests)) other one in
        let equal = eq-eqb y.addr.0 x.addr.0 (sym same) in
        absurd cc
    by_order false false less more = grind (arith, nat_tests)

-- two lines of a router with one address are one
same_line : (files : List File) → list_all keeps_limits files ≡ true → (router i j : ℕ) (x y : Neighbour) →
    option_and_then (λ bgp. slice_get bgp.neighbours i) (process_of files router) ≡ Some x →
    option_and_then (λ bgp. slice_get bgp.neighbours j) (process_of files router) ≡ Some y → x.addr.0 ≡ y.addr.0 →
    i ≡ j
same_line files limits router i j x y one other same = by_file (slice_get files router) refl one other
  where
    by_process : (file : File) → slice_get files router ≡ Some file → (o : Option Bgp) → file.bgp ≡ o →
        option_and_then (λ bgp. slice_get bgp.neighbours i) o ≡ Some x →
        option_and_then (λ bgp. slice_get bgp.neighbours j) o ≡ Some y → i ≡ j
    by_process file found None runs one other = absurd cc
    by_process file found (Some process) runs one other =
        one_place process.neighbours
        (sym (ap (λ (o : Option Bgp). option_map_or (λ b. each_pair have_two_addresses b.neighbours) o true) runs)
        ∙ (limits_of file (all_at keeps_limits files router file limits found)).once) i j x y one other same

    by_file : (o : Option File) → slice_get files router ≡ o →
        option_and_then (λ bgp. slice_get bgp.neighbours i) (option_and_then (λ (f : File). f.bgp) o) ≡ Some x →
        option_and_then (λ bgp. slice_get bgp.neighbours j) (option_and_then (λ (f : File). f.bgp) o) ≡ Some y → i ≡ j
    by_file None found one other = absurd cc
    by_file (Some file) found one other = by_process file found file.bgp refl one other

-- an item that passes is found, or one before it
found_some : {X : Type 0} (p : ℕ × X → Bool) (n : ℕ) (xs : List X) (k : ℕ) (x : X) → slice_get xs k ≡ Some x →
    p (n + k, x) ≡ true → (e : ℕ × X) × (find p (enumerate_from n xs) ≡ Some e)
found_some p n [] k x there passes = absurd cc
found_some {X = X} p n (y ∷ ys) zero x there passes =
    let same = same_Some y x there in
    let place : n + 0 ≡ n = omega arith in
    let here : p (n, y) ≡ true = (λ i. p (sym place i, same i)) ∙ passes in
    ((n, y), ap (λ b. if b then Some (n, y) else find p (enumerate_from (n + 1) ys)) here)
found_some {X = X} p n (y ∷ ys) (suc k) x there passes =
    by (p (n, y)) (found_some p (n + 1) ys k x there
    (ap (λ m. p (m, x)) (let same : n + 1 + k ≡ n + suc k = omega arith in same) ∙ passes))
  where
    by : (b : Bool) → (e : ℕ × X) × (find p (enumerate_from (n + 1) ys) ≡ Some e) →
        (e : ℕ × X) × ((if b then Some (n, y) else find p (enumerate_from (n + 1) ys)) ≡ Some e)
    by true rest = ((n, y), refl)
    by false rest = rest

-- the number of an end's neighbour finds the end
pub end_again : (files : List File) → list_all keeps_limits files ≡ true → (router at : ℕ) (end : SessionEnd)
    (neighbour : Neighbour) → slice_get (ends_of files) at ≡ Some end → end.router ≡ router →
    neighbour_of files end ≡ Some neighbour →
    numbered_end files router (2 ^ 32 + neighbour.addr.0) ≡ Some (at, end)
end_again files limits router at end neighbour there own named = found.1 ∙ ap Some same
  where
    test : ℕ × SessionEnd → Bool
    test e = is_from files router (2 ^ 32 + neighbour.addr.0) e.1

    here : is_from files router (2 ^ 32 + neighbour.addr.0) end ≡ true
    here =
        and_from (end.router == router) _ (eq-eqb end.router router own)
        (ap (λ o. option_map_or (λ (n : Neighbour). 2 ^ 32 + n.addr.0 == 2 ^ 32 + neighbour.addr.0) o false) named
        ∙ eq-eqb (2 ^ 32 + neighbour.addr.0) (2 ^ 32 + neighbour.addr.0) refl)

    found : (e : ℕ × SessionEnd) × (find test (enumerate_from 0 (ends_of files)) ≡ Some e)
    found = found_some test 0 (ends_of files) at end there here

    one : ℕ
    one = found.0.0

    other : SessionEnd
    other = found.0.1

    is : IsNumbered files router (2 ^ 32 + neighbour.addr.0) found.0.1
    is =
        from_end files router (2 ^ 32 + neighbour.addr.0) found.0.1
        (find_passes test (enumerate_from 0 (ends_of files)) found.0 found.1)

    stands : slice_get (ends_of files) found.0.0 ≡ Some found.0.1
    stands =
        let placed = numbered_there test 0 (ends_of files) found.0.0 found.0.1 found.1 in
        let place = placed.1 in
        let equal : placed.0 ≡ found.0.0 = omega (arith, place) in
        ap (slice_get (ends_of files)) (sym equal) ∙ placed.2

    addresses : is.neighbour.addr.0 ≡ neighbour.addr.0
    addresses = let number = is.number in omega (arith, number)

    lines : found.0.1.neighbour ≡ end.neighbour
    lines =
        same_line files limits router found.0.1.neighbour end.neighbour is.neighbour neighbour
        (sym (ap (λ r. option_and_then (λ (bgp : Bgp). slice_get bgp.neighbours found.0.1.neighbour)
        (process_of files r)) is.own) ∙ is.named)
        (sym (ap (λ r. option_and_then (λ (bgp : Bgp). slice_get bgp.neighbours end.neighbour)
        (process_of files r)) own) ∙ named) addresses

    place : found.0.0 ≡ at
    place = one_end files found.0.0 at found.0.1 end stands there (is.own ∙ sym own) lines

    item : found.0.1 ≡ end
    item = same_Some found.0.1 end (sym stands ∙ ap (slice_get (ends_of files)) place ∙ there)

    same : found.0 ≡ (at, end)
    same = λ i. (place i, item i)
