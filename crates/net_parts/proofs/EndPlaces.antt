-- The ends of sessions: they stand in the order of the routers, and each is that of a neighbour line.
use Rattle.std.proofs.Common.{◌≡◌, ℕ, zero, suc, ◌+◌, ◌-◌, ◌<◌, ◌≤◌, Bool, true, false, List, [], ◌∷◌, ◌++◌, length}
use Rattle.std.proofs.Common.{take, drop, get_or, Option, Some, None, refl, ap, ◌∙◌, sym, subst, arith, is_some}
use Rattle.std.proofs.Common.{if◌then◌else◌, ◌⊎◌, inl, inr}
use Rattle.std.specs.Prelude.{◌==◌, All, AllPairs, filter, map, nat_le, nat_lt, not, option_and_then, position}
use Rattle.std.specs.Prelude.{slice_get, slice_range, unwrap_or}
use Rattle.std.specs.List.{find}
use Rattle.std.specs.List.Sorted.{IsNonDecreasingBy, IsPartitionPoint}
use Rattle.std.specs.Option.{option_map_or}
use Rattle.std.proofs.lemmas.Bool.{leb-false, leb-true, ltb-false, ltb-true}
use Rattle.std.proofs.lemmas.Bool.Decides.{nat_tests}
use Rattle.std.proofs.lemmas.Option.{slice_get_within}
use Rattle.std.proofs.lemmas.List.{append-nil, get_or-drop, get_or-take, length-drop, length-map, length-take}
use Rattle.std.proofs.lemmas.List.{take-append-drop}
use Rattle.std.proofs.lemmas.List.Elements.{All-append, All-cons, All-filter, All-head, All-map, All-nil, All-tail}
use Rattle.std.proofs.lemmas.List.Elements.{All-weaker, filter-append}
use Rattle.std.proofs.lemmas.List.Folds.{drop_split}
use Rattle.std.proofs.lemmas.List.Kept.{AllPairs-cons, AllPairs-filter}
use Rattle.std.proofs.lemmas.List.Quantifiers.{position-Some}
use Rattle.mw_text.proofs.Lists.{filter_none, item_there}
use Rattle.ios_ast.specs.declared.bgp.Bgp.{Bgp}
use Rattle.ios_ast.specs.declared.bgp.Neighbour.{Neighbour}
use Rattle.ios_ast.specs.declared.file.File.{File}
use Rattle.net_interfaces.specs.declared.interfaces.Addressed.{Addressed}
use Rattle.net_parts.specs.declared.sessions.Far.TheVariants.{Outside, Inside}
use Rattle.net_parts.specs.declared.sessions.Peering.{Peering}
use Rattle.net_parts.specs.declared.sessions.SessionEnd.{SessionEnd}
use Rattle.net_interfaces.specs.Interfaces.{addressed}
use Rattle.net_parts.specs.Sessions.{FarIsWithin, IsPlaced, end_of, ends_of, far_of, has_session, is_external_peer}
use Rattle.net_parts.specs.Sessions.{meet, peering, peerings, peerings_from, peerings_of, peerings_routers, sessions}
use Rattle.net_parts.specs.Sessions.{speaking, speaks_from}
use Rattle.net_interfaces.proofs.Pairs.{first, later}

-- ---- neighbour lines of the routers

-- the neighbour line of a router at a place
abbrev line_at : List File → ℕ → ℕ → Option Neighbour
line_at files router at =
    option_and_then (λ bgp. slice_get bgp.neighbours at) (option_and_then (λ file. file.bgp) (slice_get files router))

-- a line of that router, before a place
abbrev IsOf : ℕ → ℕ → Peering → Type 0
IsOf router limit a = (a.router ≡ router) × (a.at < limit)

lines_from : (own : List Addressed) (router : ℕ) (file : File) (asn at : ℕ) (ns : List Neighbour) →
    All (IsOf router (at + length ns)) (peerings_from own router file asn at ns)
lines_from own router file asn at [] = All-nil (IsOf router (at + 0))
lines_from own router file asn at (n ∷ rest) =
    All-append (IsOf router (at + suc (length rest)))
    (option_map_or (λ source. peering router asn at n source ∷ []) (find (speaks_from file n) own) [])
    (peerings_from own router file asn (at + 1) rest) (here (find (speaks_from file n) own))
    (All-weaker (IsOf router (at + 1 + length rest)) (IsOf router (at + suc (length rest)))
    (λ a is. (is.0, one_more a.at is.1))
    (peerings_from own router file asn (at + 1) rest) (lines_from own router file asn (at + 1) rest))
  where
    one_more : (k : ℕ) → k < at + 1 + length rest → k < at + suc (length rest)
    one_more k within = omega (arith, within)

    here : (o : Option Addressed) → All (IsOf router (at + suc (length rest)))
        (option_map_or (λ source. peering router asn at n source ∷ []) o [])
    here None = All-nil (IsOf router (at + suc (length rest)))
    here (Some source) =
        All-cons (IsOf router (at + suc (length rest))) (peering router asn at n source) []
        (refl, omega arith) (All-nil (IsOf router (at + suc (length rest))))

-- a line of the process that one of some files, the first of which is of that number, runs
record IsLine (router : ℕ) (files : List File) (a : Peering) : Type 0 where
  k : ℕ
  place : a.router ≡ router + k
  line : (n : Neighbour) × (line_at files k a.at ≡ Some n)

lines_of : (all : List Addressed) (router : ℕ) (file : File) (rest : List File) →
    All (IsLine router (file ∷ rest)) (peerings_of all router file)
lines_of all router file rest = by_process file.bgp refl where
  by_process : (o : Option Bgp) → file.bgp ≡ o →
      All (IsLine router (file ∷ rest))
      (option_map_or (λ bgp. peerings_from
      (filter (λ x. x.id.router == router) all) router file bgp.asn 0 bgp.neighbours) o [])
  by_process None runs = All-nil (IsLine router (file ∷ rest))
  by_process (Some bgp) runs =
      let own = filter (λ (x : Addressed). x.id.router == router) all in
      All-weaker (IsOf router (0 + length bgp.neighbours)) (IsLine router (file ∷ rest)) (λ a is.
      let within = is.1 in
      let same = is.0 in
      let there = item_there bgp.neighbours a.at (omega (arith, within)) in record {
        k = 0;
        place = omega (arith, same);
        line = (there.0, ap (option_and_then (λ (b : Bgp). slice_get b.neighbours a.at)) runs ∙ there.1);
      })
      (peerings_from own router file bgp.asn 0 bgp.neighbours) (lines_from own router file bgp.asn 0 bgp.neighbours)

lines_routers : (all : List Addressed) (router : ℕ) (files : List File) →
    All (IsLine router files) (peerings_routers all router files)
lines_routers all router [] = All-nil (IsLine router [])
lines_routers all router (file ∷ rest) =
    All-append (IsLine router (file ∷ rest)) (peerings_of all router file) (peerings_routers all (router + 1) rest)
    (lines_of all router file rest)
    (All-weaker (IsLine (router + 1) rest) (IsLine router (file ∷ rest)) later
    (peerings_routers all (router + 1) rest) (lines_routers all (router + 1) rest))
  where
    later : (a : Peering) → IsLine (router + 1) rest a → IsLine router (file ∷ rest) a
    later a is =
        let place = is.place in
        record { k = suc is.k; place = omega (arith, place); line = is.line }

-- each session is that of a neighbour line
session_lines : (files : List File) → All (IsLine 0 files) (sessions files)
unfolding sessions peerings
session_lines files =
    All-filter (has_session (addressed files) (speaking files)) (IsLine 0 files) (speaking files)
    (All-filter (λ a. not a.shutdown) (IsLine 0 files) (peerings files) (lines_routers (addressed files) 0 files))

router_within : (files : List File) (router at : ℕ) (n : Neighbour) → line_at files router at ≡ Some n →
    router < length files
router_within files router at n there = by_file (slice_get files router) refl there where
  by_file : (o : Option File) → slice_get files router ≡ o →
      option_and_then (λ bgp. slice_get bgp.neighbours at) (option_and_then (λ (file : File). file.bgp) o) ≡ Some n →
      router < length files
  by_file None is found = cc
  by_file (Some file) is found = slice_get_within files router file is

far_within : (all : List Addressed) (standing : List Peering) (a : Peering) → 0 < length standing →
    FarIsWithin (length standing) (far_of all standing a)
far_within all standing a some = by_peer (is_external_peer all a) (position (meet a) standing) refl where
  by_peer : (outside : Bool) (o : Option ℕ) → position (meet a) standing ≡ o →
      FarIsWithin (length standing) (if outside then Outside else Inside (unwrap_or o 0))
  by_peer true o is = tt
  by_peer false None is = some
  by_peer false (Some at) is = (position-Some (meet a) standing at a is).0

placed : (files : List File) (k : ℕ) (d : Peering) → k < length (sessions files) →
    IsPlaced files (end_of (addressed files) (sessions files) (get_or (sessions files) k d))
unfolding ends_of
placed files k d within =
    let standing = sessions files in
    let a = get_or standing k d in
    let line = session_lines files k d within in
    let there = line.line in
    let place = line.place in
    let is : a.router ≡ line.k = omega (arith, place) in
    let found : line_at files a.router a.at ≡ Some there.0 =
    ap (λ r. line_at files r a.at) is ∙ there.1 in
    let count = length-map standing (end_of (addressed files) standing) in
    record {
      router = router_within files a.router a.at there.0 found;
      line = ap is_some found;
      far = subst (λ n. FarIsWithin n (far_of (addressed files) standing a)) (sym count)
          (far_within (addressed files) standing a (omega (arith, within)));
    }

-- each end is that of a neighbour line, and its far side stands in the list
pub ends_placed : (files : List File) → All (IsPlaced files) (ends_of files)
unfolding ends_of
ends_placed files =
    All-map (IsPlaced files) (end_of (addressed files) (sessions files)) (sessions files) (placed files)

-- ---- the order of the ends

-- not of a later router
abbrev IsNotAfter : Peering → Peering → Type 0
IsNotAfter a b = a.router ≤ b.router

joined : (xs ys : List Peering) (limit : ℕ) → AllPairs IsNotAfter xs → AllPairs IsNotAfter ys →
    All (λ a. a.router ≤ limit) xs → All (λ b. limit ≤ b.router) ys → AllPairs IsNotAfter (xs ++ ys)
joined [] ys limit one two low high = two
joined (x ∷ xs) ys limit one two low high =
    let here = low 0 x (omega arith) in
    AllPairs-cons IsNotAfter x (xs ++ ys)
    (All-append (IsNotAfter x) xs ys (first IsNotAfter x xs one)
    (All-weaker (λ b. limit ≤ b.router) (IsNotAfter x) (λ b above. omega (arith, here, above)) ys high))
    (joined xs ys limit (later IsNotAfter x xs one) two (All-tail (λ a. a.router ≤ limit) x xs low) high)

all_same : (router : ℕ) (xs : List Peering) → All (λ a. a.router ≡ router) xs → AllPairs IsNotAfter xs
all_same router xs same i j d below within =
    let one = same i d (omega (arith, below, within)) in
    let two = same j d within in
    omega (arith, one, two)

pub of_router : (all : List Addressed) (router : ℕ) (file : File) →
    All (λ a. a.router ≡ router) (peerings_of all router file)
of_router all router file = by_process file.bgp where
  by_process : (o : Option Bgp) → All (λ a. a.router ≡ router)
      (option_map_or (λ bgp. peerings_from
      (filter (λ x. x.id.router == router) all) router file bgp.asn 0 bgp.neighbours) o [])
  by_process None = All-nil (λ a. a.router ≡ router)
  by_process (Some bgp) =
      let own = filter (λ (x : Addressed). x.id.router == router) all in
      All-weaker (IsOf router (0 + length bgp.neighbours)) (λ a. a.router ≡ router) (λ a is. is.0)
      (peerings_from own router file bgp.asn 0 bgp.neighbours) (lines_from own router file bgp.asn 0 bgp.neighbours)

routers_up : (all : List Addressed) (router : ℕ) (files : List File) →
    AllPairs IsNotAfter (peerings_routers all router files)
routers_up all router [] = λ i j d below within. absurd (omega arith)
routers_up all router (file ∷ rest) =
    joined (peerings_of all router file) (peerings_routers all (router + 1) rest) router
    (all_same router (peerings_of all router file) (of_router all router file)) (routers_up all (router + 1) rest)
    (All-weaker (λ a. a.router ≡ router) (λ a. a.router ≤ router) (λ a is. omega (arith, is))
    (peerings_of all router file) (of_router all router file))
    (All-weaker (IsLine (router + 1) rest) (λ b. router ≤ b.router) (λ b is. above b is)
    (peerings_routers all (router + 1) rest) (lines_routers all (router + 1) rest))
  where
    above : (b : Peering) → IsLine (router + 1) rest b → router ≤ b.router
    above b is = let place = is.place in omega (arith, place)

sessions_up : (files : List File) → AllPairs IsNotAfter (sessions files)
unfolding sessions peerings
sessions_up files =
    AllPairs-filter IsNotAfter (has_session (addressed files) (speaking files)) (speaking files)
    (AllPairs-filter IsNotAfter (λ a. not a.shutdown) (peerings files) (routers_up (addressed files) 0 files))

-- the router of an end at a place is that of the session there
router_at : (f : Peering → SessionEnd) → ((a : Peering) → (f a).router ≡ a.router) → (xs : List Peering) (k : ℕ)
    (d : SessionEnd) (e : Peering) → k < length xs → (get_or (map f xs) k d).router ≡ (get_or xs k e).router
router_at f same [] k d e within = absurd (omega arith)
router_at f same (x ∷ xs) zero d e within = same x
router_at f same (x ∷ xs) (suc k) d e within = router_at f same xs k d e (omega arith)

-- the ends stand in the order of the routers
pub ends_up : (files : List File) → IsNonDecreasingBy (λ end. end.router) (ends_of files)
unfolding ends_of
ends_up files i j d ordered within = by_order (cases_le i j ordered) where
  standing : List Peering
  standing = sessions files

  f : Peering → SessionEnd
  f = end_of (addressed files) (sessions files)

  cases_le : (i j : ℕ) → i ≤ j → (i < j) ⊎ (i ≡ j)
  cases_le i j h = grind arith

  by_order : (i < j) ⊎ (i ≡ j) → (get_or (map f standing) i d).router ≤ (get_or (map f standing) j d).router
  by_order (inr same) = omega (arith, ap (λ k. (get_or (map f standing) k d).router) same)
  by_order (inl below) =
      let long = length-map standing f in
      let e = (item_there standing j (omega (arith, within, long))).0 in
      let up = sessions_up files i j e below (omega (arith, within, long)) in
      omega (
        arith,
        up,
        router_at f (λ a. refl) standing i d e (omega (arith, within, long, below)),
        router_at f (λ a. refl) standing j d e (omega (arith, within, long)),
      )

-- ---- a stretch of a list that does not fall

all_of : {X : Type 0} (p : X → Bool) (xs : List X) → All (λ x. p x ≡ true) xs → filter p xs ≡ xs
all_of p [] all = refl
all_of p (x ∷ xs) all =
    rw (All-head (λ y. p y ≡ true) x xs all)
    (ap (λ ys. x ∷ ys) (all_of p xs (All-tail (λ y. p y ≡ true) x xs all)))

module _ {X : Type 0} (n : X → ℕ) (t : ℕ) (xs : List X) (from to : ℕ)
    (low : IsPartitionPoint (λ y. nat_lt (n y) t ≡ true) (λ y. nat_lt (n y) t ≡ false) xs from)
    (high : IsPartitionPoint (λ y. nat_le (n y) t ≡ true) (λ y. nat_le (n y) t ≡ false) xs to)
    (from_within : from ≤ length xs) (to_within : to ≤ length xs) where
  -- the first place is no later than the last
  pub stretch_ordered : from ≤ to
  stretch_ordered = by_order (cases_le from to) where
    cases_le : (a b : ℕ) → (a ≤ b) ⊎ (b < a)
    cases_le a b = grind arith

    by_order : (from ≤ to) ⊎ (to < from) → from ≤ to
    by_order (inl below) = below
    by_order (inr past) =
        let d = (item_there xs to (omega (arith, past, from_within))).0 in
        let less = ltb-true _ t (low.0 to d (omega arith) past) in
        let more = leb-false _ t (high.1 to d (omega arith) (omega (arith, past, from_within))) in
        absurd (omega (arith, less, more))

  abbrev is : X → Bool
  is x = n x == t

  before : All (λ x. is x ≡ false) (take from xs)
  before k d within =
      let short = length-take from xs in
      let below : k < from = omega (arith, within, short) in
      let less = ltb-true _ t (low.0 k d (omega arith) below) in
      let here : is (get_or xs k d) ≡ false = grind (arith, nat_tests, less) in
      ap is (get_or-take from xs k d below) ∙ here

  inside : All (λ x. is x ≡ true) (slice_range xs from to)
  inside k d within =
      let short = length-take (to - from) (drop from xs) in
      let below : k < to - from = omega (arith, within, short) in
      let least = ltb-false _ t (low.1 (from + k) d (omega arith) (omega (arith, below, to_within))) in
      let most = leb-true _ t (high.0 (from + k) d (omega arith) (omega (arith, below))) in
      let here : is (get_or xs (from + k) d) ≡ true = grind (arith, nat_tests, least, most) in
      ap is (get_or-take (to - from) (drop from xs) k d below ∙ get_or-drop from xs k d) ∙ here

  behind : All (λ x. is x ≡ false) (drop to xs)
  behind k d within =
      let short = length-drop to xs in
      let more = leb-false _ t (high.1 (to + k) d (omega arith) (omega (arith, within, short))) in
      let here : is (get_or xs (to + k) d) ≡ false = grind (arith, nat_tests, more) in
      ap is (get_or-drop to xs k d) ∙ here

  -- what stands between them is what has that number
  pub stretch_is : slice_range xs from to ≡ filter is xs
  stretch_is =
      let middle : List X = slice_range xs from to in
      let split : xs ≡ take from xs ++ (middle ++ drop to xs) =
      sym (take-append-drop from xs) ∙ ap (λ ys. take from xs ++ ys) (drop_split xs from to stretch_ordered) in
      sym (ap (filter is) split ∙ filter-append is (take from xs) (middle ++ drop to xs)
      ∙ ap (λ ys. ys ++ filter is (middle ++ drop to xs)) (filter_none is (take from xs) before)
      ∙ filter-append is middle (drop to xs)
      ∙ ap (λ ys. filter is middle ++ ys) (filter_none is (drop to xs) behind)
      ∙ append-nil (filter is middle) ∙ all_of is middle inside)
