-- No router has two sessions with one address, where no two of its neighbour lines have one.
use Rattle.std.proofs.Common.{◌≡◌, ℕ, ◌+◌, ◌<◌, ◌≤◌, ◌⊎◌, ◌==◌, List, [], ◌∷◌, ◌++◌, map, Option, Some, None}
use Rattle.std.proofs.Common.{inl, inr, option_map, option_and_then, refl, ap, sym, ◌∙◌, arith, get_or}
use Rattle.std.specs.Prelude.{All, AllPairs, IfSome, filter, not, slice_get}
use Rattle.std.specs.List.{find}
use Rattle.std.specs.Option.{option_map_or}
use Rattle.std.proofs.lemmas.Bool.{cases_lt}
use Rattle.std.proofs.lemmas.List.Elements.{All-append, All-cons, All-map, All-nil}
use Rattle.std.proofs.lemmas.List.Elements.{All-weaker}
use Rattle.std.proofs.lemmas.List.Kept.{AllPairs-cons, AllPairs-filter}
use Rattle.mw_text.proofs.Lists.{all_found}
use Rattle.mw_text.specs.declared.address.Addr.{Addr}
use Rattle.ios_ast.specs.declared.bgp.Bgp.{Bgp}
use Rattle.ios_ast.specs.declared.bgp.Neighbour.{Neighbour}
use Rattle.ios_ast.specs.declared.file.File.{File}
use Rattle.net_interfaces.specs.declared.interfaces.Addressed.{Addressed}
use Rattle.net_parts.specs.declared.sessions.Peering.{Peering}
use Rattle.net_parts.specs.declared.sessions.SessionEnd.{SessionEnd}
use Rattle.net_interfaces.specs.Interfaces.{addressed}
use Rattle.net_parts.specs.Sessions.{IsPlaced, end_of, ends_of, has_session, neighbour_of, peering, peerings}
use Rattle.net_parts.specs.Sessions.{peerings_from, peerings_of, peerings_routers, sessions, speaking, speaks_from}
use Rattle.net_interfaces.proofs.Pairs.{first, later, no_pairs, pairs_joined}
use Rattle.net_parts.proofs.EndPlaces.{ends_placed}
use Rattle.cex_json.specs.Writable.{AreApart, AreNeighbours, IsNeighbour, end_key}
use Rattle.cex_json.proofs.Inversion.{no_value, same_some}
use Rattle.cex_json.proofs.Places.{pair_at}
use Rattle.cex_json.proofs.WrittenSenders.{some_item}

-- ---- pairs of two lists, and of what is made of a list

pairs_map : {A B : Type 0} (R : B → B → Type 0) (f : A → B) (xs : List A) → AllPairs (λ x y. R (f x) (f y)) xs →
    AllPairs R (map f xs)
pairs_map R f [] pairs = no_pairs R
pairs_map R f (x ∷ xs) pairs =
    AllPairs-cons R (f x) (map f xs) (All-map (R (f x)) f xs (first (λ a b. R (f a) (f b)) x xs pairs))
    (pairs_map R f xs (later (λ a b. R (f a) (f b)) x xs pairs))

-- ---- neighbour lines stand by router and then by their place

abbrev IsSooner : Peering → Peering → Type 0
IsSooner a b = (a.router < b.router) ⊎ ((a.router ≡ b.router) × (a.at < b.at))

-- a line of that router, from a place on
abbrev IsFrom : ℕ → ℕ → Peering → Type 0
IsFrom router at a = (a.router ≡ router) × (at ≤ a.at)

lines_from : (own : List Addressed) (router : ℕ) (file : File) (asn at : ℕ) (ns : List Neighbour) →
    All (IsFrom router at) (peerings_from own router file asn at ns)
lines_from own router file asn at [] = All-nil (IsFrom router at)
lines_from own router file asn at (n ∷ rest) =
    All-append (IsFrom router at)
    (option_map_or (λ source. peering router asn at n source ∷ []) (find (speaks_from file n) own) [])
    (peerings_from own router file asn (at + 1) rest) (here (find (speaks_from file n) own))
    (All-weaker (IsFrom router (at + 1)) (IsFrom router at) (λ a is. (is.0, earlier a.at is.1))
    (peerings_from own router file asn (at + 1) rest) (lines_from own router file asn (at + 1) rest))
  where
    earlier : (k : ℕ) → at + 1 ≤ k → at ≤ k
    earlier k from = omega arith

    here : (o : Option Addressed) → All (IsFrom router at)
        (option_map_or (λ source. peering router asn at n source ∷ []) o [])
    here None = All-nil (IsFrom router at)
    here (Some source) =
        All-cons (IsFrom router at) (peering router asn at n source) [] (refl, omega arith) (All-nil (IsFrom router at))

lines_up : (own : List Addressed) (router : ℕ) (file : File) (asn at : ℕ) (ns : List Neighbour) →
    AllPairs IsSooner (peerings_from own router file asn at ns)
lines_up own router file asn at [] = no_pairs IsSooner
lines_up own router file asn at (n ∷ rest) =
    by_source (find (speaks_from file n) own) (lines_up own router file asn (at + 1) rest)
  where
    others : List Peering
    others = peerings_from own router file asn (at + 1) rest

    sooner : (a : Peering) (source : Addressed) → IsFrom router (at + 1) a → IsSooner (peering router asn at n source) a
    sooner a source is =
        let from = is.1 in
        let less : at < a.at = omega arith in inr (sym is.0, less)

    by_source : (o : Option Addressed) → AllPairs IsSooner others →
        AllPairs IsSooner (option_map_or (λ source. peering router asn at n source ∷ []) o [] ++ others)
    by_source None up = up
    by_source (Some source) up =
        AllPairs-cons IsSooner (peering router asn at n source) others
        (All-weaker (IsFrom router (at + 1)) (IsSooner (peering router asn at n source))
        (λ a is. sooner a source is) others (lines_from own router file asn (at + 1) rest)) up

abbrev IsOf : ℕ → Peering → Type 0
IsOf router a = a.router ≡ router

router_lines : (all : List Addressed) (router : ℕ) (file : File) →
    AllPairs IsSooner (peerings_of all router file) × All (IsOf router) (peerings_of all router file)
router_lines all router file = by_process file.bgp where
  own : List Addressed
  own = filter (λ x. x.id.router == router) all

  by_process : (o : Option Bgp) →
      AllPairs IsSooner (option_map_or (λ bgp. peerings_from own router file bgp.asn 0 bgp.neighbours) o [])
      × All (IsOf router) (option_map_or (λ bgp. peerings_from own router file bgp.asn 0 bgp.neighbours) o [])
  by_process None = (no_pairs IsSooner, All-nil (IsOf router))
  by_process (Some bgp) = (
    lines_up own router file bgp.asn 0 bgp.neighbours,
    All-weaker (IsFrom router 0) (IsOf router) (λ a is. is.0)
        (peerings_from own router file bgp.asn 0 bgp.neighbours) (lines_from own router file bgp.asn 0 bgp.neighbours),
  )

abbrev IsLater : ℕ → Peering → Type 0
IsLater router a = router ≤ a.router

all_lines : (all : List Addressed) (router : ℕ) (files : List File) →
    AllPairs IsSooner (peerings_routers all router files) × All (IsLater router) (peerings_routers all router files)
all_lines all router [] = (no_pairs IsSooner, All-nil (IsLater router))
all_lines all router (file ∷ rest) =
    let one = router_lines all router file in
    let others = all_lines all (router + 1) rest in
    let here = peerings_of all router file in
    let more = peerings_routers all (router + 1) rest in (
      pairs_joined IsSooner here more one.0 others.0
          (All-weaker (IsOf router) (λ a. All (IsSooner a) more) (λ a is. all_sooner a is others.1) here one.1),
      All-append (IsLater router) here more (All-weaker (IsOf router) (IsLater router) (λ a is. from a is) here one.1)
          (All-weaker (IsLater (router + 1)) (IsLater router) (λ b behind. behind_too b behind) more others.1),
    )
  where
    before : (a b : Peering) → a.router ≡ router → router + 1 ≤ b.router → a.router < b.router
    before a b is behind = omega arith

    all_sooner : (a : Peering) → IsOf router a → All (IsLater (router + 1)) (peerings_routers all (router + 1) rest) →
        All (IsSooner a) (peerings_routers all (router + 1) rest)
    all_sooner a is behind =
        All-weaker (IsLater (router + 1)) (IsSooner a) (λ b later_one. inl (before a b is later_one))
        (peerings_routers all (router + 1) rest) behind

    from : (a : Peering) → a.router ≡ router → router ≤ a.router
    from a is = omega arith

    behind_too : (b : Peering) → router + 1 ≤ b.router → router ≤ b.router
    behind_too b behind = omega arith

-- ---- and so do the ends

abbrev IsSoonerEnd : SessionEnd → SessionEnd → Type 0
IsSoonerEnd a b = (a.router < b.router) ⊎ ((a.router ≡ b.router) × (a.neighbour < b.neighbour))

ends_up : (files : List File) → AllPairs IsSoonerEnd (ends_of files)
unfolding ends_of sessions peerings
ends_up files =
    pairs_map IsSoonerEnd (end_of (addressed files) (sessions files)) (sessions files)
    (AllPairs-filter IsSooner (has_session (addressed files) (speaking files)) (speaking files)
    (AllPairs-filter IsSooner (λ a. not a.shutdown) (peerings files) (all_lines (addressed files) 0 files).0))

-- ---- lines of one router with one address

abbrev FitsLines : File → Type 0
FitsLines file = IfSome file.bgp AreNeighbours

-- the line of a router at a place
abbrev line_of : Option File → ℕ → Option Neighbour
line_of file k = option_and_then (λ bgp. slice_get bgp.neighbours k) (option_and_then (λ (f : File). f.bgp) file)

one_line : (process : Option Bgp) (k j : ℕ) (n m : Neighbour) → IfSome process AreNeighbours →
    option_and_then (λ (bgp : Bgp). slice_get bgp.neighbours k) process ≡ Some n →
    option_and_then (λ (bgp : Bgp). slice_get bgp.neighbours j) process ≡ Some m → n.addr ≡ m.addr → k ≡ j
one_line None k j n m fits one other same = absurd (no_value n one)
one_line (Some bgp) k j n m fits one other same = fits.1 k j n m one other same

same_line : (files : List File) (router k j : ℕ) (n m : Neighbour) → All FitsLines files →
    line_of (slice_get files router) k ≡ Some n → line_of (slice_get files router) j ≡ Some m → n.addr ≡ m.addr → k ≡ j
same_line files router k j n m fits one other same = by_file (slice_get files router) refl one other where
  by_file : (o : Option File) → slice_get files router ≡ o → line_of o k ≡ Some n → line_of o j ≡ Some m → k ≡ j
  by_file None is first_line other_line = absurd (no_value n first_line)
  by_file (Some file) is first_line other_line =
      one_line file.bgp k j n m (all_found FitsLines files router file fits is) first_line other_line same

-- two ends of one router and address are one
same_end : (files : List File) (a b : SessionEnd) → All FitsLines files → IsPlaced files a → IsPlaced files b →
    end_key files a ≡ end_key files b → a.neighbour ≡ b.neighbour
same_end files a b fits one other same =
    let router : a.router ≡ b.router = ap (λ (key : ℕ × Option Addr). key.0) same in
    let n = some_item (neighbour_of files a) one.line in
    let m = some_item (neighbour_of files b) other.line in
    let address = sym (ap (option_map (λ (x : Neighbour). x.addr)) n.1)
    ∙ ap (λ (key : ℕ × Option Addr). key.1) same ∙ ap (option_map (λ (x : Neighbour). x.addr)) m.1 in
    same_line files a.router a.neighbour b.neighbour n.0 m.0 fits n.1
    (ap (λ r. line_of (slice_get files r) b.neighbour) router ∙ m.1) (same_some n.0.addr m.0.addr address)

-- no router has two sessions with one address
pub ends_apart : (files : List File) → All FitsLines files → AreApart (end_key files) (ends_of files)
ends_apart files fits i j x y one other same = by_order (cases_lt i j) (cases_lt j i) where
  router : x.router ≡ y.router
  router = ap (λ (key : ℕ × Option Addr). key.0) same

  line : x.neighbour ≡ y.neighbour
  line = same_end files x y fits (all_found (IsPlaced files) (ends_of files) i x (ends_placed files) one)
      (all_found (IsPlaced files) (ends_of files) j y (ends_placed files) other) same

  never : (a b : SessionEnd) → a.router ≡ b.router → a.neighbour ≡ b.neighbour → IsSoonerEnd a b → ⊥
  never a b r n (inl less) = omega arith
  never a b r n (inr less) = let below = less.1 in omega arith

  by_order : (i < j) ⊎ (j ≤ i) → (j < i) ⊎ (i ≤ j) → i ≡ j
  by_order (inl less) _ =
      absurd (never x y router line (pair_at IsSoonerEnd (ends_of files) i j x y (ends_up files) less one other))
  by_order (inr most) (inl less) =
      absurd (never y x (sym router) (sym line)
      (pair_at IsSoonerEnd (ends_of files) j i y x (ends_up files) less other one))
  by_order (inr most) (inr least) = omega (arith, most, least)

-- ---- neighbours fit

neighbour_fits : (files : List File) (end : SessionEnd) → All FitsLines files →
    IfSome (neighbour_of files end) IsNeighbour
neighbour_fits files end fits = by_file (slice_get files end.router) refl where
  by_line : (o : Option Neighbour) (bgp : Bgp) → slice_get bgp.neighbours end.neighbour ≡ o → AreNeighbours bgp →
      IfSome o IsNeighbour
  by_line None bgp is are = tt
  by_line (Some n) bgp is are = all_found IsNeighbour bgp.neighbours end.neighbour n are.0 is

  by_process : (o : Option Bgp) → IfSome o AreNeighbours →
      IfSome (option_and_then (λ (bgp : Bgp). slice_get bgp.neighbours end.neighbour) o) IsNeighbour
  by_process None are = tt
  by_process (Some bgp) are = by_line (slice_get bgp.neighbours end.neighbour) bgp refl are

  by_file : (o : Option File) → slice_get files end.router ≡ o → IfSome (line_of o end.neighbour) IsNeighbour
  by_file None is = tt
  by_file (Some file) is = by_process file.bgp (all_found FitsLines files end.router file fits is)

-- the neighbours of all ends
pub neighbours_fit : (files : List File) → All FitsLines files →
    All (λ end. IfSome (neighbour_of files end) IsNeighbour) (ends_of files)
neighbours_fit files fits = λ k d within. neighbour_fits files (get_or (ends_of files) k d) fits
