-- The interior distance is the least sum of all walks, whatever their length.
use Rattle.std.proofs.Common.{◌≡◌, ℕ, zero, suc, ◌+◌, ◌<◌, ◌≤◌, Bool, true, false, not, ◌&&◌, ◌||◌, eqb, List, [], ◌∷◌}
use Rattle.std.proofs.Common.{◌++◌, length, map, filter, Option, Some, None, inl, inr, refl, sym, ap, subst, arith}
use Rattle.std.proofs.Common.{◌∙◌, min, slice_get}
use Rattle.std.specs.Prelude.{◌⊎◌, fold, option_map, option_and_then, Contains, cond, if◌then◌else◌}
use Rattle.std.specs.List.{cons_option, filter_map, flat_map, list_any, IsDistinct}
use Rattle.std.specs.Option.{option_map_or, option_to_list}
use Rattle.std.proofs.lemmas.Bool.{cases_lt, and_parts, and_from, eqb-true, not-true}
use Rattle.mw_text.specs.Members.{In}
use Rattle.mw_text.proofs.Lists.{none_equal}
use Rattle.std.proofs.lemmas.List.{length-map}
use Rattle.std.proofs.lemmas.Option.{option_and_then_some}
use Rattle.std.proofs.lemmas.Map.Steps.{length-le_from_distinct_below}
use Rattle.mw_text.specs.declared.address.Prefix.{Prefix}
use Rattle.ios_ast.specs.declared.file.File.{File}
use Rattle.ios_ast.specs.declared.file.Iface.{Iface}
use Rattle.ios_ast.specs.declared.file.IfAddr.{IfAddr}
use Rattle.ios_ast.specs.declared.ospf.Ospf.{Ospf}
use Rattle.route_record.specs.declared.Failures.{Failures}
use Rattle.net_parts.specs.declared.adjacencies.Adjacency.{Adjacency}
use Rattle.net_interfaces.specs.declared.interfaces.Addressed.{Addressed}
use Rattle.net_parts.specs.Distances.{distance_within, interior_distance, IsInteriorDistance, IsWalkSum, least}
use Rattle.net_parts.specs.Distances.{own_cost}
use Rattle.net_interfaces.specs.Interfaces.{addressed, addressed_from, addressed_iface, addressed_routers}
use Rattle.net_parts.specs.declared.ospf.OspfInterface.{OspfInterface}
use Rattle.net_parts.specs.Ospf.{adjacencies, adjacency, are_adjacent, is_matched, is_up_at, ospf_at, ospf_interfaces}
use Rattle.net_parts.specs.Ospf.{running, up_adjacencies}

-- ---- members of lists

-- a member stands somewhere
pub in-contains : {X : Type 0} (x : X) (xs : List X) → In x xs → Contains xs x
in-contains x [] here = absurd here
in-contains x (y ∷ ys) (inl same) = (zero, omega arith, sym same)
in-contains x (y ∷ ys) (inr later) = let there = in-contains x ys later in
    (suc there.0, omega (arith, there.1), there.2)

pub contains-in : {X : Type 0} (x : X) (xs : List X) → Contains xs x → In x xs
contains-in x [] (k, within, is) = absurd (omega arith)
contains-in x (y ∷ ys) (zero, within, is) = inl (sym is)
contains-in x (y ∷ ys) (suc k, within, is) = inr (contains-in x ys (k, omega arith, is))

pub in-left : {X : Type 0} (x : X) (xs ys : List X) → In x xs → In x (xs ++ ys)
in-left x [] ys here = absurd here
in-left x (z ∷ xs) ys (inl same) = inl same
in-left x (z ∷ xs) ys (inr later) = inr (in-left x xs ys later)

pub in-right : {X : Type 0} (x : X) (xs ys : List X) → In x ys → In x (xs ++ ys)
in-right x [] ys here = here
in-right x (z ∷ xs) ys here = inr (in-right x xs ys here)

-- a member of two lists is one of either
pub in-cases : {X : Type 0} (x : X) (xs ys : List X) → In x (xs ++ ys) → In x xs ⊎ In x ys
in-cases x [] ys here = inr here
in-cases x (z ∷ xs) ys (inl same) = inl (inl same)
in-cases x (z ∷ xs) ys (inr later) = elim (in-cases x xs ys later) [ inl front ↦ inl (inr front) | inr back ↦ inr back ]

-- a member of what a function gives comes from a member
pub in-filter_map : {X Y : Type 0} (h : X → Option Y) (xs : List X) (y : Y) → In y (filter_map h xs) →
    (x : X) × In x xs × (h x ≡ Some y)
in-filter_map h [] y here = absurd here
in-filter_map {X} {Y} h (x ∷ xs) y here = by_first (h x) refl here (λ later. in-filter_map h xs y later)
  where
    by_first : (o : Option Y) → h x ≡ o → In y (cons_option o (filter_map h xs)) →
        (In y (filter_map h xs) → (z : X) × In z xs × (h z ≡ Some y)) → (z : X) × In z (x ∷ xs) × (h z ≡ Some y)
    by_first None is here further = let found = further here in (found.0, inr found.1, found.2)
    by_first (Some w) is (inl same) further = (x, inl refl, is ∙ ap Some (sym same))
    by_first (Some w) is (inr later) further = let found = further later in (found.0, inr found.1, found.2)

-- what a function gives of a member
pub filter_map-in : {X Y : Type 0} (h : X → Option Y) (xs : List X) (x : X) (y : Y) → In x xs → h x ≡ Some y →
    In y (filter_map h xs)
filter_map-in h [] x y here gives = absurd here
filter_map-in {X} {Y} h (z ∷ xs) x y (inl same) gives = by_first (h z) (sym (ap h same) ∙ gives)
  where
    by_first : (o : Option Y) → o ≡ Some y → In y (cons_option o (filter_map h xs))
    by_first None is = cc
    by_first (Some w) is = let same : y ≡ w = cc in inl same
filter_map-in {X} {Y} h (z ∷ xs) x y (inr later) gives = by_first (h z) (filter_map-in h xs x y later gives)
  where
    by_first : (o : Option Y) → In y (filter_map h xs) → In y (cons_option o (filter_map h xs))
    by_first None there = there
    by_first (Some w) there = inr there

-- a member of a filter passes
pub in-filter : {X : Type 0} (p : X → Bool) (xs : List X) (x : X) → In x (filter p xs) → In x xs × (p x ≡ true)
in-filter p [] x here = absurd here
in-filter {X} p (y ∷ xs) x here = by_test (p y) refl here (λ later. in-filter p xs x later)
  where
    by_test : (b : Bool) → p y ≡ b → In x (cond b (y ∷ filter p xs) (filter p xs)) →
        (In x (filter p xs) → In x xs × (p x ≡ true)) → In x (y ∷ xs) × (p x ≡ true)
    by_test true is (inl same) further = (inl same, ap p same ∙ is)
    by_test true is (inr later) further = let found = further later in (inr found.0, found.1)
    by_test false is here further = let found = further here in (inr found.0, found.1)

-- a member of a map is what a member of the list becomes
pub in-map : {X Y : Type 0} (f : X → Y) (xs : List X) (y : Y) → In y (map f xs) → (x : X) × In x xs × (y ≡ f x)
in-map f [] y here = absurd here
in-map f (x ∷ xs) y (inl same) = (x, inl refl, same)
in-map f (x ∷ xs) y (inr later) = let found = in-map f xs y later in (found.0, inr found.1, found.2)

-- and one of lists in a row stands in one of them
pub in-flat_map : {X Y : Type 0} (f : X → List Y) (xs : List X) (y : Y) → In y (flat_map f xs) → (x : X) × In x xs
    × In y (f x)
in-flat_map f [] y here = absurd here
in-flat_map f (x ∷ xs) y here = elim (in-cases y (f x) (flat_map f xs) here) [
  | inl front ↦ (x, inl refl, front)
  | inr back ↦ let found = in-flat_map f xs y back in (found.0, inr found.1, found.2)
]

-- ---- the least of some numbers

-- the least of a number and of others after it
abbrev after : Option ℕ → List ℕ → Option ℕ
after best ns = fold (λ b n. Some (option_map_or (min n) b n)) best ns

record IsLeastOf (m b : ℕ) (ns : List ℕ) : Type 0 where
  one : (m ≡ b) ⊎ In m ns
  first : m ≤ b
  all : (n : ℕ) → In n ns → m ≤ n

min-cases : (a b : ℕ) → (min a b ≡ a) ⊎ (min a b ≡ b)
min-cases a b = elim (cases_lt a b) [ inl below ↦ inl (omega (arith, below)) | inr above ↦ inr (omega (arith, above)) ]

after-some : (b : ℕ) (ns : List ℕ) → (m : ℕ) × (after (Some b) ns ≡ Some m) × IsLeastOf m b ns
after-some b [] = (b, refl, record { one = inl refl; first = omega arith; all = λ n here. absurd here })
after-some b (n ∷ ns) =
    let rest = after-some (min n b) ns in (
      rest.0,
      rest.1,
      record {
        one = elim rest.2.one [
          | inl same ↦ elim (min-cases n b) [ inl is ↦ inr (inl (same ∙ is)) | inr is ↦ inl (same ∙ is) ]
          | inr later ↦ inr (inr later)
        ];
        first = let below = rest.2.first in omega (arith, below);
        all = λ k here. elim here [
          | inl same ↦ let below = rest.2.first in omega (arith, below, same)
          | inr later ↦ rest.2.all k later
        ];
      },
    )

-- the least of numbers, where there are some
pub least-some : (ns : List ℕ) (x : ℕ) → In x ns → (m : ℕ) × (least ns ≡ Some m) × (m ≤ x)
least-some [] x here = absurd here
least-some (n ∷ ns) x here =
    let found = after-some n ns in (
      found.0,
      found.1,
      elim here [
        | inl same ↦ let below = found.2.first in omega (arith, below, same)
        | inr later ↦ found.2.all x later
      ],
    )

-- the least is one of the numbers
pub least-is : (ns : List ℕ) (m : ℕ) → least ns ≡ Some m → In m ns
least-is [] m is = cc
least-is (n ∷ ns) m is =
    let found = after-some n ns in
    let same : found.0 ≡ m = cc (found.1, is) in
    let P : ℕ → Type 0 = λ k. In k (n ∷ ns) in
    subst P same (elim found.2.one [ inl first ↦ inl first | inr later ↦ inr later ])

-- the one item
pub in-option : {X : Type 0} (o : Option X) (x : X) → In x (option_to_list o) → o ≡ Some x
in-option None x here = absurd here
in-option (Some y) x (inl same) = ap Some (sym same)
in-option (Some y) x (inr none) = absurd none

pub option-in : {X : Type 0} (o : Option X) (x : X) → o ≡ Some x → In x (option_to_list o)
option-in None x is = cc
option-in (Some y) x is = let same : x ≡ y = cc in inl same

-- ---- walks of at most so many adjacencies

-- how far it is over an adjacency, and then over at most so many more
abbrev over : List File → Failures → Prefix → ℕ → Adjacency → Option ℕ
over files failures p most a = option_map (λ d. a.cost + d) (distance_within files failures p most a.to.router)

-- the sums among which the least is taken
abbrev sums : List File → Failures → Prefix → ℕ → ℕ → List ℕ
sums files failures p most router =
    option_to_list (own_cost files failures p router)
    ++ filter_map (over files failures p most) (up_adjacencies files failures router)

within-zero : (files : List File) (failures : Failures) (p : Prefix) (router : ℕ) →
    distance_within files failures p zero router ≡ own_cost files failures p router
unfolding distance_within
within-zero files failures p router = refl

within-suc : (files : List File) (failures : Failures) (p : Prefix) (most router : ℕ) →
    distance_within files failures p (suc most) router ≡ least (sums files failures p most router)
unfolding distance_within
within-suc files failures p most router = refl

-- the distance is the sum of some walk
walk_of : (files : List File) (failures : Failures) (p : Prefix) (most router d : ℕ) →
    distance_within files failures p most router ≡ Some d → (walk : List Adjacency)
    × IsWalkSum files failures p router walk d
walk_of files failures p zero router d is = ([], sym (within-zero files failures p router) ∙ is)
walk_of files failures p (suc most) router d is =
    by_part (in-cases d (option_to_list (own_cost files failures p router))
    (filter_map (over files failures p most) (up_adjacencies files failures router))
    (least-is (sums files failures p most router) d (sym (within-suc files failures p most router) ∙ is)))
    (λ next far. walk_of files failures p most next far)
  where
    by_far : (a : Adjacency) → In a (up_adjacencies files failures router) → (far : Option ℕ) →
        distance_within files failures p most a.to.router ≡ far → option_map (λ further. a.cost + further) far
        ≡ Some d →
        ((next further : ℕ) → distance_within files failures p most next ≡ Some further →
        (walk : List Adjacency) × IsWalkSum files failures p next walk further) →
        (walk : List Adjacency) × IsWalkSum files failures p router walk d
    by_far a there None was gives deeper = cc
    by_far a there (Some further) was gives deeper =
        let rest = deeper a.to.router further was in
        let sum : d ≡ a.cost + further = cc in
        (a ∷ rest.0, (in-contains a _ there, further, rest.1, sum))

    by_part : In d (option_to_list (own_cost files failures p router))
        ⊎ In d (filter_map (over files failures p most) (up_adjacencies files failures router)) →
        ((next further : ℕ) → distance_within files failures p most next ≡ Some further →
        (walk : List Adjacency) × IsWalkSum files failures p next walk further) →
        (walk : List Adjacency) × IsWalkSum files failures p router walk d
    by_part (inl own) deeper = ([], in-option _ d own)
    by_part (inr far) deeper =
        let found = in-filter_map (over files failures p most) (up_adjacencies files failures router) d far in
        by_far found.0 found.1 (distance_within files failures p most found.0.to.router) refl found.2 deeper

-- it is at most the sum of each walk with so few adjacencies
at_most_sum : (files : List File) (failures : Failures) (p : Prefix) (most router : ℕ) (walk : List Adjacency)
    (sum : ℕ) →
    length walk ≤ most → IsWalkSum files failures p router walk sum →
    (d : ℕ) × (distance_within files failures p most router ≡ Some d) × (d ≤ sum)
at_most_sum files failures p zero router [] sum short walks =
    (sum, within-zero files failures p router ∙ walks, omega arith)
at_most_sum files failures p zero router (a ∷ rest) sum short walks = absurd (omega arith)
at_most_sum files failures p (suc most) router [] sum short walks =
    let found = least-some (sums files failures p most router) sum
    (in-left sum (option_to_list (own_cost files failures p router)) _ (option-in _ sum walks)) in
    (found.0, within-suc files failures p most router ∙ found.1, found.2)
at_most_sum files failures p (suc most) router (a ∷ rest) sum short (there, further, walks, is) =
    let deeper = at_most_sum files failures p most a.to.router rest further (omega arith) walks in
    let gives : over files failures p most a ≡ Some (a.cost + deeper.0) = ap (option_map (λ d. a.cost + d)) deeper.1 in
    let found = least-some (sums files failures p most router) (a.cost + deeper.0)
    (in-right (a.cost + deeper.0) (option_to_list (own_cost files failures p router)) _
    (filter_map-in (over files failures p most) (up_adjacencies files failures router) a (a.cost + deeper.0)
    (contains-in a _ there) gives)) in
    let below = found.2 in
    let short_rest = deeper.2 in
    (found.0, within-suc files failures p most router ∙ found.1, omega (arith, below, short_rest, is))

-- ---- a walk that comes back is no shorter

-- the routers at which a walk stands
abbrev standings : ℕ → List Adjacency → List ℕ
standings router walk = router ∷ map (λ a. a.to.router) walk

-- none stands twice
abbrev distinct : List ℕ → Bool
distinct [] = true
distinct (x ∷ xs) = not (list_any (eqb x) xs) && distinct xs

-- a walk from one of the routers at which a walk stands, which sums to no more and stands nowhere twice
abbrev Shorter : List File → Failures → Prefix → ℕ → ℕ → Type 0
Shorter files failures p router sum =
    (walk : List Adjacency) × (less : ℕ) × IsWalkSum files failures p router walk less × (less ≤ sum)
    × (distinct (standings router walk) ≡ true)

cut : (files : List File) (failures : Failures) (p : Prefix) (router from : ℕ) (walk : List Adjacency) (sum : ℕ) →
    IsWalkSum files failures p from walk sum → distinct (standings from walk) ≡ true →
    list_any (eqb router) (standings from walk) ≡ true → Shorter files failures p router sum
cut files failures p router from [] sum walks apart stands =
    let same : router ≡ from = here (eqb router from) refl stands in
    let P : ℕ → Type 0 = λ r. Shorter files failures p r sum in
    subst P (sym same) ([], sum, walks, omega arith, apart)
  where
    here : (b : Bool) → eqb router from ≡ b → (b || false) ≡ true → router ≡ from
    here true is h = eqb-true router from is
    here false is h = cc
cut files failures p router from (a ∷ rest) sum (there, further, walks, is) apart stands =
    by_first (eqb router from) refl stands
    (λ later. cut files failures p router a.to.router rest further walks (and_parts _ _ apart).1 later)
  where
    whole : Shorter files failures p from sum
    whole = (a ∷ rest, sum, (there, further, walks, is), omega arith, apart)

    by_first : (b : Bool) → eqb router from ≡ b → (b || list_any (eqb router) (standings a.to.router rest)) ≡ true →
        (list_any (eqb router) (standings a.to.router rest) ≡ true → Shorter files failures p router further) →
        Shorter files failures p router sum
    by_first true same h deeper =
        let P : ℕ → Type 0 = λ r. Shorter files failures p r sum in subst P (sym (eqb-true router from same)) whole
    by_first false other h deeper =
        let found = deeper h in
        let below = found.3 in
        (found.0, found.1, found.2, omega (arith, below, is), found.4)

-- each walk has one that sums to no more and stands nowhere twice
simple : (files : List File) (failures : Failures) (p : Prefix) (router : ℕ) (walk : List Adjacency) (sum : ℕ) →
    IsWalkSum files failures p router walk sum → Shorter files failures p router sum
simple files failures p router [] sum walks = ([], sum, walks, omega arith, refl)
simple files failures p router (a ∷ rest) sum (there, further, walks, is) =
    by_found (simple files failures p a.to.router rest further walks)
  where
    by_stands : (found : Shorter files failures p a.to.router further) → (b : Bool) →
        list_any (eqb router) (standings a.to.router found.0) ≡ b → Shorter files failures p router sum
    by_stands found true stands =
        let back = cut files failures p router a.to.router found.0 found.1 found.2 found.4 stands in
        let first = found.3 in
        let second = back.3 in
        (back.0, back.1, back.2, omega (arith, first, second, is), back.4)
    by_stands found false stands =
        let below = found.3 in (
          a ∷ found.0,
          a.cost + found.1,
          (there, found.1, found.2, refl),
          omega (arith, below, is),
          and_from _ _ (ap not stands) found.4,
        )

    by_found : Shorter files failures p a.to.router further → Shorter files failures p router sum
    by_found found = by_stands found (list_any (eqb router) (standings a.to.router found.0)) refl

-- ---- the routers of adjacencies are routers of the files

from_interfaces : (router at : ℕ) (interfaces : List Iface) (x : Addressed)
    → In x (addressed_from router at interfaces) →
    x.id.router ≡ router
from_interfaces router at [] x here = absurd here
from_interfaces router at (iface ∷ rest) x here =
    by_part (in-cases x (option_map_or (λ a. addressed_iface (record { router = router; at = at }) iface a
    ∷ []) iface.address [])
    (addressed_from router (at + 1) rest) here) (λ later. from_interfaces router (at + 1) rest x later)
  where
    by_address : (o : Option IfAddr) →
        In x (option_map_or (λ a. addressed_iface (record { router = router; at = at }) iface a ∷ []) o [])
        → x.id.router ≡ router
    by_address None here = absurd here
    by_address (Some a) (inl same) = ap (λ (y : Addressed). y.id.router) same
    by_address (Some a) (inr none) = absurd none

    by_part : In x (option_map_or (λ a. addressed_iface (record { router = router; at = at }) iface a
        ∷ []) iface.address [])
        ⊎ In x (addressed_from router (at + 1) rest)
        → (In x (addressed_from router (at + 1) rest) → x.id.router ≡ router) →
        x.id.router ≡ router
    by_part (inl now) deeper = by_address iface.address now
    by_part (inr later) deeper = deeper later

below_files : (router : ℕ) (files : List File) (x : Addressed) → In x (addressed_routers router files) →
    x.id.router < router + length files
below_files router [] x here = absurd here
below_files router (file ∷ rest) x here =
    by_part (in-cases x (addressed_from router 0 file.interfaces) (addressed_routers (router + 1) rest) here)
    (λ later. below_files (router + 1) rest x later)
  where
    by_part : In x (addressed_from router 0 file.interfaces) ⊎ In x (addressed_routers (router + 1) rest) →
        (In x (addressed_routers (router + 1) rest) → x.id.router < router + 1 + length rest) →
        x.id.router < router + suc (length rest)
    by_part (inl now) deeper = let is = from_interfaces router 0 file.interfaces x now in omega (arith, is)
    by_part (inr later) deeper = let below = deeper later in omega (arith, below)

-- an interface that runs OSPF is that with the address
pub ospf_at-same : (files : List File) (x : Addressed) (o : OspfInterface) → ospf_at files x ≡ Some o → o.at ≡ x
ospf_at-same files x o is =
    option_and_then_some (λ file. option_and_then (λ process.
    if is_matched process x.addr then option_map (λ iface. running process iface x)
    (slice_get file.interfaces x.id.at) else None)
    file.ospf) (slice_get files x.id.router) o is (λ file found inner.
    option_and_then_some (λ process.
    if is_matched process x.addr then option_map (λ iface. running process iface x)
    (slice_get file.interfaces x.id.at) else None)
    file.ospf o inner (λ process runs made. by_match process (is_matched process x.addr)
    (slice_get file.interfaces x.id.at) made))
  where
    by_match : (process : Ospf) (b : Bool) (iface : Option Iface) →
        (if b then option_map (λ i. running process i x) iface else None) ≡ Some o → o.at ≡ x
    by_match process true None made = cc
    by_match process true (Some i) made = let same : running process i x ≡ o = cc in
        ap (λ (y : OspfInterface). y.at) (sym same)
    by_match process false iface made = cc

-- an interface that runs OSPF is one of a router of the files
pub interface_below : (files : List File) (o : OspfInterface) → In o (ospf_interfaces files)
    → o.at.id.router < length files
unfolding ospf_interfaces
interface_below files o here =
    let found = in-filter_map (ospf_at files) (addressed files) o here in
    let same = ospf_at-same files found.0 o found.2 in
    let below = below_files 0 files found.0 found.1 in
    let P : Addressed → Type 0 = λ y. y.id.router < length files in
    subst P (sym same) (omega (arith, below))

pub adjacency_below : (files : List File) (a : Adjacency) → In a (adjacencies files) →
    (a.from.router < length files) × (a.to.router < length files)
unfolding adjacencies
adjacency_below files a here =
    let outer = in-flat_map (λ x. map (adjacency x) (filter (are_adjacent x) (ospf_interfaces files)))
    (ospf_interfaces files) a here in
    let inner = in-map (adjacency outer.0) (filter (are_adjacent outer.0) (ospf_interfaces files)) a outer.2 in
    let other = in-filter (are_adjacent outer.0) (ospf_interfaces files) inner.0 inner.1 in
    let P : Adjacency → Type 0 = λ b. (b.from.router < length files) × (b.to.router < length files) in
    subst P (sym inner.2) (interface_below files outer.0 outer.1, interface_below files inner.0 other.0)

-- an adjacency over which a router receives: that router and the far one are routers of the files
pub up_below : (files : List File) (failures : Failures) (router : ℕ) (a : Adjacency)
    → In a (up_adjacencies files failures router) →
    (router < length files) × (a.to.router < length files)
unfolding up_adjacencies
up_below files failures router a here =
    let found = in-filter (λ b. eqb b.from.router router
    && (is_up_at files failures b.from && is_up_at files failures b.to)) (adjacencies files) a here in
    let below = adjacency_below files a found.0 in
    let same = eqb-true a.from.router router (and_parts _ _ found.1).0 in
    let P : ℕ → Type 0 = λ r. r < length files in
    (subst P same below.0, below.1)

-- all routers at which a walk stands are
stands_below : (files : List File) (failures : Failures) (p : Prefix) (router : ℕ) (walk : List Adjacency) (sum q : ℕ) →
    IsWalkSum files failures p router walk sum → router < length files → list_any (eqb q) (standings router walk)
    ≡ true →
    q < length files
stands_below files failures p router [] sum q walks below stands = by_first (eqb q router) refl stands where
  by_first : (b : Bool) → eqb q router ≡ b → (b || false) ≡ true → q < length files
  by_first true same h = let is = eqb-true q router same in omega (arith, is, below)
  by_first false other h = cc
stands_below files failures p router (a ∷ rest) sum q (there, further, walks, is) below stands =
    by_first (eqb q router) refl stands
    (λ later. stands_below files failures p a.to.router rest further q walks
    (up_below files failures router a (contains-in a _ there)).1 later)
  where
    by_first : (b : Bool) → eqb q router ≡ b → (b || list_any (eqb q) (standings a.to.router rest)) ≡ true →
        (list_any (eqb q) (standings a.to.router rest) ≡ true → q < length files) → q < length files
    by_first true same h deeper = let is = eqb-true q router same in omega (arith, is, below)
    by_first false other h deeper = deeper h

distinct_is : (xs : List ℕ) → distinct xs ≡ true → IsDistinct eqb xs
unfolding IsDistinct
distinct_is [] apart = tt
distinct_is (x ∷ xs) apart =
    let both = and_parts (not (list_any (eqb x) xs)) (distinct xs) apart in
    (none_equal x xs (not-true (list_any (eqb x) xs) both.0), distinct_is xs both.1)

-- a walk that stands nowhere twice has fewer adjacencies than there are routers
short_walk : (files : List File) (failures : Failures) (p : Prefix) (router : ℕ) (walk : List Adjacency) (sum : ℕ) →
    IsWalkSum files failures p router walk sum → distinct (standings router walk) ≡ true → length walk ≤ length files
short_walk files failures p router [] sum walks apart = omega arith
short_walk files failures p router (a ∷ rest) sum (there, further, walks, is) apart =
    let below = up_below files failures router a (contains-in a _ there) in
    let few = length-le_from_distinct_below (standings router (a ∷ rest)) (length files)
    (distinct_is (standings router (a ∷ rest)) apart)
    (λ q stands. stands_below files failures p router (a ∷ rest) sum q (there, further, walks, is) below.0 stands) in
    omega (arith, few, length-map rest (λ (b : Adjacency). b.to.router))

-- ---- the law

-- the interior distance is the least sum of all walks
pub is_interior : (files : List File) (failures : Failures) (p : Prefix) (router : ℕ) →
    IsInteriorDistance files failures p router (interior_distance files failures router p)
unfolding interior_distance
is_interior files failures p router =
    by_distance (distance_within files failures p (length files) router) refl
  where
    at_most : (walk : List Adjacency) (sum : ℕ) → IsWalkSum files failures p router walk sum →
        (d : ℕ) × (distance_within files failures p (length files) router ≡ Some d) × (d ≤ sum)
    at_most walk sum walks =
        let found = simple files failures p router walk sum walks in
        let short = short_walk files failures p router found.0 found.1 found.2 found.4 in
        let least_one = at_most_sum files failures p (length files) router found.0 found.1 short found.2 in
        let below = found.3 in
        let first = least_one.2 in
        (least_one.0, least_one.1, omega (arith, below, first))

    by_distance : (o : Option ℕ) → distance_within files failures p (length files) router ≡ o →
        IsInteriorDistance files failures p router o
    by_distance None is = λ walk sum walks. let found = at_most walk sum walks in cc (is, found.1)
    by_distance (Some d) is =
        let found = walk_of files failures p (length files) router d is in (
          found.0,
          found.1,
          λ other sum walks.
              let first = at_most other sum walks in
              let same : first.0 ≡ d = cc (is, first.1) in
              let below = first.2 in
              omega (arith, same, below),
        )
