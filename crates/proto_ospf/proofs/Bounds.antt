-- Distances stay small: each round adds at most one cost.
use Rattle.std.proofs.Common.{◌≡◌, ℕ, zero, suc, ◌+◌, ◌*◌, ◌<◌, ◌≤◌, List, length, [], ◌∷◌, Option, Some, None, arith}
use Rattle.std.proofs.Common.{refl}
use Rattle.std.specs.Prelude.{All, IfSome, fold, map, option_map}
use Rattle.std.specs.List.{cons_option, filter_map, range_with_len}
use Rattle.std.proofs.lemmas.List.Elements.{All-cons, All-filter, All-head, All-map, All-nil, All-tail, All-weaker}
use Rattle.mw_text.specs.declared.address.Prefix.{Prefix}
use Rattle.ios_ast.specs.declared.file.File.{File}
use Rattle.route_record.specs.declared.Failures.{Failures}
use Rattle.net_parts.specs.declared.adjacencies.Adjacency.{Adjacency}
use Rattle.net_parts.specs.declared.ospf.OspfInterface.{OspfInterface}
use Rattle.net_parts.specs.Distances.{own_cost}
use Rattle.net_parts.specs.Ospf.{adjacencies, origin_interfaces, ospf_interfaces, up_adjacencies}
use Rattle.proto_ospf.specs.declared.rounds.Receiver.{Receiver}
use Rattle.proto_ospf.specs.Rounds.{AreCheap, AtMost, everywhere, lower, nearest, of_router, over, receiver, rounds}

-- the number, if there is one, is at most that
abbrev Below : ℕ → Option ℕ → Type 0
Below most o = IfSome o (λ d. d ≤ most)

lower_below : (most : ℕ) (best : Option ℕ) (n : ℕ) → Below most best → n ≤ most → Below most (lower best n)
lower_below most None n held within = within
lower_below most (Some b) n held within = omega (arith, held, within)

fold_below : (most : ℕ) (best : Option ℕ) (ns : List ℕ) → Below most best → All (λ n. n ≤ most) ns →
    Below most (fold lower best ns)
fold_below most best [] held all = held
fold_below most best (n ∷ ns) held all =
    fold_below most (lower best n) ns (lower_below most best n held (All-head (λ k. k ≤ most) n ns all))
    (All-tail (λ k. k ≤ most) n ns all)

-- what a function gives of each member
pub all_filter_map : {X Y : Type 0} (P : X → Type 0) (Q : Y → Type 0) (f : X → Option Y) (xs : List X) →
    ((x : X) (y : Y) → P x → f x ≡ Some y → Q y) → All P xs → All Q (filter_map f xs)
all_filter_map P Q f [] gives all = All-nil Q
all_filter_map {X} {Y} P Q f (x ∷ xs) gives all =
    by_first (f x) refl (all_filter_map P Q f xs gives (All-tail P x xs all))
  where
    by_first : (o : Option Y) → f x ≡ o → All Q (filter_map f xs) → All Q (cons_option o (filter_map f xs))
    by_first None is rest = rest
    by_first (Some y) is rest = All-cons Q y (filter_map f xs) (gives x y (All-head P x xs all) is) rest

router_below : (most : ℕ) (distances : List (Option ℕ)) (router : ℕ) → AtMost most distances →
    Below most (of_router distances router)
router_below most [] router all = tt
router_below most (o ∷ rest) zero all = All-head (Below most) o rest all
router_below most (o ∷ rest) (suc router) all = router_below most rest router (All-tail (Below most) o rest all)

over_below : (most : ℕ) (before : List (Option ℕ)) (a : Adjacency) → AtMost most before → a.cost ≤ 65535 →
    Below (65535 + most) (over before a)
over_below most before a all cheap =
    by_distance (of_router before a.to.router) (router_below most before a.to.router all)
  where
    by_distance : (o : Option ℕ) → Below most o → Below (65535 + most) (option_map (λ d. a.cost + d) o)
    by_distance None below = tt
    by_distance (Some d) below = omega (arith, below, cheap)

weaker : (most more : ℕ) (o : Option ℕ) → most ≤ more → Below most o → Below more o
weaker most more None is below = tt
weaker most more (Some d) is below = omega (arith, is, below)

nearest_below : (most : ℕ) (own before : List (Option ℕ)) (x : Receiver) → AtMost 65535 own → AtMost most before →
    All (λ a. a.cost ≤ 65535) x.adjacencies → Below (65535 + most) (nearest own before x)
nearest_below most own before x start all cheap =
    fold_below (65535 + most) (of_router own x.router) (filter_map (over before) x.adjacencies)
    (weaker 65535 (65535 + most) (of_router own x.router) (omega arith) (router_below 65535 own x.router start))
    (all_filter_map (λ a. a.cost ≤ 65535) (λ n. n ≤ 65535 + most) (over before) x.adjacencies
    (λ a n is gives. some_below (over before a) n gives (over_below most before a all is)) cheap)
  where
    some_below : (o : Option ℕ) (n : ℕ) → o ≡ Some n → Below (65535 + most) o → n ≤ 65535 + most
    some_below None n gives below = cc
    some_below (Some m) n gives below = let same : m ≡ n = cc in omega (arith, same, below)

-- with at most so many adjacencies no distance is more than one cost for each, and the own
pub rounds_below : (own : List (Option ℕ)) (receivers : List Receiver) (k : ℕ) → AtMost 65535 own → AreCheap receivers →
    AtMost (65535 * (k + 1)) (rounds own receivers k)
rounds_below own receivers zero start cheap = start
rounds_below own receivers (suc k) start cheap =
    let deeper = rounds_below own receivers k start cheap in
    let now : AtMost (65535 + 65535 * (k + 1)) (rounds own receivers (suc k)) =
    All-map (Below (65535 + 65535 * (k + 1))) (nearest own (rounds own receivers k)) receivers
    (All-weaker (λ x. All (λ a. a.cost ≤ 65535) x.adjacencies)
    (λ x. Below (65535 + 65535 * (k + 1)) (nearest own (rounds own receivers k) x))
    (λ x is. nearest_below (65535 * (k + 1)) own (rounds own receivers k) x start deeper is) receivers cheap) in
    All-weaker (Below (65535 + 65535 * (k + 1))) (Below (65535 * (suc k + 1)))
    (λ o is. weaker (65535 + 65535 * (k + 1)) (65535 * (suc k + 1)) o (omega arith) is)
    (rounds own receivers (suc k)) now

-- so in a network's rounds all have 31 bits
pub rounds_small : (own : List (Option ℕ)) (receivers : List Receiver) (k : ℕ) → AtMost 65535 own → AreCheap receivers
    → k ≤ 64 →
    AtMost 0x7fff_ffff (rounds own receivers k)
rounds_small own receivers k start cheap few =
    let all = rounds_below own receivers k start cheap in
    All-weaker (Below (65535 * (k + 1))) (Below 2147483647)
    (λ o is. weaker (65535 * (k + 1)) 2147483647 o (omega (arith, few)) is) (rounds own receivers k) all

-- ---- of a network whose costs are those of OSPF

-- a cost from 1 to 65535
abbrev IsCost : ℕ → Type 0
IsCost cost = (0 < cost) × (cost ≤ 65535)

own_below : (files : List File) (failures : Failures) (p : Prefix) (router : ℕ)
    → All (λ x. IsCost x.cost) (ospf_interfaces files) →
    Below 65535 (own_cost files failures p router)
unfolding own_cost
own_below files failures p router costs =
    fold_below 65535 None (map (λ x. x.cost) (origin_interfaces files failures router p)) tt
    (All-map (λ n. n ≤ 65535) (λ (x : OspfInterface). x.cost) (origin_interfaces files failures router p)
    (All-filter _ (λ (x : OspfInterface). x.cost ≤ 65535) (ospf_interfaces files)
    (All-weaker (λ (x : OspfInterface). IsCost x.cost) (λ (x : OspfInterface). x.cost ≤ 65535) (λ x is. is.1)
    (ospf_interfaces files) costs)))

-- the own costs of all routers
pub own_costs_below : (files : List File) (failures : Failures) (p : Prefix)
    → All (λ x. IsCost x.cost) (ospf_interfaces files) →
    AtMost 65535 (everywhere files (own_cost files failures p))
own_costs_below files failures p costs =
    All-map (Below 65535) (own_cost files failures p) (range_with_len 0 (length files))
    (λ k d within. own_below files failures p _ costs)

receiver_cheap : (files : List File) (failures : Failures) (router : ℕ) → All (λ a. IsCost a.cost) (adjacencies files) →
    All (λ a. a.cost ≤ 65535) (up_adjacencies files failures router)
unfolding up_adjacencies
receiver_cheap files failures router costs =
    All-filter _ (λ (a : Adjacency). a.cost ≤ 65535) (adjacencies files)
    (All-weaker (λ (a : Adjacency). IsCost a.cost) (λ (a : Adjacency). a.cost ≤ 65535) (λ a is. is.1)
    (adjacencies files) costs)

-- the adjacencies of all routers
pub receivers_cheap : (files : List File) (failures : Failures) → All (λ a. IsCost a.cost) (adjacencies files) →
    AreCheap (everywhere files (receiver files failures))
receivers_cheap files failures costs =
    All-map (λ x. All (λ a. a.cost ≤ 65535) x.adjacencies) (receiver files failures) (range_with_len 0 (length files))
    (λ k d within. receiver_cheap files failures _ costs)
