-- The rounds have the distances of the definition, at every router.
use Rattle.std.proofs.Common.{◌≡◌, ℕ, zero, suc, ◌+◌, ◌<◌, ◌≤◌, Bool, false, ◌&&◌, eqb, List, [], ◌∷◌, ◌++◌}
use Rattle.std.proofs.Common.{length, map, filter, Option, Some, None, inl, inr, refl, sym, ap, arith, ◌∙◌}
use Rattle.std.specs.Prelude.{All, fold, option_map, option_and_then}
use Rattle.std.specs.List.{filter_map, flat_map, range_with_len}
use Rattle.std.specs.Option.{option_map_or, option_to_list}
use Rattle.std.proofs.lemmas.Bool.{cases_lt}
use Rattle.std.proofs.lemmas.List.Elements.{All-append, All-cons, All-head, All-map, All-nil, All-tail, All-weaker}
use Rattle.std.proofs.lemmas.List.FromFn.{get_or-map-range_with_len, length-map-range_with_len}
use Rattle.std.proofs.lemmas.Option.{slice_get-get_or, slice_get_past}
use Rattle.std.proofs.lemmas.Simd.{map-map}
use Rattle.mw_text.specs.declared.address.Prefix.{Prefix}
use Rattle.ios_ast.specs.declared.file.File.{File}
use Rattle.ios_ast.specs.declared.file.Iface.{Iface}
use Rattle.ios_ast.specs.declared.file.IfAddr.{IfAddr}
use Rattle.route_record.specs.declared.Failures.{Failures}
use Rattle.net_parts.specs.declared.adjacencies.Adjacency.{Adjacency}
use Rattle.net_interfaces.specs.declared.interfaces.Addressed.{Addressed}
use Rattle.net_parts.specs.Distances.{distance_within, interior_distance, least, own_cost}
use Rattle.net_interfaces.specs.Interfaces.{addressed, addressed_from, addressed_iface, addressed_routers}
use Rattle.net_parts.specs.World.{is_up}
use Rattle.mw_text.specs.Address.{same_prefix}
use Rattle.mw_text.proofs.Lists.{all_flat_map, filter_none}
use Rattle.net_parts.specs.Ospf.{adjacencies, adjacencies_of, adjacency, advertisement, are_adjacent}
use Rattle.net_parts.specs.Ospf.{is_up_at, ospf_at, ospf_interfaces, up_adjacencies}
use Rattle.net_parts.proofs.LeastWalks.{ospf_at-same}
use Rattle.proto_ospf.specs.Rounds.{everywhere, interior_distances, lower, nearest, of_router, over, receiver, rounds}
use Rattle.proto_ospf.proofs.Bounds.{all_filter_map}

-- ---- what holds of each member

map_agree : {X Y : Type 0} (f g : X → Y) (xs : List X) → ((x : X) → f x ≡ g x) → map f xs ≡ map g xs
map_agree f g [] same = refl
map_agree f g (x ∷ xs) same = rw (same x, map_agree f g xs same) refl

filter_map_agree : {X Y : Type 0} (f g : X → Option Y) (xs : List X) → ((x : X) → f x ≡ g x) → filter_map f xs
    ≡ filter_map g xs
filter_map_agree f g [] same = refl
filter_map_agree f g (x ∷ xs) same = rw (same x, filter_map_agree f g xs same) refl

-- ---- interfaces and adjacencies are of routers of the files

of_this : (router at : ℕ) (interfaces : List Iface)
    → All (λ x. x.id.router ≡ router) (addressed_from router at interfaces)
of_this router at [] = All-nil (λ x. x.id.router ≡ router)
of_this router at (iface ∷ rest) =
    All-append (λ x. x.id.router ≡ router)
    (option_map_or (λ a. addressed_iface (record { router = router; at = at }) iface a ∷ []) iface.address [])
    (addressed_from router (at + 1) rest) (by_address iface.address) (of_this router (at + 1) rest)
  where
    by_address : (o : Option IfAddr) → All (λ x. x.id.router ≡ router)
        (option_map_or (λ a. addressed_iface (record { router = router; at = at }) iface a ∷ []) o [])
    by_address None = All-nil (λ x. x.id.router ≡ router)
    by_address (Some a) = All-cons (λ x. x.id.router ≡ router) _ [] refl (All-nil (λ x. x.id.router ≡ router))

of_these : (router : ℕ) (files : List File) →
    All (λ x. x.id.router < router + length files) (addressed_routers router files)
of_these router [] = All-nil (λ x. x.id.router < router + 0)
of_these router (file ∷ rest) =
    All-append (λ x. x.id.router < router + suc (length rest)) (addressed_from router 0 file.interfaces)
    (addressed_routers (router + 1) rest)
    (All-weaker (λ x. x.id.router ≡ router) (λ x. x.id.router < router + suc (length rest)) (λ x is. omega (arith, is))
    (addressed_from router 0 file.interfaces) (of_this router 0 file.interfaces))
    (All-weaker (λ x. x.id.router < router + 1 + length rest) (λ x. x.id.router < router + suc (length rest))
    (λ x is. omega (arith, is)) (addressed_routers (router + 1) rest) (of_these (router + 1) rest))

interfaces_within : (files : List File) → All (λ o. o.at.id.router < length files) (ospf_interfaces files)
unfolding ospf_interfaces
interfaces_within files =
    all_filter_map (λ x. x.id.router < 0 + length files) (λ o. o.at.id.router < length files) (ospf_at files)
    (addressed files)
    (λ x o below is.
    let same = ospf_at-same files x o is in
    let there : o.at.id.router ≡ x.id.router = ap (λ (y : Addressed). y.id.router) same in
    omega (arith, there, below))
    (of_these 0 files)

adjacencies_within : (files : List File) → All (λ a. a.from.router < length files) (adjacencies files)
unfolding adjacencies
adjacencies_within files =
    all_flat_map (λ o. o.at.id.router < length files) (λ a. a.from.router < length files)
    (λ o. adjacencies_of o (ospf_interfaces files)) (ospf_interfaces files)
    (λ o below. All-map (λ a. a.from.router < length files) (adjacency o)
    (filter (are_adjacent o) (ospf_interfaces files))
    (λ k d within. below))
    (interfaces_within files)

-- ---- so a router past the files has no distance

other : (a n router : ℕ) (b : Bool) → a < n → n ≤ router → (eqb a router && b) ≡ false
other a n router b below past = let differs : eqb a router ≡ false = grind arith in rw differs refl

-- a test of the router, and of more, takes no member
none_there : {X : Type 0} (router_of : X → ℕ) (more : X → Bool) (n router : ℕ) (xs : List X)
    → All (λ x. router_of x < n) xs →
    n ≤ router → filter (λ x. eqb (router_of x) router && more x) xs ≡ []
none_there router_of more n router xs all past =
    filter_none (λ x. eqb (router_of x) router && more x) xs
    (All-weaker (λ x. router_of x < n) (λ x. (eqb (router_of x) router && more x) ≡ false)
    (λ x below. other (router_of x) n router (more x) below past) xs all)

no_own_cost : (files : List File) (failures : Failures) (p : Prefix) (router : ℕ) → length files ≤ router →
    own_cost files failures p router ≡ None
unfolding own_cost
no_own_cost files failures p router past =
    let none = none_there (λ o. o.at.id.router) (λ o. same_prefix (advertisement o) p && is_up files failures o.at)
    (length files) router (ospf_interfaces files) (interfaces_within files) past in
    ap (λ xs. least (map (λ x. x.cost) xs)) none

no_adjacency : (files : List File) (failures : Failures) (router : ℕ) → length files ≤ router →
    up_adjacencies files failures router ≡ []
unfolding up_adjacencies
no_adjacency files failures router past =
    none_there (λ a. a.from.router) (λ a. is_up_at files failures a.from && is_up_at files failures a.to)
    (length files) router (adjacencies files) (adjacencies_within files) past

-- how far it is over an adjacency, and then over at most so many more
abbrev further : List File → Failures → Prefix → ℕ → Adjacency → Option ℕ
further files failures p most a = option_map (λ d. a.cost + d) (distance_within files failures p most a.to.router)

within_none : (files : List File) (failures : Failures) (p : Prefix) (router : ℕ) →
    distance_within files failures p zero router ≡ own_cost files failures p router
unfolding distance_within
within_none files failures p router = refl

within_more : (files : List File) (failures : Failures) (p : Prefix) (most router : ℕ) →
    distance_within files failures p (suc most) router
    ≡ least (option_to_list (own_cost files failures p router)
    ++ filter_map (further files failures p most) (up_adjacencies files failures router))
unfolding distance_within
within_more files failures p most router = refl

no_distance : (files : List File) (failures : Failures) (p : Prefix) (most router : ℕ) → length files ≤ router →
    distance_within files failures p most router ≡ None
no_distance files failures p zero router past =
    within_none files failures p router ∙ no_own_cost files failures p router past
no_distance files failures p (suc most) router past =
    within_more files failures p most router
    ∙ ap (λ o. least (option_to_list o
    ++ filter_map (further files failures p most) (up_adjacencies files failures router)))
    (no_own_cost files failures p router past)
    ∙ ap (λ xs. least (filter_map (further files failures p most) xs)) (no_adjacency files failures router past)

-- ---- a list of what each router has

looked_up : (files : List File) (f : ℕ → Option ℕ) (router : ℕ) → (length files ≤ router → f router ≡ None) →
    of_router (everywhere files f) router ≡ f router
looked_up files f router none = elim (cases_lt router (length files)) [
  | inl below ↦ ap (option_and_then (λ d. d)) (slice_get-get_or (everywhere files f) router None
      (omega (arith, below, length-map-range_with_len f 0 (length files)))
      ∙ ap Some (get_or-map-range_with_len f 0 (length files) router router None below (omega arith)))
  | inr past ↦ ap (option_and_then (λ d. d)) (slice_get_past (everywhere files f) router
      (omega (arith, past, length-map-range_with_len f 0 (length files)))) ∙ sym (none past)
]

least_from : (o : Option ℕ) (ns : List ℕ) → fold lower o ns ≡ least (option_to_list o ++ ns)
least_from None ns = refl
least_from (Some n) ns = refl

one_more : (files : List File) (failures : Failures) (p : Prefix) (most router : ℕ) →
    nearest (everywhere files (own_cost files failures p)) (everywhere files (distance_within files failures p most))
    (receiver files failures router) ≡ distance_within files failures p (suc most) router
one_more files failures p most router =
    let own = looked_up files (own_cost files failures p) router (no_own_cost files failures p router) in
    let before = filter_map_agree (over (everywhere files (distance_within files failures p most)))
    (further files failures p most)
    (up_adjacencies files failures router)
    (λ a. ap (option_map (λ d. a.cost + d)) (looked_up files (distance_within files failures p most) a.to.router
    (no_distance files failures p most a.to.router))) in
    ap (λ o. fold lower o
    (filter_map (over (everywhere files (distance_within files failures p most)))
    (up_adjacencies files failures router))) own
    ∙ ap (fold lower (own_cost files failures p router)) before
    ∙ least_from (own_cost files failures p router)
    (filter_map (further files failures p most) (up_adjacencies files failures router))
    ∙ sym (within_more files failures p most router)

-- after so many rounds the distance of each router is that of walks with at most so many adjacencies
pub rounds_within : (files : List File) (failures : Failures) (p : Prefix) (most : ℕ) →
    rounds (everywhere files (own_cost files failures p)) (everywhere files (receiver files failures)) most
    ≡ everywhere files (distance_within files failures p most)
rounds_within files failures p zero =
    map_agree (own_cost files failures p) (distance_within files failures p zero) (range_with_len 0 (length files))
    (λ router. sym (within_none files failures p router))
rounds_within files failures p (suc most) =
    ap (λ before. map (nearest (everywhere files (own_cost files failures p)) before)
    (everywhere files (receiver files failures)))
    (rounds_within files failures p most)
    ∙ map-map (nearest (everywhere files (own_cost files failures p))
    (everywhere files (distance_within files failures p most)))
    (receiver files failures) (range_with_len 0 (length files))
    ∙ map_agree _ (distance_within files failures p (suc most)) (range_with_len 0 (length files))
    (λ router. one_more files failures p most router)

-- after as many as there are routers it is the interior distance
pub rounds_interior : (files : List File) (failures : Failures) (p : Prefix) →
    rounds (everywhere files (own_cost files failures p)) (everywhere files (receiver files failures)) (length files)
    ≡ interior_distances files failures p
unfolding interior_distance
rounds_interior files failures p = rounds_within files failures p (length files)

-- it is the distance of a router among those of all; a router past the files has none
pub interior_there : (files : List File) (failures : Failures) (p : Prefix) (router : ℕ) →
    interior_distance files failures router p ≡ of_router (interior_distances files failures p) router
unfolding interior_distance
interior_there files failures p router =
    sym (looked_up files (distance_within files failures p (length files)) router
    (no_distance files failures p (length files) router))
