-- What a router reaches, and how far it is.
use Rattle.std.proofs.Common.{◌≡◌, ℕ, ◌+◌, ◌-◌, ◌*◌, ◌<◌, ◌≤◌, Bool, true, false, List, [], ◌∷◌, length, drop}
use Rattle.std.proofs.Common.{get_or, filter, Option, Some, None, refl, ap, sym, ◌∙◌, arith}
use Rattle.std.proofs.Common.{if◌then◌else◌, is_some}
use Rattle.std.specs.Prelude.{◌==◌, ◌&&◌, ◌||◌, cond, option_map, option_and_then, slice_get}
use Rattle.std.specs.List.{find, list_any}
use Rattle.std.proofs.lemmas.Grind.{common_steps}
use Rattle.std.proofs.lemmas.List.{drop_more, drop_all}
use Rattle.std.proofs.lemmas.List.Folds.{list_any_more}
use Rattle.std.proofs.lemmas.Option.{option_and_then_some, slice_get-get_or, slice_get_within}
use Rattle.mw_text.specs.declared.address.Addr.{Addr}
use Rattle.mw_text.specs.declared.address.Prefix.{Prefix}
use Rattle.mw_text.specs.Address.{covers}
use Rattle.ios_ast.specs.declared.file.File.{File}
use Rattle.route_record.specs.declared.Failures.{Failures}
use Rattle.route_record.specs.declared.OspfRec.{OspfRec}
use Rattle.net_parts.specs.declared.adjacencies.Adjacency.{Adjacency}
use Rattle.net_interfaces.specs.declared.interfaces.Addressed.{Addressed}
use Rattle.net_parts.specs.Distances.{IsInteriorDistance, IsWalkSum, interior_distance}
use Rattle.net_interfaces.specs.Interfaces.{addressed}
use Rattle.net_parts.specs.Ospf.{advertised, up_adjacencies}
use Rattle.net_parts.specs.Routing.{is_reached, up_interfaces}
use Rattle.net_parts.specs.World.{is_up}
use Rattle.net_parts.proofs.LeastWalks.{contains-in, is_interior}
use Rattle.net_parts.proofs.LeastWalks.{up_below}
use Rattle.term_store.specs.Terms.{Reading}
use Rattle.sym_policy.specs.declared.records.SymNet.{SymNet}
use Rattle.sym_policy.specs.declared.records.SymOspf.{SymOspf}
use Rattle.sym_policy.specs.Held.{failures_of, internal_route, ospf_of}
use Rattle.sym_ospf.specs.Reached.{found, is_reached_by}
use Rattle.sym_ospf.specs.Rows.{HasDistances}
use Rattle.sym_ospf.proofs.FileRouters.{own_within}

-- ---- over a subnet

any_of_filter : {X : Type 0} (f g : X → Bool) (xs : List X) → list_any (λ x. g x && f x) xs ≡ list_any f (filter g xs)
any_of_filter f g [] = refl
any_of_filter {X} f g (x ∷ xs) = by_test (g x) (any_of_filter f g xs) where
  by_test : (b : Bool) → list_any (λ y. g y && f y) xs ≡ list_any f (filter g xs)
      → ((b && f x) || list_any (λ y. g y && f y) xs) ≡ list_any f (cond b (x ∷ filter g xs) (filter g xs))
  by_test true rest = ap (λ b. f x || b) rest
  by_test false rest = rest

pub reached_is : (files : List File) (failures : Failures) (router : ℕ) (a : Addr)
    → list_any (is_reached_by files failures router a) (addressed files)
    ≡ is_reached (up_interfaces files failures router) a
reached_is files failures router a =
    any_of_filter (λ (x : Addressed). covers x.subnet a)
    (λ (x : Addressed). (x.id.router == router) && is_up files failures x) (addressed files)

pub ruleset reach_steps = (common_steps, reached_is, list_any_more)

-- ---- by an advertised prefix

-- the route at a place of the rows is the distance
pub row_is : (w : Reading) (files : List File) (net : SymNet) (router k : ℕ) (p : Prefix) (o : Option SymOspf)
    → HasDistances w files net → router < length files → slice_get (advertised files) k ≡ Some p
    → o ≡ slice_get net.igp (router * length (advertised files) + k)
    → option_and_then (ospf_of w) o
    ≡ option_map internal_route (interior_distance files (failures_of w net) router p)
row_is w files net router k p o has within there is =
    ap (option_and_then (ospf_of w)) is ∙ has.are router k p within there

-- the next prefix contains the address, or one behind it does
found_at : (files : List File) (failures : Failures) (router : ℕ) (a : Addr) (ps : List Prefix) (i : ℕ) (d : Prefix)
    → i < length ps → found files failures router a (drop i ps) ≡ (if covers (get_or ps i d) a
    then option_map internal_route (interior_distance files failures router (get_or ps i d))
    else found files failures router a (drop (i + 1) ps))
unfolding found
found_at files failures router a ps i d within =
    ap (λ qs. option_map internal_route (option_and_then (interior_distance files failures router)
    (find (λ p. covers p a) qs))) (drop_more ps i d within) ∙ by_test (covers (get_or ps i d) a)
  where
    behind : Option Prefix
    behind = find (λ p. covers p a) (drop (i + 1) ps)

    by_test : (b : Bool) → option_map internal_route (option_and_then (interior_distance files failures router)
        (cond b (Some (get_or ps i d)) behind))
        ≡ (if b then option_map internal_route (interior_distance files failures router (get_or ps i d))
        else option_map internal_route (option_and_then (interior_distance files failures router) behind))
    by_test true = refl
    by_test false = refl

-- the same, counted down, where the list is known to be another
pub found_step : (files : List File) (failures : Failures) (router : ℕ) (a : Addr) (ps qs : List Prefix) (i : ℕ)
    (d : Prefix) → 0 < i → i ≤ length ps → qs ≡ ps
    → (if covers (get_or qs (i - 1) d) a
    then option_map internal_route (interior_distance files failures router (get_or qs (i - 1) d))
    else found files failures router a (drop i ps)) ≡ found files failures router a (drop (i - 1) ps)
found_step files failures router a ps qs i d some within same =
    let next : i - 1 + 1 ≡ i = omega (arith, some) in
    ap (λ (xs : List Prefix). if covers (get_or xs (i - 1) d) a
    then option_map internal_route (interior_distance files failures router (get_or xs (i - 1) d))
    else found files failures router a (drop i ps)) same
    ∙ ap (λ j. if covers (get_or ps (i - 1) d) a
    then option_map internal_route (interior_distance files failures router (get_or ps (i - 1) d))
    else found files failures router a (drop j ps)) (sym next)
    ∙ sym (found_at files failures router a ps (i - 1) d (omega (arith, some, within)))

pub found_end : (files : List File) (failures : Failures) (router : ℕ) (a : Addr) (ps : List Prefix) (i : ℕ)
    → length ps ≤ i → found files failures router a (drop i ps) ≡ None
unfolding found
found_end files failures router a ps i past =
    ap (λ qs. option_map internal_route (option_and_then (interior_distance files failures router)
    (find (λ p. covers p a) qs))) (drop_all i ps past)

pub ruleset found_steps = (found_end, slice_get-get_or)

-- ---- a router past the files has no distance

-- a walk begins at a router of the files
walk_within : (files : List File) (failures : Failures) (p : Prefix) (router : ℕ) (walk : List Adjacency) (sum : ℕ)
    → IsWalkSum files failures p router walk sum → router < length files
walk_within files failures p router [] sum walks = own_within files failures p router sum walks
walk_within files failures p router (a ∷ rest) sum (there, further, walks, is) =
    (up_below files failures router a (contains-in a (up_adjacencies files failures router) there)).0

none_past : (files : List File) (failures : Failures) (router : ℕ) (p : Prefix) → length files ≤ router
    → interior_distance files failures router p ≡ None
none_past files failures router p past =
    by_distance (interior_distance files failures router p) (is_interior files failures p router)
  where
    by_distance : (o : Option ℕ) → IsInteriorDistance files failures p router o → o ≡ None
    by_distance None none = refl
    by_distance (Some m) some =
        absurd (let within = walk_within files failures p router some.0 m some.1 in omega (arith, within, past))

pub found_past : (files : List File) (failures : Failures) (router : ℕ) (a : Addr) (ps : List Prefix)
    → length files ≤ router → found files failures router a ps ≡ None
unfolding found
found_past files failures router a ps past = by_prefix (find (λ p. covers p a) ps) where
  by_prefix : (o : Option Prefix)
      → option_map internal_route (option_and_then (interior_distance files failures router) o) ≡ None
  by_prefix None = refl
  by_prefix (Some p) = ap (option_map internal_route) (none_past files failures router p past)

-- ---- the whole

-- over a subnet it costs nothing
pub resolved_is : (b : Bool) (files : List File) (failures : Failures) (router : ℕ) (a : Addr)
    → (if b then Some (internal_route 0) else found files failures router a (advertised files))
    ≡ option_map internal_route (if b then Some 0
    else option_and_then (interior_distance files failures router) (find (λ p. covers p a) (advertised files)))
unfolding found
resolved_is true files failures router a = refl
resolved_is false files failures router a = refl

-- a route is there where there is a distance
pub resolves_is : (b : Bool) (r : OspfRec) (o : Option ℕ)
    → (if b then Some r else None) ≡ option_map internal_route o → b ≡ is_some o
resolves_is true r None is = cc
resolves_is true r (Some n) is = refl
resolves_is false r None is = refl
resolves_is false r (Some n) is = cc
