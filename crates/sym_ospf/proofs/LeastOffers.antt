-- The least of what interfaces and adjacencies offer, one after another.
use Rattle.std.proofs.Common.{◌≡◌, ℕ, ◌+◌, ◌*◌, ◌<◌, ◌≤◌, Bool, true, false, not, List, [], ◌∷◌, ◌++◌, length, take}
use Rattle.std.proofs.Common.{get_or, map, filter, Option, Some, None, refl, ap, sym, ◌∙◌, arith, inl, inr}
use Rattle.std.proofs.Common.{if◌then◌else◌, min, Fits, w64, ◌^◌}
use Rattle.std.specs.Prelude.{◌==◌, ◌&&◌, ◌||◌, ◌⊎◌, cond, fold, nat_lt, option_and_then, option_map, slice_get}
use Rattle.std.specs.List.{filter_map}
use Rattle.std.specs.Option.{option_map_or, option_to_list}
use Rattle.std.proofs.lemmas.Bool.Decides.{nat_tests}
use Rattle.std.proofs.lemmas.Grind.{common_steps}
use Rattle.std.proofs.lemmas.List.Sums.{fold_more}
use Rattle.std.proofs.Math.Nat.{mul_comm, mul-le-mul_right}
use Rattle.std.proofs.lemmas.Nat.{mul-add-lt}
use Rattle.std.proofs.lemmas.Option.{slice_get-get_or, slice_get_cases}
use Rattle.mw_text.specs.declared.address.Prefix.{Prefix}
use Rattle.mw_text.specs.Address.{same_prefix}
use Rattle.ios_ast.specs.declared.file.File.{File}
use Rattle.route_record.specs.declared.Failures.{Failures}
use Rattle.net_parts.specs.declared.adjacencies.Adjacency.{Adjacency}
use Rattle.net_parts.specs.declared.ospf.OspfInterface.{OspfInterface}
use Rattle.net_parts.specs.Distances.{beyond, least, nearest, own_cost}
use Rattle.net_parts.specs.Ospf.{adjacencies, advertised, advertisement, is_up_at, ospf_interfaces, up_adjacencies}
use Rattle.net_parts.specs.World.{is_up}
use Rattle.term_store.specs.Terms.{Reading}
use Rattle.sym_policy.specs.declared.records.SymNet.{SymNet}
use Rattle.sym_policy.specs.Held.{ospf_of}
use Rattle.route_record.specs.declared.OspfRec.{OspfRec}
use Rattle.sym_ospf.specs.Rows.{costs_at, far_offer, nearer, own_offer}
use Rattle.sym_ospf.proofs.RouteKinds.{routes_end_at}

-- the choice between the least so far and the next is the less of the two
pub nearer_is : (b n : Bool) (x y : ℕ)
    → (if b || n then Some (if n && (not b || nat_lt y x) then y else x) else None)
    ≡ nearer (if b then Some x else None) (if n then Some y else None)
nearer_is true false x y = refl
nearer_is false false x y = refl
nearer_is false true x y = refl
nearer_is true true x y = ap Some (less_of (nat_lt y x) refl) where
  less_of : (b : Bool) → nat_lt y x ≡ b → (if b then y else x) ≡ min y x
  less_of true is = grind (arith, nat_tests)
  less_of false is = grind (arith, nat_tests)

-- the least of the least so far and of further numbers
abbrev least_after : Option ℕ → List ℕ → Option ℕ
least_after best ns = fold (λ b n. Some (option_map_or (min n) b n)) best ns

-- ---- what the router's own interfaces offer

-- the least of what the interfaces offer
abbrev pub own_after : List File → Failures → Prefix → ℕ → Option ℕ → List OspfInterface → Option ℕ
own_after files failures p router best xs = fold (λ b x. nearer b (own_offer files failures p router x)) best xs

own_folds : (files : List File) (failures : Failures) (p : Prefix) (router : ℕ) (best : Option ℕ)
    (xs : List OspfInterface) → own_after files failures p router best xs ≡ least_after best (map (λ x. x.cost)
    (filter (λ x. (x.at.id.router == router) && (same_prefix (advertisement x) p && is_up files failures x.at)) xs))
unfolding own_offer
own_folds files failures p router best [] = refl
own_folds files failures p router best (x ∷ xs) =
    by_test ((x.at.id.router == router) && (same_prefix (advertisement x) p && is_up files failures x.at))
    (λ next. own_folds files failures p router next xs)
  where
    kept : List OspfInterface
    kept = filter (λ x. (x.at.id.router == router) && (same_prefix (advertisement x) p && is_up files failures x.at)) xs

    by_test : (b : Bool) → ((next : Option ℕ) → own_after files failures p router next xs
        ≡ least_after next (map (λ x. x.cost) kept))
        → own_after files failures p router (nearer best (if b then Some x.cost else None)) xs
        ≡ least_after best (map (λ x. x.cost) (cond b (x ∷ kept) kept))
    by_test true rest = rest (Some (option_map_or (min x.cost) best x.cost))
    by_test false rest = rest best

pub own_cost_is : (files : List File) (failures : Failures) (p : Prefix) (router : ℕ)
    → own_after files failures p router None (ospf_interfaces files) ≡ own_cost files failures p router
unfolding own_cost
own_cost_is files failures p router = own_folds files failures p router None (ospf_interfaces files)

pub own_more : (files : List File) (failures : Failures) (p : Prefix) (router : ℕ) (xs : List OspfInterface) (i : ℕ)
    (d : OspfInterface) → i < length xs
    → own_after files failures p router None (take (i + 1) xs)
    ≡ nearer (own_after files failures p router None (take i xs)) (own_offer files failures p router (get_or xs i d))
own_more files failures p router xs i d within =
    fold_more (λ b x. nearer b (own_offer files failures p router x)) None xs i d within

pub ruleset own_steps = (common_steps, own_cost_is, own_more)

-- ---- what adjacencies offer

-- the least of the least so far and of what the adjacencies offer
abbrev pub far_after : List File → Failures → (ℕ → Option ℕ) → ℕ → Option ℕ → List Adjacency → Option ℕ
far_after files failures d router best xs = fold (λ b a. nearer b (far_offer files failures d router a)) best xs

far_folds : (files : List File) (failures : Failures) (d : ℕ → Option ℕ) (router : ℕ) (best : Option ℕ)
    (xs : List Adjacency) → far_after files failures d router best xs
    ≡ least_after best (filter_map (beyond d) (filter (λ a. (a.from.router == router)
    && (is_up_at files failures a.from && is_up_at files failures a.to)) xs))
unfolding far_offer
far_folds files failures d router best [] = refl
far_folds files failures d router best (a ∷ xs) =
    by_test ((a.from.router == router) && (is_up_at files failures a.from && is_up_at files failures a.to))
    (beyond d a) refl (λ next. far_folds files failures d router next xs)
  where
    kept : List Adjacency
    kept = filter (λ a. (a.from.router == router)
        && (is_up_at files failures a.from && is_up_at files failures a.to)) xs

    by_test : (b : Bool) (o : Option ℕ) → beyond d a ≡ o
        → ((next : Option ℕ) → far_after files failures d router next xs
        ≡ least_after next (filter_map (beyond d) kept))
        → far_after files failures d router (nearer best (if b then beyond d a else None)) xs
        ≡ least_after best (filter_map (beyond d) (cond b (a ∷ kept) kept))
    by_test true None is rest = rw is (rest best)
    by_test true (Some n) is rest = rw is (rest (Some (option_map_or (min n) best n)))
    by_test false o is rest = rest best

after_own : (own : Option ℕ) (ns : List ℕ) → least (option_to_list own ++ ns) ≡ least_after own ns
after_own None ns = refl
after_own (Some n) ns = refl

pub nearest_is : (files : List File) (failures : Failures) (p : Prefix) (d : ℕ → Option ℕ) (router : ℕ)
    → far_after files failures d router (own_cost files failures p router) (adjacencies files)
    ≡ nearest files failures p d router
unfolding up_adjacencies
nearest_is files failures p d router =
    far_folds files failures d router (own_cost files failures p router) (adjacencies files)
    ∙ sym (after_own (own_cost files failures p router)
    (filter_map (beyond d) (up_adjacencies files failures router)))

pub far_more : (files : List File) (failures : Failures) (d : ℕ → Option ℕ) (router : ℕ) (best : Option ℕ)
    (xs : List Adjacency) (i : ℕ) (e : Adjacency) → i < length xs
    → far_after files failures d router best (take (i + 1) xs)
    ≡ nearer (far_after files failures d router best (take i xs)) (far_offer files failures d router (get_or xs i e))
far_more files failures d router best xs i e within =
    fold_more (λ b a. nearer b (far_offer files failures d router a)) best xs i e within

pub ruleset far_steps = (common_steps, nearest_is, far_more)

-- ---- the place of a route among the rows

-- it is within them
place_within : (router n k files total : ℕ) → total ≡ files * n → router < files → k < n → router * n + k < total
place_within router n k files total all below within =
    omega (arith, all, mul-add-lt router n k files below within, mul_comm n files)

-- so the sum and the product fit 64 bits as the count of the routes does
pub fits_sum : (router n k files total m : ℕ) → total ≡ files * n → router < files → k < n → m ≡ n → total < 2 ^ 64
    → Fits w64 (router * m + k)
fits_sum router n k files total m all below within same small =
    let inside = place_within router n k files total all below within in
    let product : router * m ≡ router * n = ap (λ x. router * x) same in
    omega (arith, inside, small, product)

pub fits_product : (router n k files total m : ℕ) → total ≡ files * n → router < files → k < n → m ≡ n → total < 2 ^ 64
    → Fits w64 (router * m)
fits_product router n k files total m all below within same small =
    let inside = place_within router n k files total all below within in
    let product : router * m ≡ router * n = ap (λ x. router * x) same in
    omega (arith, inside, small, product)

-- and past them for a router that is none of the files
place_past : (router n k files total : ℕ) → total ≡ files * n → files ≤ router → total ≤ router * n + k
place_past router n k files total all past = omega (arith, all, mul-le-mul_right {m = files} {n = router} n past)

pub ruleset held_steps = (routes_end_at, slice_get-get_or)

-- nothing stands past the end
past_none : {X : Type 0} (xs : List X) (i : ℕ) → length xs ≤ i → None ≡ slice_get xs i
past_none {X} xs i past = by_case (slice_get_cases xs i).1 where
  by_case : ((x : X) × (i < length xs) × (slice_get xs i ≡ Some x) × (get_or xs i x ≡ x))
      ⊎ ((length xs ≤ i) × (slice_get xs i ≡ None)) → None ≡ slice_get xs i
  by_case (inl (x, below, there, is)) = absurd (omega (arith, below, past))
  by_case (inr (above, none)) = sym none

-- so there is nothing over an adjacency to such a router
pub beyond_past : (w : Reading) (files : List File) (net : SymNet) (k : ℕ) (a : Adjacency) (up : Bool)
    → length net.igp ≡ length files * length (advertised files) → length files ≤ a.to.router
    → (if up then beyond (costs_at w files net k) a else None) ≡ None
beyond_past w files net k a up rows past = by_test up where
  n : ℕ
  n = length (advertised files)

  none : slice_get net.igp (a.to.router * n + k) ≡ None
  none =
      sym (past_none net.igp (a.to.router * n + k)
      (place_past a.to.router n k (length files) (length net.igp) rows past))

  by_test : (b : Bool) → (if b then beyond (costs_at w files net k) a else None) ≡ None
  by_test true =
      ap (λ o. option_map (λ m. a.cost + m) (option_map (λ (r : OspfRec). r.cost) (option_and_then (ospf_of w) o))) none
  by_test false = refl
