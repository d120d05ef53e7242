-- The rows meet the equations exactly where they are the interior distances.
use Rattle.std.proofs.Common.{◌≡◌, ℕ, ◌+◌, ◌<◌, ◌≤◌, Bool, true, false, List, [], ◌∷◌, ◌++◌, length}
use Rattle.std.proofs.Common.{Option, Some, None, refl, ap, sym, subst, ◌∙◌, arith, inl, inr, if◌then◌else◌}
use Rattle.std.specs.Prelude.{◌==◌, ◌&&◌, ◌⊎◌, All, nat_lt, option_map, slice_get}
use Rattle.std.specs.List.{cons_option, filter_map}
use Rattle.std.specs.Option.{option_map_or, option_to_list}
use Rattle.std.proofs.lemmas.Bool.{and_parts, eqb-true, lt-ltb, ltb-true}
use Rattle.std.proofs.lemmas.List.Elements.{All-weaker}
use Rattle.std.proofs.lemmas.Option.{slice_get_within}
use Rattle.mw_text.specs.declared.address.Prefix.{Prefix}
use Rattle.ios_ast.specs.declared.file.File.{File}
use Rattle.route_record.specs.declared.Failures.{Failures}
use Rattle.route_record.specs.declared.OspfKind.{OspfKind}
use Rattle.route_record.specs.declared.OspfKind.TheVariants.{Internal, Ext1, Ext2}
use Rattle.route_record.specs.declared.OspfRec.{OspfRec}
use Rattle.net_parts.specs.declared.adjacencies.Adjacency.{Adjacency}
use Rattle.net_parts.specs.Distances.{AreDistances, IsInteriorDistance, IsWalkSum, beyond, interior_distance, least}
use Rattle.net_parts.specs.Distances.{nearest, own_cost}
use Rattle.net_parts.specs.Ospf.{adjacencies, advertised, up_adjacencies}
use Rattle.net_parts.proofs.Equations.{solution_is}
use Rattle.net_parts.proofs.LeastWalks.{contains-in, filter_map-in, in-cases, in-contains, in-filter_map, in-left}
use Rattle.mw_text.specs.Members.{In}
use Rattle.net_parts.proofs.LeastWalks.{in-option, in-right, is_interior, least-is, least-some, option-in}
use Rattle.net_parts.proofs.LeastWalks.{up_below}
use Rattle.net_parts.proofs.Tracks.{itself}
use Rattle.term_store.specs.Terms.{Reading}
use Rattle.sym_policy.specs.declared.records.SymNet.{SymNet}
use Rattle.sym_policy.specs.Held.{failures_of, internal_route}
use Rattle.sym_ospf.specs.Rows.{HasDistances, costs_at, equation, igp_at, is_distance, is_internal, row_holds}
use Rattle.sym_ospf.specs.Rows.{rows_hold}
use Rattle.mw_text.proofs.Lists.{below_at}
use Rattle.sym_ospf.proofs.EquationTests.{all_from}

-- ---- a route that is a distance

internal_kind : (k : OspfKind) → is_internal k ≡ true → k ≡ Internal
internal_kind Internal h = refl
internal_kind Ext1 h = cc
internal_kind Ext2 h = cc

same_fields : (r : OspfRec) (n : ℕ) → r.kind ≡ Internal → r.metric ≡ 0 → r.cost ≡ n → r ≡ internal_route n
same_fields r n kind metric cost = λ i. record { kind = kind i; metric = metric i; cost = cost i }

-- the test holds only of the distance as an internal route
pub distance_from : (o : Option OspfRec) (d : Option ℕ) → is_distance o d ≡ true → o ≡ option_map internal_route d
distance_from None None h = refl
distance_from None (Some n) h = cc
distance_from (Some r) None h = cc
distance_from (Some r) (Some n) h =
    let outer = and_parts (is_internal r.kind) ((r.metric == 0) && (r.cost == n)) h in
    let inner = and_parts (r.metric == 0) (r.cost == n) outer.1 in
    ap Some (same_fields r n (internal_kind r.kind outer.0) (eqb-true r.metric 0 inner.0) (eqb-true r.cost n inner.1))

-- and it holds of that
pub distance_to : (o : Option OspfRec) (d : Option ℕ) → o ≡ option_map internal_route d → is_distance o d ≡ true
distance_to o d is = ap (λ x. is_distance x d) is ∙ holds d where
  holds : (d : Option ℕ) → is_distance (option_map internal_route d) d ≡ true
  holds None = refl
  holds (Some n) = itself n

-- the cost of an internal route is the distance
cost_back : (d : Option ℕ) → option_map (λ r. r.cost) (option_map internal_route d) ≡ d
cost_back None = refl
cost_back (Some n) = refl

-- ---- the interior distances meet the equations

-- one function of the members of a list is as good as another that agrees on them
filter_map_same : {X Y : Type 0} (f g : X → Option Y) (xs : List X) → ((x : X) → In x xs → f x ≡ g x)
    → filter_map f xs ≡ filter_map g xs
filter_map_same f g [] same = refl
filter_map_same f g (x ∷ xs) same =
    let first = same x (inl refl) in
    let rest = filter_map_same f g xs (λ y there. same y (inr there)) in
    λ i. cons_option (first i) (rest i)

module _ (files : List File) (failures : Failures) (p : Prefix) where
  -- only the distances of the routers of the files count
  nearest_same : (d e : ℕ → Option ℕ) (router : ℕ) → ((r : ℕ) → r < length files → d r ≡ e r)
      → nearest files failures p d router ≡ nearest files failures p e router
  nearest_same d e router same =
      ap (λ ns. least (option_to_list (own_cost files failures p router) ++ ns))
      (filter_map_same (beyond d) (beyond e) (up_adjacencies files failures router)
      (λ a there. ap (option_map (λ n. a.cost + n))
      (same a.to.router (up_below files failures router a there).1)))

  -- the interior distance of each router
  abbrev inner : ℕ → Option ℕ
  inner router = interior_distance files failures router p

  -- there is a distance at most as long as a walk
  inner_below : (router : ℕ) (walk : List Adjacency) (sum : ℕ) → IsWalkSum files failures p router walk sum
      → (m : ℕ) × (inner router ≡ Some m) × (m ≤ sum)
  inner_below router walk sum walks = by_distance (inner router) refl (is_interior files failures p router) where
    by_distance : (o : Option ℕ) → inner router ≡ o → IsInteriorDistance files failures p router o
        → (m : ℕ) × (inner router ≡ Some m) × (m ≤ sum)
    by_distance None is none = absurd (none walk sum walks)
    by_distance (Some m) is some = (m, is, some.2 walk sum walks)

  -- a distance is the sum of some walk
  inner_walk : (router m : ℕ) → inner router ≡ Some m
      → (walk : List Adjacency) × IsWalkSum files failures p router walk m
  inner_walk router m is = by_distance (inner router) is (is_interior files failures p router) where
    by_distance : (o : Option ℕ) → o ≡ Some m → IsInteriorDistance files failures p router o
        → (walk : List Adjacency) × IsWalkSum files failures p router walk m
    by_distance None is none = cc
    by_distance (Some n) is some =
        let same : n ≡ m = cc in
        let P : ℕ → Type 0 = λ k. (walk : List Adjacency) × IsWalkSum files failures p router walk k in
        subst P same (some.0, some.1)

  -- so is the least of what is offered by the distances
  offered_walk : (router m : ℕ) → nearest files failures p inner router ≡ Some m
      → (walk : List Adjacency) × IsWalkSum files failures p router walk m
  offered_walk router m is =
      by_part (in-cases m (option_to_list (own_cost files failures p router))
      (filter_map (beyond inner) (up_adjacencies files failures router)) (least-is _ m is))
    where
      by_far : (a : Adjacency) → In a (up_adjacencies files failures router) → (far : Option ℕ)
          → inner a.to.router ≡ far → option_map (λ n. a.cost + n) far ≡ Some m
          → (walk : List Adjacency) × IsWalkSum files failures p router walk m
      by_far a there None was gives = cc
      by_far a there (Some further) was gives =
          let sum : m ≡ a.cost + further = cc in
          let rest = inner_walk a.to.router further was in
          (a ∷ rest.0, (in-contains a _ there, further, rest.1, sum))

      by_part : In m (option_to_list (own_cost files failures p router))
          ⊎ In m (filter_map (beyond inner) (up_adjacencies files failures router))
          → (walk : List Adjacency) × IsWalkSum files failures p router walk m
      by_part (inl own) = ([], in-option _ m own)
      by_part (inr far) =
          let found = in-filter_map (beyond inner) (up_adjacencies files failures router) m far in
          by_far found.0 found.1 (inner found.0.to.router) refl found.2

  -- and at most as long as each walk
  offered_below : (router : ℕ) (walk : List Adjacency) (sum : ℕ) → IsWalkSum files failures p router walk sum
      → (m : ℕ) × (nearest files failures p inner router ≡ Some m) × (m ≤ sum)
  offered_below router [] sum walks =
      least-some _ sum
      (in-left sum (option_to_list (own_cost files failures p router)) _ (option-in _ sum walks))
  offered_below router (a ∷ rest) sum (there, further, walks, is) =
      let deeper = inner_below a.to.router rest further walks in
      let gives : beyond inner a ≡ Some (a.cost + deeper.0) = ap (option_map (λ n. a.cost + n)) deeper.1 in
      let found = least-some _ (a.cost + deeper.0)
      (in-right (a.cost + deeper.0) (option_to_list (own_cost files failures p router)) _
      (filter_map-in (beyond inner) (up_adjacencies files failures router) a (a.cost + deeper.0)
      (contains-in a _ there) gives)) in
      let first = found.2 in
      let second = deeper.2 in
      (found.0, found.1, omega (arith, first, second, is))

  -- the interior distances meet the equations
  pub inner_meets : (router : ℕ) → inner router ≡ nearest files failures p inner router
  inner_meets router =
      by_both (inner router) refl (nearest files failures p inner router) refl
    where
      none_some : (m : ℕ) → None ≡ Some m → ⊥
      none_some m same = cc

      by_both : (a : Option ℕ) → inner router ≡ a → (b : Option ℕ) → nearest files failures p inner router ≡ b → a ≡ b
      by_both None is None offered = refl
      by_both None is (Some m) offered =
          let walk = offered_walk router m offered in
          let found = inner_below router walk.0 m walk.1 in
          absurd (none_some found.0 (sym is ∙ found.1))
      by_both (Some m) is None offered =
          let walk = inner_walk router m is in
          let found = offered_below router walk.0 m walk.1 in
          absurd (none_some found.0 (sym offered ∙ found.1))
      by_both (Some m) is (Some n) offered =
          let one = inner_walk router m is in
          let two = offered_walk router n offered in
          let low = offered_below router one.0 m one.1 in
          let high = inner_below router two.0 n two.1 in
          let same_low : low.0 ≡ n = cc (offered, low.1) in
          let same_high : high.0 ≡ m = cc (is, high.1) in
          let first = low.2 in
          let second = high.2 in
          ap Some (omega (arith, same_low, same_high, first, second))

  -- ---- the rows

  module _ (d : ℕ → Option ℕ) (costs : All (λ a. 0 < a.cost) (adjacencies files))
      (equations : (router : ℕ) → router < length files → d router ≡ nearest files failures p d router) where
    -- the distances, which the equations give past the routers of the files
    abbrev whole : ℕ → Option ℕ
    whole router = if nat_lt router (length files) then d router else nearest files failures p d router

    whole_within : (router : ℕ) → router < length files → d router ≡ whole router
    whole_within router within = let below = lt-ltb router (length files) within in rw below refl

    whole_meets : AreDistances files failures p whole
    whole_meets router =
        by_test (nat_lt router (length files)) refl ∙ nearest_same d whole router whole_within
      where
        by_test : (b : Bool) → nat_lt router (length files) ≡ b
            → (if b then d router else nearest files failures p d router) ≡ nearest files failures p d router
        by_test true is = equations router (ltb-true router (length files) is)
        by_test false is = refl

    -- distances of the routers of the files that meet the equations are the interior distances
    pub within_are : (router : ℕ) → router < length files → d router ≡ inner router
    within_are router within =
        whole_within router within ∙ solution_is files failures p whole costs whole_meets router

-- what an equation says
equation_says : (w : Reading) (files : List File) (net : SymNet) (router k : ℕ) (p : Prefix)
    → slice_get (advertised files) k ≡ Some p
    → equation w files net router k
    ≡ is_distance (igp_at w files net router k)
    (nearest files (failures_of w net) p (costs_at w files net k) router)
unfolding equation
equation_says w files net router k p there =
    ap (λ o. option_map_or (λ q. is_distance (igp_at w files net router k)
    (nearest files (failures_of w net) q (costs_at w files net k) router)) o true) there

-- without a prefix at the place it says nothing
equation_free : (w : Reading) (files : List File) (net : SymNet) (router k : ℕ)
    → slice_get (advertised files) k ≡ None → equation w files net router k ≡ true
unfolding equation
equation_free w files net router k none =
    ap (λ o. option_map_or (λ q. is_distance (igp_at w files net router k)
    (nearest files (failures_of w net) q (costs_at w files net k) router)) o true) none

cheap : (files : List File) → All (λ a. (0 < a.cost) × (a.cost ≤ 65535)) (adjacencies files)
    → All (λ a. 0 < a.cost) (adjacencies files)
cheap files costs =
    All-weaker (λ a. (0 < a.cost) × (a.cost ≤ 65535)) (λ a. 0 < a.cost) (λ a is. is.0) (adjacencies files) costs

-- rows that meet the equations are the interior distances
pub rows_sound : (w : Reading) (files : List File) (net : SymNet)
    → All (λ a. (0 < a.cost) × (a.cost ≤ 65535)) (adjacencies files) → rows_hold w files net ≡ true
    → HasDistances w files net
rows_sound w files net costs hold = record { are = distances } where
  meets : (router k : ℕ) (p : Prefix) → router < length files → slice_get (advertised files) k ≡ Some p
      → igp_at w files net router k
      ≡ option_map internal_route (nearest files (failures_of w net) p (costs_at w files net k) router)
  meets router k p within there =
      let row = below_at (row_holds w files net) (length files) router hold within in
      let one = below_at (equation w files net router) (length (advertised files)) k row
      (slice_get_within (advertised files) k p there) in
      distance_from (igp_at w files net router k)
      (nearest files (failures_of w net) p (costs_at w files net k) router)
      (sym (equation_says w files net router k p there) ∙ one)

  cost_meets : (router k : ℕ) (p : Prefix) → router < length files → slice_get (advertised files) k ≡ Some p
      → costs_at w files net k router
      ≡ nearest files (failures_of w net) p (costs_at w files net k) router
  cost_meets router k p within there =
      ap (option_map (λ (r : OspfRec). r.cost)) (meets router k p within there)
      ∙ cost_back (nearest files (failures_of w net) p (costs_at w files net k) router)

  distances : (router k : ℕ) (p : Prefix) → router < length files → slice_get (advertised files) k ≡ Some p
      → igp_at w files net router k
      ≡ option_map internal_route (interior_distance files (failures_of w net) router p)
  distances router k p within there =
      let are = within_are files (failures_of w net) p (costs_at w files net k) (cheap files costs)
      (λ r below. cost_meets r k p below there) router within in
      meets router k p within there
      ∙ ap (option_map internal_route) (sym (cost_meets router k p within there) ∙ are)

-- and the interior distances meet the equations
pub rows_complete : (w : Reading) (files : List File) (net : SymNet) → HasDistances w files net
    → rows_hold w files net ≡ true
rows_complete w files net has =
    all_from (row_holds w files net) (length files) (λ router within.
    all_from (equation w files net router) (length (advertised files)) (λ k below.
    by_prefix router within k below (slice_get (advertised files) k) refl))
  where
    cost_is : (router k : ℕ) (p : Prefix) → router < length files → slice_get (advertised files) k ≡ Some p
        → costs_at w files net k router ≡ interior_distance files (failures_of w net) router p
    cost_is router k p within there =
        ap (option_map (λ (r : OspfRec). r.cost)) (has.are router k p within there)
        ∙ cost_back (interior_distance files (failures_of w net) router p)

    by_prefix : (router : ℕ) → router < length files → (k : ℕ) → k < length (advertised files)
        → (o : Option Prefix) → slice_get (advertised files) k ≡ o → equation w files net router k ≡ true
    by_prefix router within k below None there = equation_free w files net router k there
    by_prefix router within k below (Some p) there =
        equation_says w files net router k p there
        ∙ distance_to (igp_at w files net router k)
        (nearest files (failures_of w net) p (costs_at w files net k) router)
        (has.are router k p within there ∙ ap (option_map internal_route)
        (inner_meets files (failures_of w net) p router
        ∙ sym (nearest_same files (failures_of w net) p (costs_at w files net k)
        (λ r. interior_distance files (failures_of w net) r p) router
        (λ r inside. cost_is r k p inside there))))

pub ruleset rows_are = (rows_sound, rows_complete)
