-- The equations of interior distances have one solution, since each adjacency costs something.
use Rattle.std.proofs.Common.{◌≡◌, ℕ, zero, suc, ◌+◌, ◌<◌, ◌≤◌, List, [], ◌∷◌, Option, Some, None, refl, sym, ap, subst}
use Rattle.std.proofs.Common.{arith, ◌∙◌, inl, inr}
use Rattle.std.specs.Prelude.{◌⊎◌, All, option_map}
use Rattle.std.specs.List.{filter_map}
use Rattle.std.specs.Option.{option_to_list}
use Rattle.mw_text.specs.declared.address.Prefix.{Prefix}
use Rattle.ios_ast.specs.declared.file.File.{File}
use Rattle.route_record.specs.declared.Failures.{Failures}
use Rattle.net_parts.specs.declared.adjacencies.Adjacency.{Adjacency}
use Rattle.net_parts.specs.Distances.{AreDistances, IsInteriorDistance, IsWalkSum, beyond, interior_distance, own_cost}
use Rattle.net_parts.specs.Ospf.{adjacencies, up_adjacencies}
use Rattle.net_parts.proofs.LeastWalks.{contains-in, filter_map-in, in-cases, in-contains, in-filter, in-filter_map}
use Rattle.mw_text.specs.Members.{In}
use Rattle.net_parts.proofs.LeastWalks.{in-left, in-option, in-right, is_interior, least-is, least-some, option-in}

module _ (files : List File) (failures : Failures) (p : Prefix) (d : ℕ → Option ℕ)
    (costs : All (λ a. 0 < a.cost) (adjacencies files)) (equations : AreDistances files failures p d) where
  cost_of : (router : ℕ) (a : Adjacency) → In a (up_adjacencies files failures router) → 0 < a.cost
  unfolding up_adjacencies
  cost_of router a here =
      let all = in-filter _ (adjacencies files) a here in
      let there = in-contains a (adjacencies files) all.0 in
      let P : Adjacency → Type 0 = λ x. 0 < x.cost in
      subst P there.2 (costs there.0 a there.1)

  -- a distance is the sum of some walk
  walk_for : (bound router m : ℕ) → m < bound → d router ≡ Some m →
      (walk : List Adjacency) × IsWalkSum files failures p router walk m
  walk_for zero router m below is = absurd (omega (arith, below))
  walk_for (suc bound) router m below is =
      by_part (in-cases m (option_to_list (own_cost files failures p router))
      (filter_map (beyond d) (up_adjacencies files failures router)) (least-is _ m (sym (equations router) ∙ is)))
      (λ next further small far. walk_for bound next further small far)
    where
      by_far : (a : Adjacency) → In a (up_adjacencies files failures router) → (far : Option ℕ) → d a.to.router ≡ far →
          option_map (λ n. a.cost + n) far ≡ Some m →
          ((next further : ℕ) → further < bound → d next ≡ Some further →
          (walk : List Adjacency) × IsWalkSum files failures p next walk further) →
          (walk : List Adjacency) × IsWalkSum files failures p router walk m
      by_far a there None was gives deeper = cc
      by_far a there (Some further) was gives deeper =
          let sum : m ≡ a.cost + further = cc in
          let some = cost_of router a there in
          let rest = deeper a.to.router further (omega (arith, sum, some, below)) was in
          (a ∷ rest.0, (in-contains a _ there, further, rest.1, sum))

      by_part : In m (option_to_list (own_cost files failures p router))
          ⊎ In m (filter_map (beyond d) (up_adjacencies files failures router)) →
          ((next further : ℕ) → further < bound → d next ≡ Some further →
          (walk : List Adjacency) × IsWalkSum files failures p next walk further) →
          (walk : List Adjacency) × IsWalkSum files failures p router walk m
      by_part (inl own) deeper = ([], in-option _ m own)
      by_part (inr far) deeper =
          let found = in-filter_map (beyond d) (up_adjacencies files failures router) m far in
          by_far found.0 found.1 (d found.0.to.router) refl found.2 deeper

  -- it is at most the sum of each walk
  below_sum : (router : ℕ) (walk : List Adjacency) (sum : ℕ) → IsWalkSum files failures p router walk sum →
      (m : ℕ) × (d router ≡ Some m) × (m ≤ sum)
  below_sum router [] sum walks =
      let found = least-some _ sum (in-left sum (option_to_list (own_cost files failures p router)) _
      (option-in _ sum walks)) in
      (found.0, equations router ∙ found.1, found.2)
  below_sum router (a ∷ rest) sum (there, further, walks, is) =
      let deeper = below_sum a.to.router rest further walks in
      let gives : beyond d a ≡ Some (a.cost + deeper.0) = ap (option_map (λ n. a.cost + n)) deeper.1 in
      let found = least-some _ (a.cost + deeper.0)
      (in-right (a.cost + deeper.0) (option_to_list (own_cost files failures p router)) _
      (filter_map-in (beyond d) (up_adjacencies files failures router) a (a.cost + deeper.0)
      (contains-in a _ there) gives)) in
      let first = found.2 in
      let second = deeper.2 in
      (found.0, equations router ∙ found.1, omega (arith, first, second, is))

  -- so it is the least sum
  solution_least : (router : ℕ) → IsInteriorDistance files failures p router (d router)
  solution_least router = by_distance (d router) refl where
    by_distance : (o : Option ℕ) → d router ≡ o → IsInteriorDistance files failures p router o
    by_distance None is = λ walk sum walks. let found = below_sum router walk sum walks in
        none_some found.0 (sym is ∙ found.1)
      where
        none_some : (m : ℕ) → None ≡ Some m → ⊥
        none_some m same = cc
    by_distance (Some m) is =
        let found = walk_for (suc m) router m (omega arith) is in
        (found.0, found.1, λ other sum walks. at_most (below_sum router other sum walks))
      where
        at_most : {sum : ℕ} → (k : ℕ) × (d router ≡ Some k) × (k ≤ sum) → m ≤ sum
        at_most (k, has, below) = let same : m ≡ k = cc (is, has) in omega (arith, below, same)

-- there is one least sum
one_least : (files : List File) (failures : Failures) (p : Prefix) (router : ℕ) (a b : Option ℕ) →
    IsInteriorDistance files failures p router a → IsInteriorDistance files failures p router b → a ≡ b
one_least files failures p router None None first second = refl
one_least files failures p router None (Some m) first second = absurd (first second.0 m second.1)
one_least files failures p router (Some m) None first second = absurd (second first.0 m first.1)
one_least files failures p router (Some m) (Some n) first second =
    let above = first.2 second.0 n second.1 in
    let below = second.2 first.0 m first.1 in
    ap Some (omega (arith, above, below))

-- distances that meet the equations are the interior distances
pub solution_is : (files : List File) (failures : Failures) (p : Prefix) (d : ℕ → Option ℕ) →
    All (λ a. 0 < a.cost) (adjacencies files) → AreDistances files failures p d → (router : ℕ) →
    d router ≡ interior_distance files failures router p
solution_is files failures p d costs equations router =
    one_least files failures p router (d router) (interior_distance files failures router p)
    (solution_least files failures p d costs equations router) (is_interior files failures p router)
