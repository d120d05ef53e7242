-- Survivors by flags are survivors by what is left.
use Rattle.std.proofs.Common.{◌≡◌, ◌||◌, Bool, true, false, not, if◌then◌else◌, List, [], ◌∷◌, Some, None, length}
use Rattle.std.proofs.Common.{map, filter, fold, refl, ap, ◌∙◌, arith}
use Rattle.std.specs.List.{list_any}
use Rattle.net_parts.specs.declared.steps.Step.{Step}
use Rattle.net_parts.specs.Decisions.{Key, after_cost, compared_by, removes, step_by, survivors_by, to_cost}
use Rattle.route_shapes.specs.Bgp.{BgpShape}
use Rattle.bgp_shapes.specs.Candidates.{ShapeCandidate, shape_key}
use Rattle.bgp_shapes.specs.Flags.{any_flagged, compared, is_held, left, left_of, pick, surviving}
use Rattle.bgp_shapes.specs.Held.{held_shape, is_empty, same_shape}

-- a test of what is flagged, over keys and over what has them
flagged_keys : {X Y : Type 0} (key : X → Y) (test : Y → Bool) (fs : List Bool) (xs : List X) →
    any_flagged test fs (map key xs) ≡ list_any (λ x. test (key x)) (pick fs xs)
flagged_keys key test [] xs = refl
flagged_keys key test (f ∷ fs) [] = refl
flagged_keys key test (true ∷ fs) (x ∷ xs) = ap (λ b. test (key x) || b) (flagged_keys key test fs xs)
flagged_keys key test (false ∷ fs) (x ∷ xs) = flagged_keys key test fs xs

pub flagged_picked : {X : Type 0} (test : X → Bool) (fs : List Bool) (xs : List X) →
    any_flagged test fs xs ≡ list_any test (pick fs xs)
flagged_picked test [] xs = refl
flagged_picked test (f ∷ fs) [] = refl
flagged_picked test (true ∷ fs) (x ∷ xs) = ap (λ b. test x || b) (flagged_picked test fs xs)
flagged_picked test (false ∷ fs) (x ∷ xs) = flagged_picked test fs xs

left_picked : {X : Type 0} (key : X → Key) (always : Bool) (s : Step) (flags : List Bool) (keys : List Key)
    (fs : List Bool) (xs : List X) → pick (left_of always s flags keys fs (map key xs)) xs
    ≡ filter (λ c. not (any_flagged (removes always s (key c)) flags keys)) (pick fs xs)
left_picked key always s flags keys [] xs = refl
left_picked key always s flags keys (f ∷ fs) [] = refl
left_picked key always s flags keys (true ∷ fs) (x ∷ xs) =
    ap (λ ys. if not (any_flagged (removes always s (key x)) flags keys) then x ∷ ys else ys)
    (left_picked key always s flags keys fs xs)
left_picked key always s flags keys (false ∷ fs) (x ∷ xs) = left_picked key always s flags keys fs xs

step_picked : {X : Type 0} (key : X → Key) (always : Bool) (flags : List Bool) (xs : List X) (s : Step) →
    pick (left always (map key xs) flags s) xs ≡ step_by key always (pick flags xs) s
step_picked key always flags xs s =
    left_picked key always s flags (map key xs) flags xs
    ∙ ap (λ p. filter p (pick flags xs)) (λ i c. not (flagged_keys key (removes always s (key c)) flags xs i))

steps_picked : {X : Type 0} (key : X → Key) (always : Bool) (flags : List Bool) (xs : List X) (steps : List Step) →
    pick (fold (left always (map key xs)) flags steps) xs ≡ fold (step_by key always) (pick flags xs) steps
steps_picked key always flags xs [] = refl
steps_picked key always flags xs (s ∷ steps) =
    steps_picked key always (left always (map key xs) flags s) xs steps
    ∙ ap (λ ys. fold (step_by key always) ys steps) (step_picked key always flags xs s)

compared_picked : {X : Type 0} (key : X → Key) (always compare_id : Bool) (flags : List Bool) (xs : List X) →
    pick (compared always compare_id (map key xs) flags) xs ≡ compared_by key always compare_id (pick flags xs)
compared_picked key always compare_id flags xs =
    by_test (compare_id || not (any_flagged (λ (k : Key). k.external) flags (map key xs)))
    ∙ ap (λ b. if compare_id || not b then fold (step_by key always) (pick flags xs) after_cost else pick flags xs)
    (flagged_keys key (λ (k : Key). k.external) flags xs)
  where
    by_test : (b : Bool) → pick (if b then fold (left always (map key xs)) flags after_cost else flags) xs
        ≡ (if b then fold (step_by key always) (pick flags xs) after_cost else pick flags xs)
    by_test true = steps_picked key always flags xs after_cost
    by_test false = refl

-- what is flagged after all steps is what they leave of what was flagged before
pub surviving_picked : {X : Type 0} (key : X → Key) (always compare_id : Bool) (flags : List Bool) (xs : List X) →
    pick (surviving always compare_id flags (map key xs)) xs ≡ survivors_by key always compare_id (pick flags xs)
unfolding surviving
surviving_picked key always compare_id flags xs =
    compared_picked key always compare_id (fold (left always (map key xs)) flags to_cost) xs
    ∙ ap (compared_by key always compare_id) (steps_picked key always flags xs to_cost)

none_picked : {X : Type 0} (fs : List Bool) (xs : List X) → length fs ≡ length xs →
    not (list_any (λ b. b) fs) ≡ is_empty (pick fs xs)
none_picked [] xs h = refl
none_picked (f ∷ fs) [] h = absurd (omega arith)
none_picked (true ∷ fs) (x ∷ xs) h = refl
none_picked (false ∷ fs) (x ∷ xs) h = none_picked fs xs (omega arith)

-- a route is held by the flags of candidates where it is held by those that are flagged
pub held_picked : (always compare_id : Bool) (flags : List Bool) (candidates : List ShapeCandidate) (there : Bool)
    (s : BgpShape) → length flags ≡ length candidates →
    is_held always compare_id flags candidates (map shape_key candidates) there s
    ≡ held_shape always compare_id (pick flags candidates) (if there then Some s else None)
unfolding held_shape
held_picked always compare_id flags candidates true s h =
    flagged_picked (λ (c : ShapeCandidate). same_shape c.rec s)
    (surviving always compare_id flags (map shape_key candidates)) candidates
    ∙ ap (list_any (λ (c : ShapeCandidate). same_shape c.rec s))
    (surviving_picked shape_key always compare_id flags candidates)
held_picked always compare_id flags candidates false s h = none_picked flags candidates h
