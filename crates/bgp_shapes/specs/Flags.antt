-- The decision process over the keys of all candidates, with a flag beside each that says whether it is left.
use Rattle.std.specs.Prelude.{◌&&◌, ◌||◌, Bool, false, not, List, [], ◌∷◌, fold, if◌then◌else◌}
use Rattle.std.specs.List.{list_any}
use Rattle.net_parts.specs.declared.steps.Step.{Step}
use Rattle.net_parts.specs.Decisions.{Key, after_cost, removes, to_cost}
use Rattle.route_shapes.specs.Bgp.{BgpShape}
use Rattle.bgp_shapes.specs.Candidates.{ShapeCandidate}
use Rattle.bgp_shapes.specs.Held.{same_shape}

-- the items that are flagged
abbrev pub pick : {X : Type 0} → List Bool → List X → List X
pick [] xs = []
pick (f ∷ fs) [] = []
pick (f ∷ fs) (x ∷ xs) = if f then x ∷ pick fs xs else pick fs xs

-- some flagged item passes the test
abbrev pub any_flagged : {X : Type 0} → (X → Bool) → List Bool → List X → Bool
any_flagged test [] xs = false
any_flagged test (f ∷ fs) [] = false
any_flagged test (f ∷ fs) (x ∷ xs) = (f && test x) || any_flagged test fs xs

-- the flags of some keys after a step among all
abbrev pub left_of : Bool → Step → List Bool → List Key → List Bool → List Key → List Bool
left_of always s flags keys [] cs = []
left_of always s flags keys (f ∷ fs) [] = []
left_of always s flags keys (f ∷ fs) (c ∷ cs) =
    (f && not (any_flagged (removes always s c) flags keys)) ∷ left_of always s flags keys fs cs

abbrev pub left : Bool → List Key → List Bool → Step → List Bool
left always keys flags s = left_of always s flags keys flags keys

-- the steps after the cost, where identifiers are compared or no external route is left
abbrev pub compared : Bool → Bool → List Key → List Bool → List Bool
compared always compare_id keys flags =
    if compare_id || not (any_flagged (λ (k : Key). k.external) flags keys)
    then fold (left always keys) flags after_cost else flags

-- the flags that all steps leave
unfoldable pub surviving : Bool → Bool → List Bool → List Key → List Bool
surviving always compare_id flags keys = compared always compare_id keys (fold (left always keys) flags to_cost)

-- a route is held by the flags of candidates: some flagged candidate that survives has its shape; and none where none
-- is flagged
abbrev pub is_held : Bool → Bool → List Bool → List ShapeCandidate → List Key → Bool → BgpShape → Bool
is_held always compare_id flags candidates keys there s =
    if there
    then any_flagged (λ (c : ShapeCandidate). same_shape c.rec s) (surviving always compare_id flags keys) candidates
    else not (list_any (λ b. b) flags)
