-- What stands at places, read.
use Rattle.std.proofs.Common.{◌≡◌, ℕ, Bool, true, false, List, [], ◌∷◌, Option, Some, None, length, map, refl, sym, ap, ◌∙◌}
use Rattle.std.proofs.Common.{arith}
use Rattle.std.specs.Prelude.{option_and_then, option_map, if◌then◌else◌}
use Rattle.route_record.specs.declared.tracked.Tracked.{Tracked}
use Rattle.route_shapes.specs.Bgp.{BgpShape}
use Rattle.plan_places.specs.declared.places.Place.{Place}
use Rattle.plan_places.specs.Places.{is_at, item_at, places_below}
use Rattle.path_rebuild.specs.declared.ShapeRec.{ShapeRec}
use Rattle.path_rebuild.specs.Shapes.{route_of}
use Rattle.bgp_decoding.specs.Placed.{thing_in}
use Rattle.bgp_decoding.specs.Slots.{learnt_of}

pub item_map : {X Y : Type 0} (f : X → Y) (ps : List Place) (xs : List X) (router len : ℕ) →
    item_at ps (map f xs) router len ≡ option_map f (item_at ps xs router len)
unfolding item_at
item_map f [] xs router len = refl
item_map f (p ∷ ps) [] router len = refl
item_map {X} {Y} f (p ∷ ps) (x ∷ xs) router len = by (is_at router len p) (item_map f ps xs router len)
  where
    by : (b : Bool) → item_at ps (map f xs) router len ≡ option_map f (item_at ps xs router len) →
        (if b then Some (f x) else item_at ps (map f xs) router len)
        ≡ option_map f (if b then Some x else item_at ps xs router len)
    by true rest = refl
    by false rest = rest

-- a thing that is read stands where it stands
pub thing_map : {X Y : Type 0} (f : X → Y) (lens : List ℕ) (rows : ℕ) (things : List (Option X)) (p : Place) →
    option_map f (thing_in lens rows things p) ≡ thing_in lens rows (map (option_map f) things) p
thing_map {X} {Y} f lens rows things p =
    by (item_at (places_below lens rows) things p.router p.len)
    ∙ ap (option_and_then (λ (t : Option Y). t))
    (sym (item_map (option_map f) (places_below lens rows) things p.router p.len))
  where
    by : (o : Option (Option X)) → option_map f (option_and_then (λ (t : Option X). t) o)
        ≡ option_and_then (λ (t : Option Y). t) (option_map (option_map f) o)
    by None = refl
    by (Some None) = refl
    by (Some (Some x)) = refl

-- where nothing stands, nothing else does either
pub both_none : {X Y : Type 0} (ps : List Place) (xs : List X) (ys : List Y) (router len : ℕ) →
    length xs ≡ length ps → item_at ps xs router len ≡ None → item_at ps ys router len ≡ None
unfolding item_at
both_none [] xs ys router len long none = refl
both_none (p ∷ ps) xs [] router len long none = refl
both_none (p ∷ ps) [] (y ∷ ys) router len long none = absurd (omega (arith, long))
both_none {X} {Y} (p ∷ ps) (x ∷ xs) (y ∷ ys) router len long none =
    by (is_at router len p) none (both_none ps xs ys router len (omega (arith, long)))
  where
    by : (b : Bool) → (if b then Some x else item_at ps xs router len) ≡ None →
        (item_at ps xs router len ≡ None → item_at ps ys router len ≡ None) →
        (if b then Some y else item_at ps ys router len) ≡ None
    by true some rest = absurd cc
    by false none' rest = rest none'

-- where a route was learnt is told by its shape
pub learnt_same : (tracked : Tracked) (t : Option ShapeRec) →
    learnt_of t ≡ option_map (λ s. s.from) (option_map (route_of tracked) t)
learnt_same tracked None = refl
learnt_same tracked (Some s) = refl

-- ---- functions that are equal along a list

pub map_equal : {A B : Type 0} (f g : A → B) → ((x : A) → f x ≡ g x) → (xs : List A) → map f xs ≡ map g xs
map_equal f g each [] = refl
map_equal f g each (x ∷ xs) = let here = each x in let rest = map_equal f g each xs in λ i. here i ∷ rest i

-- things that are read, at all places
pub things_read : (tracked : Tracked) (lens : List ℕ) (rows : ℕ) (told : List (Option ShapeRec))
    (things : List (Option BgpShape)) → map (option_map (route_of tracked)) told ≡ things → (ps : List Place) →
    map (λ p. option_map (route_of tracked) (thing_in lens rows told p)) ps ≡ map (λ p. thing_in lens rows things p) ps
things_read tracked lens rows told things is ps =
    map_equal _ _ (λ p. thing_map (route_of tracked) lens rows told p ∙ ap (λ ts. thing_in lens rows ts p) is) ps
