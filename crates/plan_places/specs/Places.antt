-- The places of a plan: each router has one at each length at which a slice stands.
use Rattle.std.specs.Prelude.{ℕ, zero, suc, ◌==◌, ◌&&◌, ◌⊎◌, ◌≡◌, ◌<◌, Bool, List, [], ◌∷◌, ◌++◌, map, Option, Some}
use Rattle.std.specs.Prelude.{None, if◌then◌else◌}
use Rattle.std.specs.List.{list_any}
use Rattle.route_record.specs.declared.Plan.{Plan}
use Rattle.plan_places.specs.declared.places.Place.{Place}
use Rattle.plan_places.specs.Plans.{lens_of}

abbrev pub place : ℕ → ℕ → Place
place router len = record { router = router; len = len }

-- those of the routers below one at these lengths
unfoldable pub places_below : List ℕ → ℕ → List Place
places_below lens zero = []
places_below lens (suc router) = places_below lens router ++ map (place router) lens

-- those of so many routers, by router and then by length
abbrev pub places_of : Plan → ℕ → List Place
places_of plan routers = places_below (lens_of plan) routers

-- the place is that router's at that length
abbrev pub is_at : ℕ → ℕ → Place → Bool
is_at router len p = (p.router == router) && (p.len == len)

-- one of the places is
abbrev pub has_place : List Place → ℕ → ℕ → Bool
has_place places router len = list_any (is_at router len) places

-- of an earlier router, or of the same one at a shorter length
abbrev pub IsBefore : Place → Place → Type 0
IsBefore p q = (p.router < q.router) ⊎ ((p.router ≡ q.router) × (p.len < q.len))

-- of things that stand at places, one at each, the one at the place of that router and length
unfoldable pub item_at : {X : Type 0} → List Place → List X → ℕ → ℕ → Option X
item_at [] xs router len = None
item_at (p ∷ ps) [] router len = None
item_at (p ∷ ps) (x ∷ xs) router len = if is_at router len p then Some x else item_at ps xs router len
