-- Things by place: at each of some numbered ends and at each of some prefix lengths one may be there. They come by end, and
-- then by length.
use Rattle.std.specs.Prelude.{◌≡◌, ◌<◌, ℕ, AllPairs, List, [], ◌∷◌, ◌++◌, map, Option, Some, None}
use Rattle.std.specs.Prelude.{option_and_then}
use Rattle.plan_places.specs.declared.places.Place.{Place}
use Rattle.plan_places.specs.Places.{item_at, place}

-- each number is below all later ones
abbrev pub Ascend : List ℕ → Type 0
Ascend ns = AllPairs (λ m n. m < n) ns

-- the places of these ends at these lengths
unfoldable pub places_among : List ℕ → List ℕ → List Place
places_among [] lens = []
places_among (end ∷ ends) lens = map (place end) lens ++ places_among ends lens

-- what is made of the things that are there, one of which may be there at each place
unfoldable pub made_over : {U A : Type 0} → (ℕ → ℕ → U → A) → List Place → List (Option U) → List A
made_over build [] things = []
made_over build (p ∷ ps) [] = []
made_over build (p ∷ ps) (None ∷ things) = made_over build ps things
made_over build (p ∷ ps) (Some u ∷ things) = build p.router p.len u ∷ made_over build ps things

-- the same at the places of these ends at these lengths
abbrev pub announced_at : {U A : Type 0} → (ℕ → ℕ → U → A) → List ℕ → List ℕ → List (Option U) → List A
announced_at build ends lens things = made_over build (places_among ends lens) things

-- the thing at the place of an end and a length, if there is one
abbrev pub thing_over : {U : Type 0} → List Place → List (Option U) → ℕ → ℕ → Option U
thing_over places things end len = option_and_then (λ there. there) (item_at places things end len)

abbrev pub thing_at : {U : Type 0} → List ℕ → List ℕ → List (Option U) → ℕ → ℕ → Option U
thing_at ends lens things end len = thing_over (places_among ends lens) things end len

-- what is made stands at the place of which it is made
pub record Keeps {U A : Type 0} (build : ℕ → ℕ → U → A) (at : A → Place) : Type 0 where
  pub place : (end len : ℕ) (u : U) → at (build end len u) ≡ place end len
