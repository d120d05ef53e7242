-- Places of fates in ordered lists.
use Rattle.std.specs.Prelude.{◌≡◌, ◌<◌, ℕ, Bool, List, Contains, Some, slice_get}
use Rattle.std.specs.Ordering.{is_eq}
use Rattle.packet_fates.specs.declared.fate.Fate.{Fate}
use Rattle.packet_fates.specs.Order.{Precedes, fate_order}
use Rattle.packet_fates.specs.declared.apart.Place.{Place}
use Rattle.packet_fates.specs.declared.apart.Side.{Side}
use Rattle.packet_fates.specs.declared.apart.Side.TheVariants.{Left, Right}
use Rattle.packet_fates.specs.Sides.{IsFirstApart}

-- neither of two fates comes first
abbrev pub is_same : Fate → Fate → Bool
is_same a b = is_eq (fate_order a b)

-- the others do not have the fate at the place, and have all before it
pub record IsFirstAlone (own others : List Fate) (at : ℕ) : Type 0 where
  pub fate : Fate
  pub found : slice_get own at ≡ Some fate
  pub alone : Contains others fate → ⊥
  pub before : (k : ℕ) (other : Fate) → k < at → slice_get own k ≡ Some other → Contains others other

abbrev pub list_on : Side → List Fate → List Fate → List Fate
list_on Left left right = left
list_on Right left right = right

-- the place is the one of the two whose fate comes first, where the fates are two
abbrev pub IsEarlier : List Fate → List Fate → ℕ → ℕ → Place → Type 0
IsEarlier left right one other place = by_side place.side where
  by_side : Side → Type 0
  by_side Left = (place.at ≡ one) × ((a b : Fate) → slice_get left one ≡ Some a → slice_get right other ≡ Some b →
      Precedes a b)
  by_side Right = (place.at ≡ other) × ((a b : Fate) → slice_get left one ≡ Some a → slice_get right other ≡ Some b →
      Precedes a b → ⊥)

-- at the place stands the first fate that one of the lists alone has
pub record IsPlaceApart (left right : List Fate) (place : Place) : Type 0 where
  pub fate : Fate
  pub found : slice_get (list_on place.side left right) place.at ≡ Some fate
  pub first : IsFirstApart (Contains left) (Contains right) place.side fate
