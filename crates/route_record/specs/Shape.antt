-- The shape of a BGP route: what is kept of its lists where policies name a few values alone.
use Rattle.std.specs.Prelude.{◌≡◌, ℕ, ◌+◌, ◌-◌, ◌*◌, ◌==◌, min, Bool, true, if◌then◌else◌, List, [], ◌∷◌, length, map}
use Rattle.std.specs.Prelude.{slice_index}
use Rattle.std.specs.List.{list_any}
use Rattle.mw_text.specs.declared.address.Addr.{Addr}
use Rattle.route_record.specs.declared.BgpRec.{BgpRec}
use Rattle.route_record.specs.declared.tracked.Tracked.{Tracked}
use Rattle.route_record.specs.declared.tracked.Shape.{Shape}

-- whether a number stands in a list
abbrev pub has : List ℕ → ℕ → Bool
has xs x = list_any (λ y. y == x) xs

abbrev pub has_address : List Addr → Addr → Bool
has_address xs x = list_any (λ y. y.0 == x.0) xs

-- the first number of a path and the last one, 0 where the path is empty
abbrev pub first_of : List ℕ → ℕ
first_of path = slice_index path 0

abbrev pub last_of : List ℕ → ℕ
last_of path = slice_index path (length path - 1)

-- a length in 32 bits: one that does not fit is the greatest number that does
unfoldable pub saturated : ℕ → ℕ
saturated n = min n 4294967295

-- the set of the positions that are marked: bit i is 1 where position i is
abbrev pub marked_number : List Bool → ℕ
marked_number [] = 0
marked_number (b ∷ bs) = (if b then 1 else 0) + 2 * marked_number bs

-- the shape of a record: the lengths of its lists, the ends of its path, and which tracked values stand in them
abbrev pub shape_of : Tracked → BgpRec → Shape
shape_of tracked rec = record {
  len = saturated (length rec.path);
  first = first_of rec.path;
  last = last_of rec.path;
  numbers = marked_number (map (has rec.path) tracked.numbers);
  communities = marked_number (map (has rec.communities) tracked.communities);
  cluster_len = saturated (length rec.clusters);
  clusters = marked_number (map (has_address rec.clusters) tracked.clusters);
}

-- the two records have the same lists, but for communities that are not tracked
pub record AlikeOf (tracked : Tracked) (a b : BgpRec) : Type 0 where
  pub path : a.path ≡ b.path
  pub clusters : a.clusters ≡ b.clusters
  pub communities : (c : ℕ) → has tracked.communities c ≡ true → has a.communities c ≡ has b.communities c
