-- Paths that external peers may announce, by their shapes (RFC 4271, section 5.1.2; RFC 6793), and a path of each such
-- shape.
use Rattle.std.specs.Prelude.{◌≡◌, ℕ, ◌+◌, ◌-◌, ◌^◌, ◌==◌, ◌&&◌, ◌||◌, nat_lt, nat_le, Bool, true, not}
use Rattle.std.specs.Prelude.{List, [], ◌∷◌, ◌++◌, length, filter, replicate, if◌then◌else◌}
use Rattle.std.specs.List.{list_all}
use Rattle.net_parts.specs.Exports.{most_numbers}
use Rattle.net_parts.specs.World.{is_as_number}
use Rattle.route_shapes.specs.Shapes.{PathShape}

-- the tracked values that are marked
abbrev pub taken : List ℕ → List Bool → List ℕ
taken [] marks = []
taken (t ∷ ts) [] = []
taken (t ∷ ts) (b ∷ bs) = if b then t ∷ taken ts bs else taken ts bs

-- a number is the first or the last of the path
abbrev pub is_end : PathShape → ℕ → Bool
is_end s t = (s.first == t) || (s.last == t)

-- the marked numbers that stand between the ends alone
abbrev pub between : List ℕ → PathShape → List ℕ
between tracked s = filter (λ t. not (is_end s t)) (taken tracked s.numbers)

-- the numbers after the first one: the marked ones, then the first as often as the length needs, then the last
abbrev pub after_first : PathShape → List ℕ → List ℕ
after_first s middle = middle ++ (replicate (s.len - 2 - length middle) s.first ++ (s.last ∷ []))

-- the path of a shape
unfoldable pub rebuilt_path : List ℕ → PathShape → List ℕ
rebuilt_path tracked s =
    if s.len == 1 then s.first ∷ [] else s.first ∷ after_first s (between tracked s)

-- the values for which a test is true are marked, as far as there are marks
abbrev pub are_marked : (ℕ → Bool) → List ℕ → List Bool → Bool
are_marked is [] bs = true
are_marked is (t ∷ ts) [] = true
are_marked is (t ∷ ts) (b ∷ bs) = (not (is t) || b) && are_marked is ts bs

-- how many numbers the two ends of a path are
abbrev pub ends_count : PathShape → ℕ
ends_count s = if s.len == 1 then 1 else 2

-- the shape of a path that the peer of that AS may announce: of 1 to 255 AS numbers, of which the first is the peer's.
-- A path of one number has one first and last number, both ends are marked where they are tracked, and the path has
-- room for the other marked ones
pub record IsPathShape (asn : ℕ) (tracked : List ℕ) (s : PathShape) : Type 0 where
  pub marks : length s.numbers ≡ length tracked
  pub some : nat_lt 0 s.len ≡ true
  pub short : nat_le s.len most_numbers ≡ true
  pub first : (s.first == asn) ≡ true
  pub known : is_as_number s.first ≡ true
  pub last : is_as_number s.last ≡ true
  pub single : (not (s.len == 1) || (s.first == s.last)) ≡ true
  pub ends : are_marked (is_end s) tracked s.numbers ≡ true
  pub others : list_all is_as_number (taken tracked s.numbers) ≡ true
  pub room : nat_le (length (between tracked s) + ends_count s) s.len ≡ true

-- the same as a test
abbrev pub has_path_length : PathShape → Bool
has_path_length s = nat_lt 0 s.len && nat_le s.len most_numbers

abbrev pub has_path_ends : ℕ → PathShape → Bool
has_path_ends asn s =
    ((s.first == asn) && is_as_number s.first)
    && (is_as_number s.last && (not (s.len == 1) || (s.first == s.last)))

abbrev pub has_path_marks : List ℕ → PathShape → Bool
has_path_marks tracked s =
    ((length s.numbers == length tracked) && are_marked (is_end s) tracked s.numbers)
    && (list_all is_as_number (taken tracked s.numbers)
    && nat_le (length (between tracked s) + ends_count s) s.len)

unfoldable pub is_path_shape : ℕ → List ℕ → PathShape → Bool
is_path_shape asn tracked s = has_path_length s && (has_path_ends asn s && has_path_marks tracked s)
