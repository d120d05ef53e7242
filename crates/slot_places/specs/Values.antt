-- How a formula tells a number of which it is known that it is one of some values.
use Rattle.std.specs.Prelude.{ℕ, zero, suc, ◌+◌, ◌-◌, ◌^◌, ◌<◌, ◌≤◌, ◌==◌, List, [], ◌∷◌, ◌++◌, Contains, fold, length}
use Rattle.std.specs.Prelude.{map, max, nat_le, nat_lt, slice_index, if◌then◌else◌}
use Rattle.ios_ast.specs.Deciding.{carries}
use Rattle.slot_places.specs.declared.fields.Field.{Field}
use Rattle.slot_places.specs.declared.fields.Field.TheVariants.{Bits, Among, Addresses}
use Rattle.slot_places.specs.declared.fields.TheConstants.{MOST_ADDRESSES, MOST_VALUES}

-- ---- widths

-- the least width, from one on, in which the number has room, where so many more may be tried
unfoldable pub width_from : ℕ → ℕ → ℕ → ℕ
width_from n width zero = width
width_from n width (suc more) = if nat_lt n (2 ^ width) then width else width_from n (suc width) more

-- the least width in which the number has room, 32 at most
abbrev pub width_for : ℕ → ℕ
width_for n = width_from n 0 32

-- ---- values

-- a value behind others, unless it is one of them
abbrev pub put_once : List ℕ → ℕ → List ℕ
put_once values n = if carries values n then values else values ++ n ∷ []

-- each of these once, as they come first
abbrev pub once : List ℕ → List ℕ
once numbers = fold put_once [] numbers

abbrev pub greatest : List ℕ → ℕ
greatest numbers = fold max 0 numbers

-- ---- fields

-- one of few values is told by its place among them, one of many by its bits
unfoldable pub field_of : List ℕ → Field
field_of values = if nat_le (length values) MOST_VALUES then Among values else Bits (width_for (greatest values))

-- the numbers of no address and of some: 0 stands for none, and an address stands above 2^32, so that 0.0.0.0 is not none
abbrev pub address_numbers : List ℕ → List ℕ
address_numbers addresses = 0 ∷ map (λ a. 2 ^ 32 + a) addresses

-- none or one of few addresses is told by the place of its number, one of many by all bits of it
unfoldable pub addresses_field : List ℕ → Field
addresses_field addresses = if nat_le (length addresses) MOST_ADDRESSES then Addresses addresses else Bits 33

-- by how many variables
abbrev pub field_width : Field → ℕ
field_width (Bits width) = width
field_width (Among values) = width_for (length values - 1)
field_width (Addresses addresses) = width_for (length addresses)

-- in so many bits each number has room for which the field has, 33 at most where it has places
abbrev pub field_bits : Field → ℕ
field_bits (Bits width) = width
field_bits (Among values) = width_for (greatest values)
field_bits (Addresses addresses) = 33

-- the field has room for the number: in its bits, as one of few values, or as that of none or of one of few addresses
abbrev pub FitsField : Field → ℕ → Type 0
FitsField (Bits width) n = n < 2 ^ width
FitsField (Among values) n = Contains values n × (length values ≤ MOST_VALUES)
FitsField (Addresses addresses) n = Contains (address_numbers addresses) n × (length addresses ≤ MOST_ADDRESSES)

-- the first place of a number among values
abbrev pub place_of : List ℕ → ℕ → ℕ
place_of [] n = 0
place_of (x ∷ xs) n = if x == n then 0 else suc (place_of xs n)

-- the number by which a field tells another: itself, or its place
abbrev pub told_as : Field → ℕ → ℕ
told_as (Bits width) n = n
told_as (Among values) n = place_of values n
told_as (Addresses addresses) n = place_of (address_numbers addresses) n

-- and what such a number tells: itself, or the value or the address's number at that place, 0 past the last
abbrev pub read_as : Field → ℕ → ℕ
read_as (Bits width) told = told
read_as (Among values) told = slice_index values told
read_as (Addresses addresses) told = slice_index (address_numbers addresses) told
