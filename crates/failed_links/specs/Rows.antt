-- Values of variables in a row, and numbers among them: the lowest bit comes first.
use Rattle.std.specs.Prelude.{◌≡◌, ℕ, zero, suc, ◌+◌, ◌/◌, ◌%◌, ◌==◌, Bool, List, [], ◌∷◌, length}
use Rattle.term_arith.specs.Bits.{number_of}

-- the values of so many variables from one on
abbrev pub row : (ℕ → Bool) → ℕ → ℕ → List Bool
row v from zero = []
row v from (suc count) = v from ∷ row v (from + 1) count

-- the number of which these are the bits
unfoldable pub number_from : (ℕ → Bool) → ℕ → ℕ → ℕ
number_from v from width = number_of (row v from width)

-- so many bits of a number
abbrev pub digits : ℕ → ℕ → List Bool
digits zero n = []
digits (suc width) n = (n % 2 == 1) ∷ digits width (n / 2)

-- the variables from one on have the values of that row
abbrev pub IsAt : (ℕ → Bool) → ℕ → List Bool → Type 0
IsAt v from values = row v from (length values) ≡ values
