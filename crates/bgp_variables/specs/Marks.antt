-- Rows of marks by variables: a mark that can never be set has none.
use Rattle.std.specs.Prelude.{◌≡◌, ℕ, ◌+◌, ◌&&◌, Bool, List, [], ◌∷◌, if◌then◌else◌}

-- how many variables one mark has
abbrev pub mark_width : Bool → ℕ
mark_width may = if may then 1 else 0

unfoldable pub marks_width : List Bool → ℕ
marks_width [] = 0
marks_width (may ∷ mays) = mark_width may + marks_width mays

-- the marks that the values of variables say
unfoldable pub marks_from : List Bool → (ℕ → Bool) → ℕ → List Bool
marks_from [] v from = []
marks_from (may ∷ mays) v from = (may && v from) ∷ marks_from mays v (from + mark_width may)

-- the values of these variables, before others
unfoldable pub marks_bits : List Bool → List Bool → List Bool → List Bool
marks_bits [] marks rest = rest
marks_bits (may ∷ mays) [] rest = rest
marks_bits (may ∷ mays) (b ∷ marks) rest =
    if may then b ∷ marks_bits mays marks rest else marks_bits mays marks rest

-- there are as many marks, and each that is set can be
abbrev pub FitMarks : List Bool → List Bool → Type 0
FitMarks [] [] = Unit {0}
FitMarks [] (b ∷ marks) = ⊥
FitMarks (may ∷ mays) [] = ⊥
FitMarks (may ∷ mays) (b ∷ marks) = (b ≡ Bool.true → may ≡ Bool.true) × FitMarks mays marks
