-- Which entry of a list decides.
use Rattle.std.specs.Prelude.{ℕ, ◌==◌, nat_le, Bool, false, if◌then◌else◌, List, [], ◌∷◌, Option, Some, None}
use Rattle.std.specs.List.{find, list_any}
use Rattle.std.specs.Option.{option_map_or}

-- the first entry that takes the argument decides, and where none does the answer is no
abbrev pub first_permits : {E : Type 0} → (takes permit : E → Bool) → List E → Bool
first_permits takes permit entries = option_map_or permit (find takes entries) false

-- an entry put before the first one whose number is not below its own
abbrev pub put_by : {E : Type 0} → (E → ℕ) → E → List E → List E
put_by number e [] = e ∷ []
put_by number e (x ∷ xs) = if nat_le (number e) (number x) then e ∷ x ∷ xs else x ∷ put_by number e xs

-- the entries in the order of their numbers; of two with one number the earlier stays first
abbrev pub in_order : {E : Type 0} → (E → ℕ) → List E → List E
in_order number [] = []
in_order number (e ∷ es) = put_by number e (in_order number es)

-- of an entry and one that is found in the list behind it, the one that comes first
abbrev pub sooner : {E : Type 0} → (E → ℕ) → E → Option E → E
sooner number e None = e
sooner number e (Some d) = if nat_le (number e) (number d) then e else d

-- whether a number stands in a list
abbrev pub carries : List ℕ → ℕ → Bool
carries xs x = list_any (λ y. y == x) xs
