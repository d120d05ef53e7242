-- The failed links by the variables of a formula: one for each link, and none where no link may fail.
use Rattle.std.specs.Prelude.{ℕ, zero, suc, ◌==◌, Bool, true, false, List, [], ◌∷◌, ◌++◌, if◌then◌else◌}
use Rattle.route_record.specs.declared.Failures.{Failures}
use Rattle.sym_policy.specs.Held.{positions}
use Rattle.failed_links.specs.Rows.{row}

-- so many values that are false
abbrev pub none_of : ℕ → List Bool
none_of zero = []
none_of (suc count) = false ∷ none_of count

-- which of so many links are down
unfoldable pub downs_from : ℕ → ℕ → (ℕ → Bool) → ℕ → List Bool
downs_from most links v from = if most == 0 then none_of links else row v from links

unfoldable pub downs_width : ℕ → ℕ → ℕ
downs_width most links = if most == 0 then 0 else links

-- the failed links
unfoldable pub failures_from : ℕ → ℕ → (ℕ → Bool) → ℕ → Failures
failures_from most links v from = record { links = positions 0 (downs_from most links v from) }

-- for so many links from a first one on, whether they stand in the ascending list
abbrev pub marks : ℕ → ℕ → List ℕ → List Bool
marks first zero failed = []
marks first (suc count) [] = false ∷ marks (suc first) count []
marks first (suc count) (f ∷ failed) =
    if f == first then true ∷ marks (suc first) count failed else false ∷ marks (suc first) count (f ∷ failed)

-- the values of their variables, before others
unfoldable pub downs_bits : ℕ → ℕ → Failures → List Bool → List Bool
downs_bits most links failures rest = if most == 0 then rest else marks 0 links failures.links ++ rest
