-- The steps of the decision process as comparisons of one number (RFC 4271, section 9.1.2.2): what a step removes is
-- what the best of those that are left wins against.
use Rattle.std.specs.Prelude.{ℕ, ◌&&◌, Bool, true, false, not, nat_lt, List, [], ◌∷◌, Option, Some, None, if◌then◌else◌}
use Rattle.std.specs.Option.{option_map_or}
use Rattle.net_parts.specs.declared.steps.Step.{Step}
use Rattle.net_parts.specs.declared.steps.Step.TheVariants.{Weight, Preference, Origination, PathLength, Origin, Med}
use Rattle.net_parts.specs.declared.steps.Step.TheVariants.{Session, Cost, Identifier, Clusters, Address}
use Rattle.net_parts.specs.Decisions.{Key}

-- a mark as a number
abbrev pub mark_number : Bool → ℕ
mark_number mark = if mark then 1 else 0

-- the number that a step compares
abbrev pub compared_number : Step → Key → ℕ
compared_number Weight k = k.weight
compared_number Preference k = k.local_pref
compared_number Origination k = mark_number k.local
compared_number PathLength k = k.len
compared_number Origin k = k.origin
compared_number Med k = k.med
compared_number Session k = mark_number k.external
compared_number Cost k = k.cost
compared_number Identifier k = k.id
compared_number Clusters k = k.clusters
compared_number Address k = k.address

-- in some steps the greater number wins, in the others the lesser
abbrev pub is_greater_better : Step → Bool
is_greater_better Weight = true
is_greater_better Preference = true
is_greater_better Origination = true
is_greater_better PathLength = false
is_greater_better Origin = false
is_greater_better Med = false
is_greater_better Session = true
is_greater_better Cost = false
is_greater_better Identifier = false
is_greater_better Clusters = false
is_greater_better Address = false

-- the first of two numbers wins
abbrev pub wins : Bool → ℕ → ℕ → Bool
wins true a b = nat_lt b a
wins false a b = nat_lt a b

-- a step compares all with each other, but for that of the MED where it is compared within one neighbouring AS
abbrev pub compares_all : Bool → Step → Bool
compares_all always Weight = true
compares_all always Preference = true
compares_all always Origination = true
compares_all always PathLength = true
compares_all always Origin = true
compares_all always Med = always
compares_all always Session = true
compares_all always Cost = true
compares_all always Identifier = true
compares_all always Clusters = true
compares_all always Address = true

-- the better of a number that may be flagged and of another that may be there
abbrev pub better_of : Bool → Bool → ℕ → Option ℕ → Option ℕ
better_of greater flag n rest =
    if flag && not (option_map_or (λ b. wins greater b n) rest false) then Some n else rest

-- the best of the flagged numbers
abbrev pub best_of : Bool → List Bool → List ℕ → Option ℕ
best_of greater [] ns = None
best_of greater (f ∷ fs) [] = None
best_of greater (f ∷ fs) (n ∷ ns) = better_of greater f n (best_of greater fs ns)

-- the flags of some numbers against which the best does not win
abbrev pub kept_by : Bool → Option ℕ → List Bool → List ℕ → List Bool
kept_by greater best [] ns = []
kept_by greater best (f ∷ fs) [] = []
kept_by greater best (f ∷ fs) (n ∷ ns) =
    (f && not (option_map_or (λ b. wins greater b n) best false)) ∷ kept_by greater best fs ns
