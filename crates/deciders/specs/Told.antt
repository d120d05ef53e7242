-- What a decider tells of its bumps.
use Rattle.std.specs.Prelude.{ℕ, ◌≡◌, List, [], ◌∷◌, ◌++◌, Option, Some, option_map, IfSome}

-- the bumps with one more, where they are told
abbrev pub with_bump : Option (List ℕ) → ℕ → Option (List ℕ)
with_bump told var = option_map (λ bumps. bumps ++ var ∷ []) told

-- where the bumps are told afterwards, they were told before, and this variable was appended
abbrev pub TellsBump : Option (List ℕ) → Option (List ℕ) → ℕ → Type 0
TellsBump before now var = IfSome now (λ bumps. with_bump before var ≡ Some bumps)
