-- Two stores of terms in one, each over variables of its own.
use Rattle.std.specs.Prelude.{◌≡◌, ◌<◌, ℕ, zero, suc, Bool, false, List, [], ◌∷◌, ◌++◌, drop, get_or, take}
use Rattle.term_store.specs.declared.NodeId.{NodeId}
use Rattle.term_store.specs.Terms.{Reading, Store, at, size, value_of}

-- of values for the variables of both, those for the first, and those for the second
abbrev pub first_part : Store → List Bool → List Bool
first_part one valuation = take one.vars valuation

abbrev pub second_part : Store → Store → List Bool → List Bool
second_part one other valuation = take other.vars (drop one.vars valuation)

-- so many of the values, and false where there are no more
abbrev pub exactly : ℕ → List Bool → List Bool
exactly zero values = []
exactly (suc count) [] = false ∷ exactly count []
exactly (suc count) (b ∷ values) = b ∷ exactly count values

-- values for the variables of both, from values for those of each
abbrev pub values_beside : Store → Store → List Bool → List Bool → List Bool
values_beside one other xs ys = exactly one.vars xs ++ exactly other.vars ys

-- where a node of the second store stands
abbrev pub place_of : List NodeId → ℕ → NodeId
place_of places i = get_or places i (record { 0 = 0 })

-- the reading gives each node of the two stores its value under these values of its own store's variables
pub record ReadBeside (one other : Store) (places : List NodeId) (xs ys : List Bool) (w : Reading) : Type 0 where
  pub first : (i : ℕ) → i < size one → w.node i ≡ value_of one.nodes xs i
  pub second : (i : ℕ) → i < size other → at w (place_of places i) ≡ value_of other.nodes ys i
