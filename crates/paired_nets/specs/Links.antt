-- Links that two networks have in common.
use Rattle.std.specs.Prelude.{◌≡◌, ℕ, List, [], ◌∷◌, ◌++◌, Contains, Option, Some, None, slice_get}
use Rattle.ios_ast.specs.declared.file.File.{File}
use Rattle.net_parts.specs.declared.links.Link.{Link}
use Rattle.net_parts.specs.World.{links_of}
use Rattle.paired_nets.specs.declared.links.LinkPair.{LinkPair}

-- the links of these places are on one subnet
abbrev pub AreOneLink : List File → List File → ℕ → ℕ → Type 0
AreOneLink left right one other =
    (a : Link) × (b : Link) × (slice_get (links_of left) one ≡ Some a) × (slice_get (links_of right) other ≡ Some b)
    × (a.prefix ≡ b.prefix)

-- the places of all such links
pub record ArePairs (left right : List File) (pairs : List LinkPair) : Type 0 where
  pub sound : (pair : LinkPair) → Contains pairs pair → AreOneLink left right pair.one pair.other
  pub whole : (one other : ℕ) → AreOneLink left right one other →
      Contains pairs (record { one = one; other = other })

-- with the pair of two places, where there is a second one
abbrev pub with_pair : List LinkPair → ℕ → Option ℕ → List LinkPair
with_pair pairs one None = pairs
with_pair pairs one (Some other) = pairs ++ record { one = one; other = other } ∷ []
