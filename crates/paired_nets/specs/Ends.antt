-- External peers that two networks have in common, by the ends of their sessions.
use Rattle.std.specs.Prelude.{◌≡◌, ◌⊎◌, ℕ, Bool, List, [], ◌∷◌, ◌++◌, Contains, IsTrue, Some, slice_get}
use Rattle.std.specs.Prelude.{if◌then◌else◌}
use Rattle.ios_ast.specs.declared.file.File.{File}
use Rattle.net_parts.specs.declared.sessions.SessionEnd.{SessionEnd}
use Rattle.net_parts.specs.Sessions.{ends_of, is_outside}
use Rattle.paired_nets.specs.declared.ends.EndPair.{EndPair}
use Rattle.paired_nets.specs.Peers.{AreWithOne}

-- the ends are with one external peer of both networks
abbrev pub AreCommonEnds : List File → List File → SessionEnd → SessionEnd → Type 0
AreCommonEnds left right a b = IsTrue (is_outside a.far) × IsTrue (is_outside b.far) × AreWithOne left right a b

-- so are those at these places
abbrev pub AreOneEnd : List File → List File → ℕ → ℕ → Type 0
AreOneEnd left right one other =
    (a : SessionEnd) × (b : SessionEnd) × (slice_get (ends_of left) one ≡ Some a)
    × (slice_get (ends_of right) other ≡ Some b) × AreCommonEnds left right a b

-- the places of all such ends
pub record AreEndPairs (left right : List File) (pairs : List EndPair) : Type 0 where
  pub sound : (pair : EndPair) → Contains pairs pair → AreOneEnd left right pair.one pair.other
  pub whole : (one other : ℕ) → AreOneEnd left right one other → Contains pairs (record { one = one; other = other })

-- ---- one end of the left network

-- with the pair of two places, where their ends are common
abbrev pub with_pair : List EndPair → ℕ → ℕ → Bool → List EndPair
with_pair pairs one other common = if common then pairs ++ record { one = one; other = other } ∷ [] else pairs

-- the pair is of this place, and of one of these others whose end is with the peer of this end
abbrev pub IsPairOf : List File → List File → SessionEnd → ℕ → List SessionEnd → EndPair → Type 0
IsPairOf left right a one others pair =
    (pair.one ≡ one) × ((b : SessionEnd) × (slice_get others pair.other ≡ Some b) × AreCommonEnds left right a b)

-- those pairs are put to these
pub record ArePut (left right : List File) (a : SessionEnd) (one : ℕ) (others : List SessionEnd)
    (before now : List EndPair) : Type 0 where
  pub kept : (pair : EndPair) → Contains before pair → Contains now pair
  pub sound : (pair : EndPair) → Contains now pair → Contains before pair ⊎ IsPairOf left right a one others pair
  pub whole : (other : ℕ) (b : SessionEnd) → slice_get others other ≡ Some b → AreCommonEnds left right a b →
      Contains now (record { one = one; other = other })
