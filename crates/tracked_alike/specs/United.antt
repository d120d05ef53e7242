-- The values that two networks track together.
use Rattle.std.specs.Prelude.{◌≡◌, ◌||◌, ℕ, IsTrue, List}
use Rattle.ios_ast.specs.Deciding.{carries}
use Rattle.route_record.specs.declared.tracked.Tracked.{Tracked}
use Rattle.net_parts.specs.Tracked.{numbers_of}
use Rattle.net_parts.specs.World.{ascends}

-- each list ascends, and so has each value once
pub record DoAscend (tracked : Tracked) : Type 0 where
  pub communities : IsTrue (ascends tracked.communities)
  pub numbers : IsTrue (ascends tracked.numbers)
  pub clusters : IsTrue (ascends (numbers_of tracked.clusters))

-- the one list ascends, and has exactly the values that either of the others has
pub record IsUnion (one other all : List ℕ) : Type 0 where
  pub ascending : IsTrue (ascends all)
  pub values : (n : ℕ) → carries all n ≡ (carries one n || carries other n)

-- so of each kind of values
pub record AreUnited (one other all : Tracked) : Type 0 where
  pub communities : IsUnion one.communities other.communities all.communities
  pub numbers : IsUnion one.numbers other.numbers all.numbers
  pub clusters : IsUnion (numbers_of one.clusters) (numbers_of other.clusters) (numbers_of all.clusters)
