-- What a call does to the words.
use Rattle.std.specs.Prelude.{ℕ, ◌≡◌, ◌≢◌, ◌+◌, ◌*◌, ◌<◌, ◌≤◌, List, [], ◌∷◌, ◌++◌, length}
use Rattle.clause_arena.specs.Links.{word, places}
use Rattle.mw_text.specs.Members.{In}
use Rattle.clause_arena.specs.Store.{Store}

-- codes were written from a place on, and nothing before it changed
pub record HasCodes (f g : ℕ → ℕ) (at : ℕ) (codes : List ℕ) : Type 0 where
  pub codes_at : (k : ℕ) → k < length codes → g (at + k) ≡ word codes k
  pub others : (j : ℕ) → j < at → g j ≡ f j

-- a clause of these codes was written, and nothing before it changed
pub record IsWritten (f g : ℕ → ℕ) (r id : ℕ) (codes : List ℕ) : Type 0 where
  pub size : g r ≡ length codes
  pub number : g (r + 1) ≡ id
  pub codes_at : (k : ℕ) → k < length codes → g (r + 4 + k) ≡ word codes k
  pub others : (j : ℕ) → j < r → g j ≡ f j

-- a place was put in front of the list of a code
pub record IsPut (f g : ℕ → ℕ) (code place : ℕ) : Type 0 where
  pub link : g place ≡ f code
  pub head : g code ≡ place
  pub others : (j : ℕ) → j ≢ place → j ≢ code → g j ≡ f j

-- a clause of these codes was written at a place behind all clauses, with its two watches in front of their lists
pub record IsPlaced (f g : ℕ → ℕ) (r id : ℕ) (codes : List ℕ) : Type 0 where
  pub size : g r ≡ length codes
  pub number : g (r + 1) ≡ id
  pub codes_at : (k : ℕ) → k < length codes → g (r + 4 + k) ≡ word codes k
  pub links : (side : ℕ) → 2 ≤ length codes → side < 2 → g (r + 2 + side) ≡ f (word codes side)
  pub heads : (side : ℕ) → 2 ≤ length codes → side < 2 → g (word codes side) ≡ r + 2 + side
  pub others : (j : ℕ) → j < r → ((side : ℕ) → side < 2 → 2 ≤ length codes → j ≢ word codes side) → g j ≡ f j

-- the clause at a reference is the same
pub record IsSame (f g : ℕ → ℕ) (r : ℕ) : Type 0 where
  pub size : g r ≡ f r
  pub number : g (r + 1) ≡ f (r + 1)
  pub codes : (k : ℕ) → k < f r → g (r + 4 + k) ≡ f (r + 4 + k)

-- a clause of this number and these codes was added at a reference
pub record Adds (old new : Store) (r id : ℕ) (codes : List ℕ) : Type 0 where
  pub vars : new.vars ≡ old.vars
  pub refs : new.refs ≡ old.refs ++ r ∷ []
  pub size : word new.words r ≡ length codes
  pub number : word new.words (r + 1) ≡ id
  pub codes_at : (k : ℕ) → k < length codes → word new.words (r + 4 + k) ≡ word codes k
  pub kept : (s : ℕ) → In s old.refs → IsSame (word old.words) (word new.words) s
  pub watched : (side : ℕ) → side < 2 → 2 ≤ length codes
      → places new.words (word codes side) ≡ (r + 2 + side) ∷ places old.words (word codes side)
  pub others : (n : ℕ) → n < 2 * old.vars → ((side : ℕ) → side < 2 → 2 ≤ length codes → n ≢ word codes side)
      → places new.words n ≡ places old.words n

-- a watch at place p was taken from behind the link b and put in front of the list of the code m, and the codes at x
-- and y are now m and n
pub record IsMoved (f g : ℕ → ℕ) (b p m n x y : ℕ) : Type 0 where
  pub link : g b ≡ f p
  pub place : g p ≡ f m
  pub head : g m ≡ p
  pub one : g x ≡ m
  pub other : g y ≡ n
  pub others : (j : ℕ) → j ≢ b → j ≢ p → j ≢ m → j ≢ x → j ≢ y → g j ≡ f j

-- places that differ and are within so many words: a link, the place to which it leads, a head, and two places of codes
pub record IsClear (len b p m x y : ℕ) : Type 0 where
  pub link : b < len
  pub place : p < len
  pub head : m < len
  pub one : x < len
  pub other : y < len
  pub link_place : b ≢ p
  pub link_head : b ≢ m
  pub place_head : p ≢ m
  pub one_link : x ≢ b
  pub one_place : x ≢ p
  pub one_head : x ≢ m
  pub other_link : y ≢ b
  pub other_place : y ≢ p
  pub other_head : y ≢ m
  pub one_other : x ≢ y

-- the place p was taken from behind the link b and put in front of the list of the code m
pub record IsRelinked (f g : ℕ → ℕ) (b p m : ℕ) : Type 0 where
  pub link : g b ≡ f p
  pub place : g p ≡ f m
  pub head : g m ≡ p
  pub others : (j : ℕ) → j ≢ b → j ≢ p → j ≢ m → g j ≡ f j

-- two words were written
pub record IsTwo (f g : ℕ → ℕ) (x m y n : ℕ) : Type 0 where
  pub one : g x ≡ m
  pub other : g y ≡ n
  pub others : (j : ℕ) → j ≢ x → j ≢ y → g j ≡ f j
