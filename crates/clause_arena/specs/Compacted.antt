-- What a compaction does: clauses get new references, and nothing else changes.
use Rattle.std.specs.Prelude.{ℕ, ◌≡◌, ◌≢◌, ◌⊎◌, ◌+◌, ◌-◌, ◌*◌, ◌%◌, ◌<◌, ◌≤◌, ◌==◌, if◌then◌else◌}
use Rattle.std.specs.Prelude.{List, [], ◌∷◌, Option, length, map}
use Rattle.std.specs.Option.{option_map}
use Rattle.clause_arena.specs.declared.names.ClauseRef.{ClauseRef}
use Rattle.clause_arena.specs.Links.{word, places}
use Rattle.mw_text.specs.Members.{In}
use Rattle.clause_arena.specs.Store.{Store}

-- what stands in the second list where the number stands in the first, 0 where it stands nowhere
abbrev pub renamed : List ℕ → List ℕ → ℕ → ℕ
renamed [] ss x = 0
renamed (r ∷ rs) [] x = 0
renamed (r ∷ rs) (s ∷ ss) x = if x == r then s else renamed rs ss x

-- the place of the same watch under its clause's new reference; 0 stays
abbrev pub slid : List ℕ → List ℕ → ℕ → ℕ
slid refs new p = if p == 0 then 0 else (renamed refs new (p - 2 - p % 2) + 2 + p % 2)

-- the new reference of a reason's clause
abbrev pub reason_renamed : List ℕ → List ℕ → Option ClauseRef → Option ClauseRef
reason_renamed refs new reason = option_map (λ c. record { 0 = renamed refs new c.0 }) reason

-- where clauses of these sizes end that stand one behind another, each at the next even place
abbrev pub packed : ℕ → List ℕ → ℕ
packed at [] = at
packed at (n ∷ sizes) = packed (at + at % 2 + 4 + n) sizes

-- the clause at r stands at s now
pub record IsSameAt (f g : ℕ → ℕ) (r s : ℕ) : Type 0 where
  pub size : g s ≡ f r
  pub number : g (s + 1) ≡ f (r + 1)
  pub codes : (k : ℕ) → k < f r → g (s + 4 + k) ≡ f (r + 4 + k)

-- each clause is the one at its new reference, each list has the watches of the same clauses and sides in the same
-- order, and no words stand between clauses but one where a place is odd
pub record Compacts (old new : Store) : Type 0 where
  pub vars : new.vars ≡ old.vars
  pub count : length new.refs ≡ length old.refs
  pub held : (r : ℕ) → In r old.refs → In (renamed old.refs new.refs r) new.refs
  pub same : (r : ℕ) → In r old.refs → IsSameAt (word old.words) (word new.words) r (renamed old.refs new.refs r)
  pub watched : (n : ℕ) → n < 2 * old.vars → places new.words n ≡ map (slid old.refs new.refs) (places old.words n)
  pub dense : length new.words ≡ packed (2 * old.vars) (map (word old.words) old.refs)

-- ---- on the way

-- new references by place: even, behind the heads, one clause behind another, and none above the old one
pub record IsPlan (vars len : ℕ) (f : ℕ → ℕ) (refs new : List ℕ) (end : ℕ) : Type 0 where
  pub count : length new ≡ length refs
  pub heads : 2 * vars ≤ end
  pub fits : end ≤ len
  pub even : (j : ℕ) → j < length refs → word new j % 2 ≡ 0
  pub first : (j : ℕ) → j < length refs → 2 * vars ≤ word new j
  pub inside : (j : ℕ) → j < length refs → word new j + 4 + f (word refs j) ≤ end
  pub down : (j : ℕ) → j < length refs → word new j ≤ word refs j
  pub apart : (j k : ℕ) → j < k → k < length refs → word new j + 4 + f (word refs j) ≤ word new k

-- the clause at r stands at s now, and its links lead to the new places
pub record HasSlid (refs new : List ℕ) (f g : ℕ → ℕ) (r s : ℕ) : Type 0 where
  pub size : g s ≡ f r
  pub number : g (s + 1) ≡ f (r + 1)
  pub codes : (k : ℕ) → k < f r → g (s + 4 + k) ≡ f (r + 4 + k)
  pub links : (side : ℕ) → 2 ≤ f r → side < 2 → g (s + 2 + side) ≡ slid refs new (f (r + 2 + side))

-- so many words were copied from one place to another, and no others have changed
pub record IsCopied (f g : ℕ → ℕ) (from to count : ℕ) : Type 0 where
  pub copied : (k : ℕ) → k < count → g (to + k) ≡ f (from + k)
  pub below : (j : ℕ) → j < to → g j ≡ f j
  pub behind : (j : ℕ) → to + count ≤ j → g j ≡ f j

-- one link leads to the new place
pub record IsMended (refs new : List ℕ) (f g : ℕ → ℕ) (at : ℕ) : Type 0 where
  pub link : g at ≡ slid refs new (f at)
  pub others : (j : ℕ) → j ≢ at → g j ≡ f j

-- one clause has slid, and no word before it or behind its old end has changed
pub record SlidesOne (refs new : List ℕ) (f g : ℕ → ℕ) (r s : ℕ) : Type 0 where
  pub slid : HasSlid refs new f g r s
  pub below : (j : ℕ) → j < s → g j ≡ f j
  pub behind : (j : ℕ) → r + 4 + f r ≤ j → g j ≡ f j

-- the heads lead to the new places, and no other word has changed
pub record MendsHeads (refs new : List ℕ) (f g : ℕ → ℕ) (vars : ℕ) : Type 0 where
  pub heads : (n : ℕ) → n < 2 * vars → g n ≡ slid refs new (f n)
  pub others : (j : ℕ) → 2 * vars ≤ j → g j ≡ f j

-- all clauses have slid, and the heads are as they were
pub record SlidesAll (refs new : List ℕ) (f g : ℕ → ℕ) (vars : ℕ) : Type 0 where
  pub clauses : (j : ℕ) → j < length refs → HasSlid refs new f g (word refs j) (word new j)
  pub heads : (n : ℕ) → n < 2 * vars → g n ≡ f n

-- all clauses have slid, and the heads lead to the new places
pub record Slides (refs new : List ℕ) (f g : ℕ → ℕ) (vars : ℕ) : Type 0 where
  pub clauses : (j : ℕ) → j < length refs → HasSlid refs new f g (word refs j) (word new j)
  pub heads : (n : ℕ) → n < 2 * vars → g n ≡ slid refs new (f n)

-- the word is a link
abbrev pub IsLinkWord : ℕ → Type 0
IsLinkWord p = (p ≡ 0) ⊎ (3 < p + 2)

-- the two links of each clause of two or more literals
pub record HasLinks (f : ℕ → ℕ) (refs : List ℕ) : Type 0 where
  pub link : (r side : ℕ) → In r refs → 2 ≤ f r → side < 2 → IsLinkWord (f (r + 2 + side))
