-- Where clauses stand in words, and the lists of their watches.
--
-- The words begin with a head for each literal's code, which is the place of the first watch of that literal. A clause
-- stands at its reference: its size, its number, two links, and the codes of its literals. A watch stands at the place
-- of its link, which holds the place of the next watch of the same literal; 0 is the end.
use Rattle.std.specs.Prelude.{ℕ, ◌≡◌, ◌+◌, ◌*◌, ◌%◌, ◌<◌, ◌≤◌, List, [], ◌∷◌, ⊤, length}
use Rattle.clause_arena.specs.Links.{word, Threads, places}
use Rattle.mw_text.specs.Members.{In}

-- the references rise
abbrev pub Rises : List ℕ → Type 0
Rises [] = ⊤
Rises (r ∷ rs) = ((s : ℕ) → In s rs → r < s) × Rises rs

-- the place of a link is that of a watch of a clause of two or more literals, whose literal has this code
pub record IsWatch (f : ℕ → ℕ) (refs : List ℕ) (n p : ℕ) : Type 0 where
  pub ref : ℕ
  pub side : ℕ
  pub held : In ref refs
  pub low : side < 2
  pub two : 2 ≤ f ref
  pub place : p ≡ ref + 2 + side
  pub code : f (ref + 4 + side) ≡ n

-- clauses stand behind the heads, one behind another, at even places, and no literal stands twice in one
pub record IsLaid (vars len : ℕ) (f : ℕ → ℕ) (refs : List ℕ) : Type 0 where
  pub heads : 2 * vars ≤ len
  pub rising : Rises refs
  pub first : (r : ℕ) → In r refs → 2 * vars ≤ r
  pub even : (r : ℕ) → In r refs → r % 2 ≡ 0
  pub inside : (r : ℕ) → In r refs → r + 4 + f r ≤ len
  pub apart : (r s : ℕ) → In r refs → In s refs → r < s → r + 4 + f r ≤ s
  pub below : (r k : ℕ) → In r refs → k < f r → f (r + 4 + k) < 2 * vars
  pub differ : (r j k : ℕ) → In r refs → j < f r → k < f r → f (r + 4 + j) ≡ f (r + 4 + k) → j ≡ k
  pub numbers : (r s : ℕ) → In r refs → In s refs → r < s → f (r + 1) < f (s + 1)

-- each literal's list has exactly its watches
pub record IsLinked (vars : ℕ) (f : ℕ → ℕ) (refs : List ℕ) (lists : ℕ → List ℕ) : Type 0 where
  pub threads : (n : ℕ) → n < 2 * vars → Threads f n (lists n)
  pub watch : (n p : ℕ) → n < 2 * vars → In p (lists n) → IsWatch f refs n p
  pub listed : (r side : ℕ) → In r refs → 2 ≤ f r → side < 2 → In (r + 2 + side) (lists (f (r + 4 + side)))

pub record IsSound (vars : ℕ) (ws refs : List ℕ) : Type 0 where
  pub laid : IsLaid vars (length ws) (word ws) refs
  pub linked : IsLinked vars (word ws) refs (places ws)

-- what an arena keeps
pub record Store : Type 0 where
  pub vars : ℕ
  pub words : List ℕ
  pub refs : List ℕ

abbrev pub store : ℕ → List ℕ → List ℕ → Store
store vars ws refs = record { vars = vars; words = ws; refs = refs }
