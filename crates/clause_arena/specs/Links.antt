-- Lists in words: the word at a place is the next place of the list, and 0 ends it.
use Rattle.std.specs.Prelude.{ℕ, zero, suc, ◌≡◌, ◌<◌, ◌==◌, if◌then◌else◌, List, [], ◌∷◌, length, slice_index}

-- the word at a place
abbrev pub word : List ℕ → ℕ → ℕ
word ws k = slice_index ws k

-- the word at a place leads to these places, one after another
abbrev pub Threads : (ℕ → ℕ) → ℕ → List ℕ → Type 0
Threads f at [] = f at ≡ 0
Threads f at (p ∷ ps) = (f at ≡ p) × (0 < p) × Threads f p ps

-- the places to which the word at a place leads, so many at most
abbrev pub links : ℕ → (ℕ → ℕ) → ℕ → List ℕ
links zero f at = []
links (suc n) f at = if f at == 0 then [] else (f at ∷ links n f (f at))

-- the places to which the word at a place leads
unfoldable pub places : List ℕ → ℕ → List ℕ
places ws at = links (length ws) (word ws) at

-- of the list that begins behind `at`, what stands behind a place; `at` stands before the list
abbrev pub after : ℕ → ℕ → List ℕ → List ℕ
after b at [] = []
after b at (q ∷ qs) = if b == at then q ∷ qs else after b q qs

-- the list without what stands directly behind a place
abbrev pub cut : ℕ → ℕ → List ℕ → List ℕ
cut b at [] = []
cut b at (q ∷ qs) = if b == at then qs else (q ∷ cut b q qs)

-- the first place, 0 where there is none
abbrev pub first : List ℕ → ℕ
first [] = 0
first (q ∷ qs) = q
