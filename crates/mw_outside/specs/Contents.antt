-- What files hold: a finite map from names to bytes, where it is told.
use Rattle.std.specs.Prelude.{ℕ, ◌≡◌, List, [], ◌∷◌, length, take, nat_eq, if◌then◌else◌, Option, Some, None, IfSome}
use Rattle.std.specs.Prelude.{IsSomeAnd, map, Contains}
use Rattle.std.specs.Cmp.Lexicographic.{pointwise}

-- Files as pairs of a name and its bytes. The first pair of a name counts.
abbrev pub Contents : Type 0
Contents = List (List ℕ × List ℕ)

-- The bytes of the file of this name, if it is there.
abbrev pub get : Contents → List ℕ → Option (List ℕ)
get [] name = None
get (file ∷ files) name = if pointwise nat_eq file.0 name then Some file.1 else get files name

-- Where contents are told, the file is there and its bytes have P.
abbrev pub Has : Option Contents → List ℕ → (List ℕ → Type 0) → Type 0
Has contents name P = IfSome contents (λ files. IsSomeAnd (get files name) P)

-- Where contents are told, the files of these names are there with these bytes, one after another.
abbrev pub HasAll : Option Contents → List (List ℕ) → List (List ℕ) → Type 0
HasAll contents names all = IfSome contents (λ files. map Some all ≡ map (get files) names)

-- Where contents are told and the file is there, its bytes begin with these.
abbrev pub IsFront : Option Contents → List ℕ → List ℕ → Type 0
IsFront contents name bytes =
    IfSome contents (λ files. IfSome (get files name) (λ file. take (length bytes) file ≡ bytes))

-- The last failed name is this one, where it is told.
abbrev pub TellsOnly : List ℕ → Option (List ℕ) → Type 0
TellsOnly name last_failed = IfSome last_failed (λ told. told ≡ name)

-- The last failed name is one of these, where it is told.
abbrev pub TellsAmong : List (List ℕ) → Option (List ℕ) → Type 0
TellsAmong names last_failed = IfSome last_failed (Contains names)
