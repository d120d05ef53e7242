-- The first item that passes a test.
use Rattle.std.proofs.Common.{◌≡◌, Bool, true, false, ◌||◌, cond, List, [], ◌∷◌, Option, Some, None}
use Rattle.std.specs.List.{find, list_any}
use Rattle.std.specs.Option.{is_some}

-- where some item passes, one is found
one_found : {A : Type 0} (b rest : Bool) (x : A) (o : Option A) → (b || rest) ≡ true → (rest ≡ true → o ≡ None → ⊥) →
    cond b (Some x) o ≡ None → ⊥
one_found true rest x o some others none = cc
one_found false rest x o some others none = others some none

pub some_found : {A : Type 0} (test : A → Bool) (xs : List A) → list_any test xs ≡ true → find test xs ≡ None → ⊥
some_found test [] some none = cc
some_found test (x ∷ xs) some none =
    one_found (test x) (list_any test xs) x (find test xs) some (some_found test xs) none

pub some_none : {A : Type 0} (o : Option A) → is_some o ≡ true → o ≡ None → ⊥
some_none None some none = cc
some_none (Some x) some none = cc
