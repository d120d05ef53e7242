-- Items of a list, and the first that passes a test.
use Rattle.std.proofs.Common.{◌≡◌, zero, suc, Bool, true, false, ◌&&◌, List, [], ◌∷◌, ◌++◌, Some}
use Rattle.std.proofs.Common.{refl, ap, arith, ◌∙◌, sym, cond}
use Rattle.std.specs.Prelude.{Contains}
use Rattle.std.specs.List.{find, list_all}

-- a test that each item passes is passed by an item
pub test-of_item : {A : Type 0} (test : A → Bool) (xs : List A) (x : A) → list_all test xs ≡ true → Contains xs x
    → test x ≡ true
test-of_item test [] x all (k, within, is) = absurd (omega arith)
test-of_item test (y ∷ ys) x all (zero, within, is) = ap test (sym is) ∙ head (test y) (list_all test ys) all where
  head : (a b : Bool) → (a && b) ≡ true → a ≡ true
  head true b h = refl
  head false b h = h
test-of_item test (y ∷ ys) x all (suc k, within, is) =
    test-of_item test ys x (tail (test y) (list_all test ys) all) (k, omega arith, is) where
      tail : (a b : Bool) → (a && b) ≡ true → b ≡ true
      tail true b h = h
      tail false b h = cc

-- what is found is an item, and passes
found_here : {A : Type 0} (wanted : A → Bool) (b : Bool) (y x : A) (ys : List A) → wanted y ≡ b →
    (find wanted ys ≡ Some x → Contains ys x × (wanted x ≡ true)) → cond b (Some y) (find wanted ys) ≡ Some x →
    Contains (y ∷ ys) x × (wanted x ≡ true)
found_here wanted true y x ys is later h =
    let same : y ≡ x = cc in ((zero, omega arith, same), ap wanted (sym same) ∙ is)
found_here wanted false y x ys is later h =
    let found = later h in ((suc found.0.0, omega (arith, found.0.1), found.0.2), found.1)

pub found-item : {A : Type 0} (wanted : A → Bool) (xs : List A) (x : A) → find wanted xs ≡ Some x → Contains xs x
    × (wanted x ≡ true)
found-item wanted [] x found = cc
found-item wanted (y ∷ ys) x found = found_here wanted (wanted y) y x ys refl (found-item wanted ys x) found

-- the last items of one list are one
pub last-same : {A : Type 0} (front other : List A) (x y : A) → front ++ x ∷ [] ≡ other ++ y ∷ [] → x ≡ y
last-same [] [] x y same = cc
last-same [] (b ∷ []) x y same = cc
last-same [] (b ∷ c ∷ rest) x y same = cc
last-same (a ∷ []) [] x y same = cc
last-same (a ∷ b ∷ rest) [] x y same = cc
last-same (a ∷ front) (b ∷ other) x y same =
    let rest : front ++ x ∷ [] ≡ other ++ y ∷ [] = cc in last-same front other x y rest
