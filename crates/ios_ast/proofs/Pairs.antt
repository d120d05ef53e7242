-- Lists in which each item passes a test with every later one.
use Rattle.std.proofs.Common.{◌≡◌, ℕ, zero, suc, ◌<◌, Bool, true, List, [], ◌∷◌, ◌++◌, Some, refl, ap, sym}
use Rattle.std.proofs.Common.{◌∙◌, arith, get_or, set}
use Rattle.std.proofs.lemmas.Bool.{and_from, and_parts}
use Rattle.std.proofs.lemmas.List.Elements.{All-head, All-set, All-tail}
use Rattle.std.proofs.lemmas.List.Folds.{list_all-append}
use Rattle.std.proofs.lemmas.List.Sums.{AllPass-from_list_all, list_all-from_AllPass}
use Rattle.std.specs.List.{list_all}
use Rattle.std.specs.Prelude.{All, slice_get}
use Rattle.mw_text.proofs.Lists.{all_at}
use Rattle.ios_ast.specs.Limits.{each_pair}

-- of two items the earlier passes with the later
pub pair_at : {A : Type 0} (test : A → A → Bool) (xs : List A) (i j : ℕ) (x y : A) → each_pair test xs ≡ true →
    i < j → slice_get xs i ≡ Some x → slice_get xs j ≡ Some y → test x y ≡ true
pair_at test [] i j x y all less one other = absurd cc
pair_at test (z ∷ rest) i zero x y all less one other = absurd (omega arith)
pair_at test (z ∷ rest) zero (suc j) x y all less one other =
    let same : z ≡ x = cc in
    let passes = (and_parts (list_all (test z) rest) (each_pair test rest) all).0 in
    ap (λ w. test w y) (sym same) ∙ all_at (test z) rest j y passes other
pair_at test (z ∷ rest) (suc i) (suc j) x y all less one other =
    pair_at test rest i j x y (and_parts (list_all (test z) rest) (each_pair test rest) all).1 (omega arith) one other

-- one item more at the end, with which each passes
pub each_pair-push : {A : Type 0} (test : A → A → Bool) (xs : List A) (y : A) → each_pair test xs ≡ true →
    All (λ x. test x y ≡ true) xs → each_pair test (xs ++ y ∷ []) ≡ true
each_pair-push test [] y all passes = refl
each_pair-push test (x ∷ rest) y all passes =
    let both = and_parts (list_all (test x) rest) (each_pair test rest) all in
    let here = and_from (test x y) true (All-head (λ z. test z y ≡ true) x rest passes) refl in
    let first : list_all (test x) (rest ++ y ∷ []) ≡ true =
    list_all-append (test x) rest (y ∷ [])
    ∙ and_from (list_all (test x) rest) (list_all (test x) (y ∷ [])) both.0 here in
    and_from (list_all (test x) (rest ++ y ∷ [])) (each_pair test (rest ++ y ∷ [])) first
    (each_pair-push test rest y both.1 (All-tail (λ z. test z y ≡ true) x rest passes))

-- y passes with an item where x does
abbrev pub PassesFor : {A : Type 0} → (A → A → Bool) → A → A → A → Type 0
PassesFor test x y z = (test x z ≡ true → test y z ≡ true) × (test z x ≡ true → test z y ≡ true)

-- an item in the place of one that passes no more than it
pub each_pair-set : {A : Type 0} (test : A → A → Bool) (xs : List A) (k : ℕ) (x y : A) → slice_get xs k ≡ Some x →
    All (PassesFor test x y) xs → each_pair test xs ≡ true → each_pair test (set xs k y) ≡ true
each_pair-set test [] k x y there passes all = absurd cc
each_pair-set test (z ∷ rest) zero x y there passes all =
    let same : z ≡ x = cc in
    let both = and_parts (list_all (test z) rest) (each_pair test rest) all in
    let others = All-tail (PassesFor test x y) z rest passes in
    let before = AllPass-from_list_all (test z) rest both.0 in
    let first : list_all (test y) rest ≡ true = list_all-from_AllPass (test y) rest
    (λ n d within. (others n d within).0 (ap (λ w. test w (get_or rest n d)) (sym same) ∙ before n d within)) in
    and_from (list_all (test y) rest) (each_pair test rest) first both.1
each_pair-set test (z ∷ rest) (suc k) x y there passes all =
    let both = and_parts (list_all (test z) rest) (each_pair test rest) all in
    let here = (All-head (PassesFor test x y) z rest passes).1 (all_at (test z) rest k x both.0 there) in
    let first : list_all (test z) (set rest k y) ≡ true = list_all-from_AllPass (test z) (set rest k y)
    (All-set (λ w. test z w ≡ true) rest k y here (AllPass-from_list_all (test z) rest both.0)) in
    and_from (list_all (test z) (set rest k y)) (each_pair test (set rest k y)) first
    (each_pair-set test rest k x y there (All-tail (PassesFor test x y) z rest passes) both.1)
