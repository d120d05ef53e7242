-- Names that are copied one after another.
use Rattle.std.proofs.Common.{◌≡◌, ◌∙◌, ℕ, ◌+◌, ◌<◌, ◌≤◌, List, [], ◌∷◌, ◌++◌, length, map, take, get_or, ap, sym, arith}
use Rattle.std.proofs.lemmas.List.{length-map, map-append, take_all}
use Rattle.mw_text.proofs.Reading.{take-read}
use Rattle.mw_text.proofs.Found.{read-at}

-- one name more is copied
pub copied_more : {S N : Type 0} (f : S → List ℕ) (g : N → List ℕ) (all : List S) (names : List N) (i : ℕ) (s : S)
    (d : N) → i < length names → map f all ≡ take i (map g names) → f s ≡ g (get_or names i d) →
    map f (all ++ s ∷ []) ≡ take (i + 1) (map g names)
copied_more f g all names i s d within so_far is =
    let long = length-map names g in
    let here : f s ≡ get_or (map g names) i (f s) =
    is ∙ read-at g names i d within ∙ ap (get_or (map g names) i) (sym is) in
    map-append f all (s ∷ []) ∙ ap (λ xs. xs ++ f s ∷ []) so_far
    ∙ sym (take-read (map g names) i (f s) (omega (arith, within, long)) here)

-- all of them are
pub copied_all : {S N : Type 0} (f : S → List ℕ) (g : N → List ℕ) (all : List S) (names : List N) (i : ℕ) →
    length names ≤ i → map f all ≡ take i (map g names) → map f all ≡ map g names
copied_all f g all names i done so_far =
    let long = length-map names g in so_far ∙ take_all i (map g names) (omega (arith, done, long))
