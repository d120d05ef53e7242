-- Steps of loops over places.
use Rattle.std.proofs.Common.{◌≡◌, ℕ, ◌+◌, ◌<◌, ◌≤◌, List, [], ◌∷◌, ◌++◌, length, map, drop, get_or, sym, ap, ◌∙◌}
use Rattle.std.proofs.Common.{append_assoc, append-nil}
use Rattle.std.proofs.lemmas.List.{drop_all, drop_more, map-append}

-- one more item that reads as what a place gives
pub row_next : {P A B : Type 0} (read : A → B) (f : P → B) (ps : List P) (k : ℕ) (d : P) (made : List A) (x : A) →
    k < length ps → read x ≡ f (get_or ps k d) →
    map read (made ++ x ∷ []) ++ map f (drop (k + 1) ps) ≡ map read made ++ map f (drop k ps)
row_next read f ps k d made x within same =
    ap (λ ys. ys ++ map f (drop (k + 1) ps)) (map-append read made (x ∷ []))
    ∙ append_assoc (map read made) (read x ∷ []) (map f (drop (k + 1) ps))
    ∙ ap (λ y. map read made ++ y ∷ map f (drop (k + 1) ps)) same
    ∙ sym (ap (λ qs. map read made ++ map f qs) (drop_more ps k d within))

-- the same of items that are not read
pub items_next : {P B : Type 0} (f : P → B) (ps : List P) (k : ℕ) (d : P) (made : List B) (x : B) →
    k < length ps → x ≡ f (get_or ps k d) →
    (made ++ x ∷ []) ++ map f (drop (k + 1) ps) ≡ made ++ map f (drop k ps)
items_next f ps k d made x within same =
    append_assoc made (x ∷ []) (map f (drop (k + 1) ps))
    ∙ ap (λ y. made ++ y ∷ map f (drop (k + 1) ps)) same
    ∙ sym (ap (λ qs. made ++ map f qs) (drop_more ps k d within))

pub row_end : {P B : Type 0} (f : P → B) (ps : List P) (k : ℕ) (made : List B) → length ps ≤ k →
    made ++ map f (drop k ps) ≡ made
row_end f ps k made past = ap (λ qs. made ++ map f qs) (drop_all k ps past) ∙ append-nil made
