-- Which additions stay, from behind.
use Rattle.std.proofs.Common.{◌≡◌, ◌∙◌, refl, ap, sym, ℕ, Bool, true, false, ◌||◌, cond, List, [], ◌∷◌, ◌++◌, map, reverse}
use Rattle.std.specs.List.{list_any}
use Rattle.std.proofs.lemmas.List.{map-append, reverse-append}
use Rattle.resolution_check.specs.declared.log.Entry.{Entry}
use Rattle.trimmed_logs.specs.Trimmed.{is_used_by, uses}
use Rattle.trimmed_logs.specs.Kept.{IsFound, kept}

-- an entry that is used stays
pub kept-used : (last e : Entry) (es : List Entry) → is_used_by (kept last es ++ last ∷ []) e ≡ true →
    kept last (e ∷ es) ≡ e ∷ kept last es
unfolding kept
kept-used last e es h = ap (λ b. cond b (e ∷ kept last es) (kept last es)) h

-- and no other
pub kept-unused : (last e : Entry) (es : List Entry) → is_used_by (kept last es ++ last ∷ []) e ≡ false →
    kept last (e ∷ es) ≡ kept last es
unfolding kept
kept-unused last e es h = ap (λ b. cond b (e ∷ kept last es) (kept last es)) h

pub kept-none : (last : Entry) → kept last [] ≡ []
unfolding kept
kept-none last = refl

-- one entry more from behind, which is used
pub found_more : (old new : ℕ → Bool) (found more : List Entry) (last e : Entry) (es : List Entry) →
    IsFound old found last es → is_used_by (kept last es ++ last ∷ []) e ≡ true →
    ((id : ℕ) → new id ≡ (uses id e || old id)) → more ≡ found ++ e ∷ [] → IsFound new more last (e ∷ es)
found_more old new found more last e es f used marks is =
    let stays : kept last (e ∷ es) ++ last ∷ [] ≡ e ∷ (kept last es ++ last ∷ []) =
    ap (λ ks. ks ++ last ∷ []) (kept-used last e es used) in record {
      marked = λ id. marks id ∙ ap (λ b. uses id e || b) (f.marked id) ∙ ap (list_any (uses id)) (sym stays);
      order = is ∙ ap (λ xs. xs ++ e ∷ []) f.order ∙ sym (reverse-append (e ∷ []) (kept last es ++ last ∷ []))
          ∙ ap reverse (sym stays);
    }

-- and one that is not
pub found_same : (marks : ℕ → Bool) (found : List Entry) (last e : Entry) (es : List Entry) →
    IsFound marks found last es → is_used_by (kept last es ++ last ∷ []) e ≡ false → IsFound marks found last (e ∷ es)
found_same marks found last e es f unused =
    let stays : kept last (e ∷ es) ++ last ∷ [] ≡ kept last es ++ last ∷ [] =
    ap (λ ks. ks ++ last ∷ []) (kept-unused last e es unused) in record {
      marked = λ id. f.marked id ∙ ap (list_any (uses id)) (sym stays);
      order = f.order ∙ ap reverse (sym stays);
    }

-- the last one, from which the search begins
pub found_last : (marks : ℕ → Bool) (found : List Entry) (last : Entry) →
    ((id : ℕ) → marks id ≡ (uses id last || false)) → found ≡ last ∷ [] → IsFound marks found last []
found_last marks found last marked is =
    let stays : kept last [] ++ last ∷ [] ≡ last ∷ [] = ap (λ ks. ks ++ last ∷ []) (kept-none last) in record {
      marked = λ id. marked id ∙ ap (list_any (uses id)) (sym stays);
      order = is ∙ ap reverse (sym stays);
    }

-- what a list of references shows backwards
pub map-reverse : {A B : Type 0} (f : A → B) (xs : List A) → map f (reverse xs) ≡ reverse (map f xs)
map-reverse f [] = refl
map-reverse f (x ∷ xs) =
    ap (map f) (reverse-append (x ∷ []) xs) ∙ map-append f (reverse xs) (x ∷ [])
    ∙ ap (λ ys. ys ++ f x ∷ []) (map-reverse f xs) ∙ sym (reverse-append (f x ∷ []) (map f xs))
