-- A set whose equality is that of values: where a key stands, and that it stands there alone.
use Rattle.std.proofs.Common.{◌≡◌, ℕ, ◌<◌, Bool, true, false, List, [], ◌∷◌, ◌++◌, slice_get, get_or, Some, Contains}
use Rattle.std.proofs.Common.{◌⊎◌, inl, inr, if◌then◌else◌, refl, sym, ap, subst, ◌∙◌, true≢false, arith}
use Rattle.std.proofs.lemmas.Map.Views.{Contains-from_any, list_any-from_Contains}
use Rattle.std.proofs.lemmas.Map.Keys.{apart_from_distinct}
use Rattle.std.proofs.lemmas.Option.{slice_get_within, get_or_from_slice_get}
use Rattle.std.specs.Cmp.{IsEquivalence}
use Rattle.std.specs.List.{list_any, IsDistinct}
use Rattle.indexmap.specs.IndexSet.{insert_key}

module _ {K : Type 0} (eq : K → K → Bool) (same : (x y : K) → eq x y ≡ true → x ≡ y)
    (itself : (x : K) → eq x x ≡ true) where
  -- equality of values is an equivalence
  equivalence : IsEquivalence eq
  equivalence = record { refl = itself; symm = symm; congr = λ x y z e. ap (λ k. eq k z) (same x y e) }
    where
      symm : (x y : K) → eq x y ≡ eq y x
      symm x y = by (eq x y) (eq y x) refl refl
        where
          flipped : (x y : K) → eq x y ≡ true → eq y x ≡ true
          flipped x y e = subst (λ k. eq k x ≡ true) (same x y e) (itself x)

          by : (b c : Bool) → eq x y ≡ b → eq y x ≡ c → eq x y ≡ eq y x
          by true c e f = e ∙ sym (flipped x y e)
          by false true e f = flipped y x f ∙ sym f
          by false false e f = e ∙ sym f

  -- an inserted key was there and nothing changed, or it was not and goes last
  pub insert_key_cases : (old : List K) (n : K) (new : List K) → new ≡ insert_key eq old n
      → (Contains old n × (new ≡ old)) ⊎ ((Contains old n → ⊥) × (new ≡ old ++ n ∷ []))
  insert_key_cases old n new e = by (list_any (eq n) old) refl
    where
      by : (b : Bool) → list_any (eq n) old ≡ b
          → (Contains old n × (new ≡ old)) ⊎ ((Contains old n → ⊥) × (new ≡ old ++ n ∷ []))
      by true f = inl (Contains-from_any same n old f, e ∙ ap (λ c. if c then old else old ++ n ∷ []) f)
      by false f =
          inr (
            λ h. true≢false (sym (list_any-from_Contains equivalence n old h) ∙ f),
            e
                ∙ ap (λ c. if c then old else old ++ n ∷ []) f,
          )

  -- a key stands at one index only
  pub one_index : (ks : List K) → IsDistinct eq ks → (i j : ℕ) (n : K) → slice_get ks i ≡ Some n
      → slice_get ks j ≡ Some n → i ≡ j
  one_index ks distinct i j n at_i at_j =
      let not_before : (i j : ℕ) → slice_get ks i ≡ Some n → slice_get ks j ≡ Some n → i < j → ⊥ =
      λ i j at_i at_j h. true≢false
      (sym (itself n) ∙ ap (λ x. eq x n) (sym (get_or_from_slice_get ks i n n at_i))
      ∙ ap (λ x. eq (get_or ks i n) x) (sym (get_or_from_slice_get ks j n n at_j))
      ∙ apart_from_distinct eq ks i j n distinct h (slice_get_within ks j n at_j)) in
      let first = not_before i j at_i at_j in
      let second = not_before j i at_j at_i in
      omega arith
