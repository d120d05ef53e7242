-- A test of the first of some entries that passes another one, entry by entry.
use Rattle.std.proofs.Common.{◌≡◌, ℕ, ◌+◌, ◌-◌, ◌<◌, ◌≤◌, Bool, true, false, if◌then◌else◌, List, ◌∷◌}
use Rattle.std.proofs.Common.{Option, Some, drop, get_or, length, refl, sym, ap, ◌∙◌, arith}
use Rattle.std.specs.List.{find}
use Rattle.std.specs.Option.{option_map_or}
use Rattle.std.specs.Borrow.{Bor}
use Rattle.std.proofs.lemmas.List.{drop_all, drop_more}
use Rattle.ios_ast.specs.declared.policies.MapEntry.{MapEntry}
use Rattle.sym_policy.specs.Order.{entries_of}

-- one entry more in front, by reference
pub metric_more : (p f : MapEntry → Bool) (refs : List (Bor MapEntry)) (i : ℕ) (r : Bor MapEntry) (rest made : Bool) →
    0 < i → i ≤ length refs → r ≡ get_or refs (i - 1) r →
    rest ≡ option_map_or f (find p (entries_of (drop i refs))) false → made ≡ (if p r.now then f r.now else rest) →
    made ≡ option_map_or f (find p (entries_of (drop (i - 1) refs))) false
metric_more p f refs i r rest made above within at_place rest_is made_is =
    let first : List MapEntry → Bool = λ es. option_map_or f (find p es) false in
    let j = i - 1 in
    let next : j + 1 ≡ i = omega (arith, above) in
    made_is
    ∙ ap (λ b. if p r.now then f r.now else b) rest_is
    ∙ by_test (p r.now) (find p (entries_of (drop i refs)))
    ∙ ap (λ (x : Bor MapEntry). first (x.now ∷ entries_of (drop i refs))) at_place
    ∙ ap (λ m. first ((get_or refs j r).now ∷ entries_of (drop m refs))) (sym next)
    ∙ ap (λ l. first (entries_of l)) (sym (drop_more refs j r (omega (arith, within, above))))
  where
    by_test : (b : Bool) (o : Option MapEntry) →
        (if b then f r.now else option_map_or f o false) ≡ option_map_or f (if b then Some r.now else o) false
    by_test true o = refl
    by_test false o = refl

-- none is left
pub metric_end : (p f : MapEntry → Bool) (refs : List (Bor MapEntry)) →
    false ≡ option_map_or f (find p (entries_of (drop (length refs) refs))) false
metric_end p f refs =
    ap (λ l. option_map_or f (find p (entries_of l)) false) (sym (drop_all (length refs) refs (omega arith)))
