-- Sets of marked positions as numbers.
use Rattle.std.proofs.Common.{◌≡◌, ℕ, ◌+◌, ◌-◌, ◌*◌, ◌^◌, ◌<◌, ◌≤◌, Bool, true, false, List, [], ◌∷◌, map, drop, get_or}
use Rattle.std.proofs.Common.{length, refl, sym, ap, ◌∙◌, arith, if◌then◌else◌, ◌||◌, ◌==◌}
use Rattle.std.proofs.lemmas.List.{drop_more, length-map, length-drop}
use Rattle.std.proofs.Math.Nat.{pow-suc}
use Rattle.std.proofs.Math.Pow.{pow_mono}
use Rattle.std.proofs.lemmas.Bool.{eq-eqb}
use Rattle.std.proofs.Math.Bool.{or-true}
use Rattle.route_record.specs.declared.BgpRec.{BgpRec}
use Rattle.route_record.specs.declared.tracked.Tracked.{Tracked}
use Rattle.route_record.specs.Shape.{has, marked_number, shape_of, AlikeOf}

-- a set is below the power of its number of positions
marked_small : (bs : List Bool) → marked_number bs < 2 ^ length bs
marked_small [] = omega arith
marked_small (true ∷ bs) = let rest = marked_small bs in omega (arith, pow-suc 2 (length bs))
marked_small (false ∷ bs) = let rest = marked_small bs in omega (arith, pow-suc 2 (length bs))

-- the set of all positions but the first ones has room for one more
pub marked_room : {X : Type 0} (p : X → Bool) (xs : List X) (i : ℕ) → 0 < i → length xs ≤ 128
    → marked_number (map p (drop i xs)) < 2 ^ 127
marked_room p xs i h few =
    let small = marked_small (map p (drop i xs)) in
    let long : length (map p (drop i xs)) ≤ 127 = simp (length-map, length-drop) (omega arith) in
    omega (arith, pow_mono long)

-- one more position in front, where `x` stands
pub marked_more : {X : Type 0} (p : X → Bool) (xs : List X) (i : ℕ) (x : X) → 0 < i → i ≤ length xs
    → x ≡ get_or xs (i - 1) x
    → marked_number (map p (drop (i - 1) xs)) ≡ (if p x then 1 else 0) + 2 * marked_number (map p (drop i xs))
marked_more p xs i x above within here =
    let next : i - 1 + 1 ≡ i = omega arith in
    ap (λ rest. marked_number (map p rest)) (drop_more xs (i - 1) x (omega arith))
    ∙ ap (λ y. (if p y then 1 else 0) + 2 * marked_number (map p (drop (i - 1 + 1) xs))) (sym here)
    ∙ ap (λ j. (if p x then 1 else 0) + 2 * marked_number (map p (drop j xs))) next

-- two tests that agree on the members of a list mark it alike
map_alike : (f g : ℕ → Bool) (xs : List ℕ) → ((x : ℕ) → has xs x ≡ true → f x ≡ g x) → map f xs ≡ map g xs
map_alike f g [] h = refl
map_alike f g (x ∷ xs) h =
    let first : f x ≡ g x = h x (ap (λ b. b || has xs x) (eq-eqb x x refl)) in
    let rest : map f xs ≡ map g xs =
    map_alike f g xs (λ y in_rest. h y (ap (λ b. (x == y) || b) in_rest ∙ or-true (x == y))) in
    cc

-- records that differ in untracked communities alone have one shape
pub shape_alike : (tracked : Tracked) (a b : BgpRec) → AlikeOf tracked a b → shape_of tracked a ≡ shape_of tracked b
shape_alike tracked a b h =
    let path = h.path in
    let clusters = h.clusters in
    let marked = map_alike (has a.communities) (has b.communities) tracked.communities h.communities in
    cc
