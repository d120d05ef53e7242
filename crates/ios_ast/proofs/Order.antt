-- Entries in the order of their numbers, and which of them decides.
use Rattle.std.proofs.Common.{◌≡◌, ℕ, ◌<◌, ◌≤◌, nat_le, Bool, true, false, if◌then◌else◌, List, [], ◌∷◌, Some}
use Rattle.std.proofs.Common.{refl, sym, ap, ◌∙◌, arith, ◌+◌, ◌-◌, length, drop, get_or}
use Rattle.std.proofs.lemmas.List.{drop_more}
use Rattle.std.proofs.lemmas.Bool.{le-leb}
use Rattle.std.proofs.lemmas.Bool.Decides.{nat_tests}
use Rattle.std.specs.List.{find}
use Rattle.std.specs.Prelude.{All}
use Rattle.std.proofs.lemmas.List.Elements.{All-cons, All-head, All-tail}
use Rattle.ios_ast.specs.Deciding.{put_by, in_order, sooner}

-- no entry of the list has a number below `n`
abbrev Above : {E : Type 0} → (E → ℕ) → ℕ → List E → Type 0
Above number n [] = Unit {0}
Above number n (x ∷ xs) = (n ≤ number x) × Above number n xs

-- the numbers never fall
abbrev Ascends : {E : Type 0} → (E → ℕ) → List E → Type 0
Ascends number [] = Unit {0}
Ascends number (x ∷ xs) = Above number (number x) xs × Ascends number xs

above_less : {E : Type 0} (number : E → ℕ) (n m : ℕ) (xs : List E) → n ≤ m → Above number m xs → Above number n xs
above_less number n m [] h above = tt
above_less number n m (x ∷ xs) h above =
    let here = above.0 in (omega arith, above_less number n m xs h above.1)

above_put : {E : Type 0} (number : E → ℕ) (n : ℕ) (e : E) (xs : List E) → n ≤ number e → Above number n xs
    → Above number n (put_by number e xs)
above_put number n e [] h above = (h, tt)
above_put number n e (x ∷ xs) h above = by (above_put number n e xs h above.1) (nat_le (number e) (number x))
  where
    by : Above number n (put_by number e xs) → (b : Bool)
        → Above number n (if b then e ∷ x ∷ xs else x ∷ put_by number e xs)
    by rest true = (h, above)
    by rest false = (above.0, rest)

ascends_put : {E : Type 0} (number : E → ℕ) (e : E) (xs : List E) → Ascends number xs
    → Ascends number (put_by number e xs)
ascends_put number e [] h = (tt, tt)
ascends_put number e (x ∷ xs) h = by (ascends_put number e xs h.1) (nat_le (number e) (number x)) refl
  where
    by : Ascends number (put_by number e xs) → (b : Bool) → nat_le (number e) (number x) ≡ b
        → Ascends number (if b then e ∷ x ∷ xs else x ∷ put_by number e xs)
    by rest true before =
        let low : number e ≤ number x = grind (arith, nat_tests) in
        ((low, above_less number (number e) (number x) xs low h.0), h)
    by rest false after =
        let high : number x ≤ number e = grind (arith, nat_tests) in (above_put number (number x) e xs high h.0, rest)

ascends_order : {E : Type 0} (number : E → ℕ) (es : List E) → Ascends number (in_order number es)
ascends_order number [] = tt
ascends_order number (e ∷ es) = ascends_put number e (in_order number es) (ascends_order number es)

-- an entry before all others comes first
sooner_above : {E : Type 0} (number : E → ℕ) (takes : E → Bool) (e : E) (xs : List E) → Above number (number e) xs
    → sooner number e (find takes xs) ≡ e
sooner_above number takes e [] above = refl
sooner_above number takes e (x ∷ xs) above = by (sooner_above number takes e xs above.1) (takes x)
  where
    by : sooner number e (find takes xs) ≡ e → (b : Bool) → sooner number e (if b then Some x else find takes xs) ≡ e
    by rest true = let low = above.0 in ap (λ c. if c then e else x) (le-leb (number e) (number x) low)
    by rest false = rest

find_put : {E : Type 0} (number : E → ℕ) (takes : E → Bool) (e : E) (xs : List E) → Ascends number xs
    → find takes (put_by number e xs) ≡ (if takes e then Some (sooner number e (find takes xs)) else find takes xs)
find_put number takes e [] h = refl
find_put number takes e (x ∷ xs) h =
    by (find_put number takes e xs h.1) (nat_le (number e) (number x)) refl
  where
    by : find takes (put_by number e xs) ≡ (if takes e then Some (sooner number e (find takes xs)) else find takes xs)
        → (b : Bool) → nat_le (number e) (number x) ≡ b
        → find takes (if b then e ∷ x ∷ xs else x ∷ put_by number e xs)
        ≡ (if takes e then Some (sooner number e (find takes (x ∷ xs))) else find takes (x ∷ xs))
    by rest true before =
        let low : number e ≤ number x = grind (arith, nat_tests) in
        ap (λ d. if takes e then Some d else find takes (x ∷ xs))
        (sym (sooner_above number takes e (x ∷ xs) (low, above_less number (number e) (number x) xs low h.0)))
    by rest false after = found (takes x)
      where
        picked : (u : Bool) → Some x ≡ (if u then Some (if nat_le (number e) (number x) then e else x) else Some x)
        picked true = ap (λ c. Some (if c then e else x)) (sym after)
        picked false = refl

        found : (t : Bool)
            → (if t then Some x else find takes (put_by number e xs))
            ≡ (if takes e then Some (sooner number e (if t then Some x else find takes xs)) else
            (if t then Some x else find takes xs))
        found true = picked (takes e)
        found false = rest

-- which entry is the first to take an argument, with one more entry in front
pub find_more : {E : Type 0} (number : E → ℕ) (takes : E → Bool) (es : List E) (i : ℕ) (d : E) → 0 < i → i ≤ length es
    → find takes (in_order number (drop (i - 1) es))
    ≡ (if takes (get_or es (i - 1) d) then Some
    (sooner number (get_or es (i - 1) d) (find takes (in_order number (drop i es)))) else find takes
    (in_order number (drop i es)))
find_more number takes es i d above within =
    let next : i - 1 + 1 ≡ i = omega arith in
    let e = get_or es (i - 1) d in
    ap (λ l. find takes (in_order number l)) (drop_more es (i - 1) d (omega arith))
    ∙ find_put number takes e (in_order number (drop (i - 1 + 1) es)) (ascends_order number (drop (i - 1 + 1) es))
    ∙ ap
    (λ j. if takes e then Some (sooner number e (find takes (in_order number (drop j es)))) else find takes
    (in_order number (drop j es)))
    next

-- the same of an entry that was read
pub find_read : {E : Type 0} (number : E → ℕ) (takes : E → Bool) (es : List E) (i : ℕ) (e : E) → 0 < i → i ≤ length es
    → e ≡ get_or es (i - 1) e
    → find takes (in_order number (drop (i - 1) es))
    ≡ (if takes e then Some (sooner number e (find takes (in_order number (drop i es)))) else find takes
    (in_order number (drop i es)))
find_read number takes es i e above within here =
    find_more number takes es i e above within
    ∙ ap
    (λ x. if takes x then Some (sooner number x (find takes (in_order number (drop i es)))) else find takes
    (in_order number (drop i es)))
    (sym here)

-- ---- what all entries have

-- an entry that is put in brings in itself alone
pub put_all : {E : Type 0} (P : E → Type 0) (number : E → ℕ) (e : E) (xs : List E) → P e → All P xs →
    All P (put_by number e xs)
put_all P number e [] here all = All-cons P e [] here all
put_all P number e (x ∷ xs) here all =
    by (nat_le (number e) (number x)) (put_all P number e xs here (All-tail P x xs all))
  where
    by : (b : Bool) → All P (put_by number e xs) → All P (if b then e ∷ x ∷ xs else x ∷ put_by number e xs)
    by true rest = All-cons P e (x ∷ xs) here all
    by false rest = All-cons P x (put_by number e xs) (All-head P x xs all) rest

pub ordered_all : {E : Type 0} (P : E → Type 0) (number : E → ℕ) (xs : List E) → All P xs → All P (in_order number xs)
ordered_all P number [] all = all
ordered_all P number (x ∷ xs) all =
    put_all P number x (in_order number xs) (All-head P x xs all) (ordered_all P number xs (All-tail P x xs all))
