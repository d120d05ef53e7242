-- Rows of marks: how many values are marked, and what a set line or a reflector makes of them.
use Rattle.std.proofs.Common.{◌≡◌, ℕ, ◌≤◌, ◌<◌, ◌==◌, ◌&&◌, ◌||◌, Bool, true, false, List, [], ◌∷◌}
use Rattle.std.proofs.Common.{length, refl, sym, if◌then◌else◌, arith}
use Rattle.std.proofs.lemmas.Bool.{eq-eqb, eqb-true}
use Rattle.ios_ast.specs.Deciding.{carries}
use Rattle.route_shapes.specs.Shapes.{marked, marks_with}
use Rattle.mw_text.specs.Members.{count}

-- there is a mark for each value as before
pub long_with : (ts values : List ℕ) (beside : Bool) (bs : List Bool) → length bs ≡ length ts →
    length (marks_with ts values beside bs) ≡ length ts
long_with [] values beside bs long = refl
long_with (t ∷ ts) values beside [] long = absurd (omega (arith, long))
long_with (t ∷ ts) values beside (b ∷ bs) long =
    let rest = long_with ts values beside bs (omega (arith, long)) in omega (arith, rest)

-- values that are put in beside those that were there take no mark away
pub count_beside : (ts values : List ℕ) (bs : List Bool) → length bs ≡ length ts →
    count bs ≤ count (marks_with ts values true bs)
count_beside [] values [] long = omega arith
count_beside [] values (b ∷ bs) long = absurd (omega (arith, long))
count_beside (t ∷ ts) values [] long = absurd (omega (arith, long))
count_beside (t ∷ ts) values (b ∷ bs) long = by (carries values t) b (count_beside ts values bs (omega (arith, long)))
  where
    by : (a b : Bool) → count bs ≤ count (marks_with ts values true bs) →
        count (b ∷ bs) ≤ count ((a || (true && b)) ∷ marks_with ts values true bs)
    by true true rest = omega (arith, rest)
    by true false rest = omega (arith, rest)
    by false true rest = omega (arith, rest)
    by false false rest = omega (arith, rest)

-- and a tracked value that was not there brings one more
pub count_more : (ts : List ℕ) (x : ℕ) (bs : List Bool) → length bs ≡ length ts → carries ts x ≡ true →
    marked ts bs x ≡ false → count bs < count (marks_with ts (x ∷ []) true bs)
count_more [] x bs long there not_yet = absurd cc
count_more (t ∷ ts) x [] long there not_yet = absurd (omega (arith, long))
count_more (t ∷ ts) x (b ∷ bs) long there not_yet =
    by (t == x) refl there not_yet
    (λ later unmarked. count_more ts x bs (omega (arith, long)) later unmarked)
  where
    here : (t == x) ≡ true → (x == t) ≡ true
    here e = eq-eqb x t (sym (eqb-true t x e))

    front : (a b : Bool) → a ≡ true → b ≡ false → count bs ≤ count (marks_with ts (x ∷ []) true bs) →
        count (b ∷ bs) < count (((a || false) || (true && b)) ∷ marks_with ts (x ∷ []) true bs)
    front true false is none rest = omega (arith, rest)
    front true true is none rest = absurd cc
    front false b is none rest = absurd cc

    behind : (a b : Bool) → count bs < count (marks_with ts (x ∷ []) true bs) →
        count (b ∷ bs) < count (((a || false) || (true && b)) ∷ marks_with ts (x ∷ []) true bs)
    behind true true rest = omega (arith, rest)
    behind true false rest = omega (arith, rest)
    behind false true rest = omega (arith, rest)
    behind false false rest = omega (arith, rest)

    by : (c : Bool) → (t == x) ≡ c → (c || carries ts x) ≡ true → (if c then b else marked ts bs x) ≡ false →
        (carries ts x ≡ true → marked ts bs x ≡ false → count bs < count (marks_with ts (x ∷ []) true bs)) →
        count (b ∷ bs) < count ((carries (x ∷ []) t || (true && b)) ∷ marks_with ts (x ∷ []) true bs)
    by true e there not_yet rest =
        front (x == t) b (here e) not_yet (count_beside ts (x ∷ []) bs (omega (arith, long)))
    by false e there not_yet rest = behind (x == t) b (rest there not_yet)
