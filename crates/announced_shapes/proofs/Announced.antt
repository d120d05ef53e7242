-- The shape of a path that may be announced is one of those that are rebuilt.
use Rattle.std.proofs.Common.{◌≡◌, ℕ, suc, ◌+◌, ◌-◌, ◌≤◌, Bool, true, false, not, ◌||◌, List, [], ◌∷◌}
use Rattle.std.proofs.Common.{length, map, refl, sym, ap, subst, arith, ◌∙◌, if◌then◌else◌, get_or}
use Rattle.std.proofs.Common.{le-leb}
use Rattle.std.specs.Prelude.{◌==◌, nat_lt, eqb}
use Rattle.std.specs.Cmp.{IsEquivalence}
use Rattle.std.specs.Set.{is_member}
use Rattle.std.proofs.lemmas.List.{length-map}
use Rattle.std.specs.Prelude.{All}
use Rattle.std.proofs.lemmas.List.Elements.{All-cons, All-head, All-nil, All-tail}
use Rattle.route_record.specs.Fits.{IsWord}
use Rattle.std.specs.List.{list_all, IsDistinct, AllByRecursion}
use Rattle.std.proofs.lemmas.Bool.{and_from, and_parts, eqb-true, eq-eqb}
use Rattle.std.proofs.lemmas.Bool.Decides.{nat_tests}
use Rattle.std.proofs.lemmas.Map.Made.{length-le_from_is_member}
use Rattle.ios_ast.specs.Deciding.{carries}
use Rattle.ios_ast.specs.Paths.{last_of}
use Rattle.net_parts.specs.World.{ascends, is_as_number}
use Rattle.net_parts.proofs.TrackedUp.{kept_ascends}
use Rattle.route_shapes.specs.Shapes.{PathShape}
use Rattle.announced_shapes.specs.Paths.{IsPathShape, taken, is_end, between}
use Rattle.announced_shapes.specs.Paths.{are_marked, ends_count}
use Rattle.announced_shapes.proofs.PathLaw.{carries-filter}
use Rattle.announced_shapes.proofs.PlainShape.{plain_shape}

-- ---- no two of some numbers are equal, and each stands in the other list: there are no more of them

number_laws : IsEquivalence eqb
number_laws = record {
  refl = λ x. eq-eqb x x refl;
  symm = λ x y. turned x y;
  congr = λ x y z h. ap (λ n. eqb n z) (eqb-true x y h);
} where
  turned : (x y : ℕ) → eqb x y ≡ eqb y x
  turned x y = grind (arith, nat_tests)

is_there : (xs : List ℕ) (x : ℕ) → is_member eqb xs x ≡ carries xs x
is_there [] x = refl
is_there (y ∷ ys) x =
    let here = number_laws.symm x y in
    let rest = is_there ys x in ap (λ b. b || is_member eqb ys x) here ∙ ap (λ b. (y == x) || b) rest

differ : (t : ℕ) (ts : List ℕ) → list_all (nat_lt t) ts ≡ true → AllByRecursion (λ y. eqb t y ≡ false) ts
differ t [] above = tt
differ t (u ∷ us) above =
    let both = and_parts (nat_lt t u) (list_all (nat_lt t) us) above in (apart t u both.0, differ t us both.1)
  where
    apart : (a b : ℕ) → nat_lt a b ≡ true → eqb a b ≡ false
    apart a b h = grind (arith, nat_tests)

pub distinct : (ts : List ℕ) → ascends ts ≡ true → IsDistinct eqb ts
unfolding IsDistinct
distinct [] up = tt
distinct (t ∷ ts) up =
    let both = and_parts (list_all (nat_lt t) ts) (ascends ts) up in (differ t ts both.0, distinct ts both.1)

pub no_more : (xs ys : List ℕ) → ascends xs ≡ true → ((q : ℕ) → carries xs q ≡ true → carries ys q ≡ true) →
    length xs ≤ length ys
no_more xs ys up inside =
    length-le_from_is_member number_laws xs ys (distinct xs up)
    (λ q h. is_there ys q ∙ inside q (sym (is_there xs q) ∙ h))

-- ---- the taken ones ascend

all_taken : (p : ℕ → Bool) (ts : List ℕ) (bs : List Bool) → list_all p ts ≡ true → list_all p (taken ts bs) ≡ true
all_taken p [] bs all = refl
all_taken p (t ∷ ts) [] all = refl
all_taken p (t ∷ ts) (true ∷ bs) all =
    let both = and_parts (p t) (list_all p ts) all in and_from _ _ both.0 (all_taken p ts bs both.1)
all_taken p (t ∷ ts) (false ∷ bs) all = all_taken p ts bs (and_parts (p t) (list_all p ts) all).1

pub taken_ascends : (ts : List ℕ) (bs : List Bool) → ascends ts ≡ true → ascends (taken ts bs) ≡ true
taken_ascends [] bs up = refl
taken_ascends (t ∷ ts) [] up = refl
taken_ascends (t ∷ ts) (true ∷ bs) up =
    let both = and_parts (list_all (nat_lt t) ts) (ascends ts) up in
    and_from _ _ (all_taken (nat_lt t) ts bs both.0) (taken_ascends ts bs both.1)
taken_ascends (t ∷ ts) (false ∷ bs) up = taken_ascends ts bs (and_parts (list_all (nat_lt t) ts) (ascends ts) up).1

-- ---- marks of a path

marks_are : (is f : ℕ → Bool) (ts : List ℕ) → ((t : ℕ) → is t ≡ true → f t ≡ true) → are_marked is ts (map f ts) ≡ true
marks_are is f [] h = refl
marks_are is f (t ∷ ts) h = and_from _ _ (by (is t) refl) (marks_are is f ts h) where
  by : (b : Bool) → is t ≡ b → (not b || f t) ≡ true
  by true e = h t e
  by false e = refl

-- each taken value stands in the path
taken_there : (path ts : List ℕ) (q : ℕ) → carries (taken ts (map (carries path) ts)) q ≡ true → carries path q ≡ true
taken_there path [] q h = absurd (cc)
taken_there path (t ∷ ts) q h = by (carries path t) refl (taken_there path ts q) h where
  by : (b : Bool) → carries path t ≡ b →
      (carries (taken ts (map (carries path) ts)) q ≡ true → carries path q ≡ true) →
      carries (if b then t ∷ taken ts (map (carries path) ts) else taken ts (map (carries path) ts)) q ≡ true →
      carries path q ≡ true
  by true e rest there = one (t == q) refl there where
    one : (c : Bool) → (t == q) ≡ c → (c || carries (taken ts (map (carries path) ts)) q) ≡ true → carries path q ≡ true
    one true same there = subst (λ n. carries path n ≡ true) (eqb-true t q same) e
    one false same there = rest there
  by false e rest there = rest there

all_there : (p : ℕ → Bool) (path : List ℕ) (q : ℕ) → list_all p path ≡ true → carries path q ≡ true → p q ≡ true
all_there p [] q all there = absurd (cc)
all_there p (x ∷ xs) q all there = by (x == q) refl there (all_there p xs q) where
  by : (b : Bool) → (x == q) ≡ b → (b || carries xs q) ≡ true →
      (list_all p xs ≡ true → carries xs q ≡ true → p q ≡ true) → p q ≡ true
  by true e there rest = subst (λ n. p n ≡ true) (eqb-true x q e) (and_parts (p x) (list_all p xs) all).0
  by false e there rest = rest (and_parts (p x) (list_all p xs) all).1 there

from_each : (p : ℕ → Bool) (xs : List ℕ) → ((q : ℕ) → carries xs q ≡ true → p q ≡ true) → list_all p xs ≡ true
from_each p [] h = refl
from_each p (x ∷ xs) h =
    and_from _ _ (h x (ap (λ b. b || carries xs x) (eq-eqb x x refl)))
    (from_each p xs (λ q there. h q (ap (λ b. (x == q) || b) there ∙ or_true (x == q))))
  where
    or_true : (b : Bool) → (b || true) ≡ true
    or_true true = refl
    or_true false = refl

-- ---- the numbers between the ends of a path

-- all but the last
inner : List ℕ → List ℕ
inner [] = []
inner (x ∷ []) = []
inner (x ∷ y ∷ ys) = x ∷ inner (y ∷ ys)

length-inner : (x : ℕ) (xs : List ℕ) → length (inner (x ∷ xs)) ≡ length xs
unfolding inner
length-inner x [] = refl
length-inner x (y ∷ ys) = ap suc (length-inner y ys)

last-more : (x y : ℕ) (ys : List ℕ) → last_of (x ∷ y ∷ ys) ≡ last_of (y ∷ ys)
last-more x y ys =
    let outer : suc (suc (length ys)) - 1 ≡ suc (length ys) = omega arith in
    let here : suc (length ys) - 1 ≡ length ys = omega arith in
    ap (λ k. get_or (x ∷ y ∷ ys) k 0) outer ∙ sym (ap (λ k. get_or (y ∷ ys) k 0) here)

not_both : (b : Bool) → b ≡ false → b ≡ true → (false ≡ true)
not_both b off on = cc

-- what stands in a list and is not its last stands in all but the last
inside : (x : ℕ) (xs : List ℕ) (q : ℕ) → (last_of (x ∷ xs) == q) ≡ false → carries (x ∷ xs) q ≡ true →
    carries (inner (x ∷ xs)) q ≡ true
unfolding inner
inside x [] q other there = absurd (let no = not_both ((x == q) || false) (ap (λ b. b || false) other) there in cc)
inside x (y ∷ ys) q other there =
    by (x == q) refl there (inside y ys q (ap (λ n. n == q) (sym (last-more x y ys)) ∙ other))
  where
    by : (b : Bool) → (x == q) ≡ b → (b || carries (y ∷ ys) q) ≡ true →
        (carries (y ∷ ys) q ≡ true → carries (inner (y ∷ ys)) q ≡ true) →
        ((x == q) || carries (inner (y ∷ ys)) q) ≡ true
    by true e there rest = ap (λ b. b || carries (inner (y ∷ ys)) q) e
    by false e there rest = ap (λ b. b || carries (inner (y ∷ ys)) q) e ∙ rest there

last_there : (x : ℕ) (xs : List ℕ) (q : ℕ) → (last_of (x ∷ xs) == q) ≡ true → carries (x ∷ xs) q ≡ true
last_there x [] q same = ap (λ b. b || false) same
last_there x (y ∷ ys) q same =
    by (x == q) (last_there y ys q (ap (λ n. n == q) (sym (last-more x y ys)) ∙ same))
  where
    by : (b : Bool) → carries (y ∷ ys) q ≡ true → (b || carries (y ∷ ys) q) ≡ true
    by true there = refl
    by false there = there

last_one : (p : ℕ → Bool) (x : ℕ) (xs : List ℕ) → list_all p (x ∷ xs) ≡ true → p (last_of (x ∷ xs)) ≡ true
last_one p x xs all = all_there p (x ∷ xs) (last_of (x ∷ xs)) all
    (last_there x xs (last_of (x ∷ xs)) (eq-eqb (last_of (x ∷ xs)) (last_of (x ∷ xs)) refl))

or_cases : (a b : Bool) (C : Type 0) → (a || b) ≡ true → (a ≡ true → C) → (b ≡ true → C) → C
or_cases true b C h f g = f refl
or_cases false b C h f g = g h

neither : (a b : Bool) → not (a || b) ≡ true → (a ≡ false) × (b ≡ false)
neither true b h = absurd (cc)
neither false true h = absurd (cc)
neither false false h = (refl, refl)

shape : List ℕ → ℕ → List ℕ → PathShape
shape tracked x xs = plain_shape tracked (x ∷ xs)

-- what is marked between the ends stands between them
between_inside : (tracked : List ℕ) (x : ℕ) (xs : List ℕ) (q : ℕ) →
    carries (between tracked (plain_shape tracked (x ∷ xs))) q ≡ true → carries (inner xs) q ≡ true
between_inside tracked x xs q there =
    let s : PathShape = plain_shape tracked (x ∷ xs) in
    let parts = and_parts (not (is_end s q)) (carries (taken tracked s.numbers) q)
    (sym (carries-filter (λ t. not (is_end s t)) (taken tracked s.numbers) q) ∙ there) in
    let apart = neither (x == q) (last_of (x ∷ xs) == q) parts.0 in
    let held = taken_there (x ∷ xs) tracked q parts.1 in
    let behind : carries xs q ≡ true = ap (λ b. b || carries xs q) (sym apart.0) ∙ held in
    by xs apart.1 behind
  where
    by : (ys : List ℕ) → (last_of (x ∷ ys) == q) ≡ false → carries ys q ≡ true → carries (inner ys) q ≡ true
    by [] other there = absurd (cc)
    by (y ∷ ys) other there = inside y ys q (ap (λ n. n == q) (sym (last-more x y ys)) ∙ other) there

between_ascends : (tracked : List ℕ) (s : PathShape) → ascends tracked ≡ true → ascends (between tracked s) ≡ true
between_ascends tracked s up =
    kept_ascends (λ t. not (is_end s t)) (taken tracked s.numbers) (taken_ascends tracked s.numbers up)

not_one : (n : ℕ) → (suc (suc n) == 1) ≡ false
not_one n = grind (arith, nat_tests)

positive : (n : ℕ) → nat_lt 0 (suc n) ≡ true
positive n = grind (arith, nat_tests)

abbrev ends_by : Bool → ℕ
ends_by b = if b then 1 else 2

ends_fit : (tracked : List ℕ) (x : ℕ) (xs : List ℕ) → ascends tracked ≡ true →
    length (between tracked (plain_shape tracked (x ∷ xs))) + ends_count (plain_shape tracked (x ∷ xs))
    ≤ suc (length xs)
unfolding inner
ends_fit tracked x xs up =
    let few = no_more (between tracked (plain_shape tracked (x ∷ xs))) (inner xs)
    (between_ascends tracked (plain_shape tracked (x ∷ xs)) up) (between_inside tracked x xs) in by xs few
  where
    by : (ys : List ℕ) → length (between tracked (plain_shape tracked (x ∷ xs))) ≤ length (inner ys) →
        length (between tracked (plain_shape tracked (x ∷ xs))) + (if suc (length ys) == 1 then 1 else 2)
        ≤ suc (length ys)
    by [] few = omega (arith, few)
    by (y ∷ ys) few =
        let two = ap ends_by (not_one (length ys)) in omega (arith, few, length-inner y ys, two)

-- the shape of what the peer of that AS may announce
pub announced_path : (asn : ℕ) (tracked rest : List ℕ) → ascends tracked ≡ true →
    length (asn ∷ rest) ≤ 255 → list_all is_as_number (asn ∷ rest) ≡ true →
    IsPathShape asn tracked (plain_shape tracked (asn ∷ rest))
announced_path asn tracked rest up short all = record {
  marks = length-map tracked (carries (asn ∷ rest));
  known = (and_parts (is_as_number asn) (list_all is_as_number rest) all).0;
  some = positive (length rest);
  short = le-leb _ _ short;
  first = eq-eqb asn asn refl;
  last = last_one is_as_number asn rest all;
  single = single rest;
  ends = marks_are (is_end (plain_shape tracked (asn ∷ rest))) (carries (asn ∷ rest)) tracked
      (λ t h. or_cases (asn == t) (last_of (asn ∷ rest) == t) (carries (asn ∷ rest) t ≡ true) h
      (λ same. ap (λ b. b || carries rest t) same) (last_there asn rest t));
  others = from_each is_as_number (taken tracked (map (carries (asn ∷ rest)) tracked))
      (λ q there. all_there is_as_number (asn ∷ rest) q all (taken_there (asn ∷ rest) tracked q there));
  room = le-leb _ _ (ends_fit tracked asn rest up);
} where
  single : (xs : List ℕ) → (not (suc (length xs) == 1) || (asn == last_of (asn ∷ xs))) ≡ true
  single [] = eq-eqb asn asn refl
  single (x ∷ xs) = ap (λ b. not b || (asn == last_of (asn ∷ x ∷ xs))) (not_one (length xs))

-- ---- communities

-- what holds of all items holds of one that stands there
of_item : (P : ℕ → Type 0) (xs : List ℕ) (t : ℕ) → All P xs → carries xs t ≡ true → P t
of_item P [] t all there = absurd cc
of_item P (x ∷ xs) t all there = by (x == t) refl there (of_item P xs t (All-tail P x xs all)) where
  by : (b : Bool) → (x == t) ≡ b → (b || carries xs t) ≡ true → (carries xs t ≡ true → P t) → P t
  by true same there rest = subst P (eqb-true x t same) (All-head P x xs all)
  by false same there rest = rest there

-- the tracked values that stand in a list are as its items are
pub taken_words : (held ts : List ℕ) → All IsWord held → All IsWord (taken ts (map (carries held) ts))
taken_words held [] fit = All-nil IsWord
taken_words held (t ∷ ts) fit = by (carries held t) refl (taken_words held ts fit) where
  by : (b : Bool) → carries held t ≡ b → All IsWord (taken ts (map (carries held) ts)) →
      All IsWord (if b then t ∷ taken ts (map (carries held) ts) else taken ts (map (carries held) ts))
  by false there rest = rest
  by true there rest =
      All-cons IsWord t (taken ts (map (carries held) ts)) (of_item IsWord held t fit there) rest
