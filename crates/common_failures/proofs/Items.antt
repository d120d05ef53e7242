-- Items of lists that are mapped, filtered or joined, and how each stands to the later ones.
use Rattle.std.proofs.Common.{◌≡◌, ◌∙◌, ℕ, zero, suc, ◌<◌, Bool, true, false, cond, List, [], ◌∷◌, ◌++◌, Contains}
use Rattle.std.proofs.Common.{ap, arith, get_or, length, map, refl, sym}
use Rattle.std.specs.Prelude.{All, AllPairs, filter, nat_lt}
use Rattle.std.specs.List.{list_all}
use Rattle.std.proofs.lemmas.Bool.{and_parts, ltb-true}
use Rattle.std.proofs.lemmas.List.{get_or-map, length-map}
use Rattle.std.proofs.lemmas.List.Elements.{All-append, All-cons, All-contains, All-contains_itself, All-filter}
use Rattle.std.proofs.lemmas.List.Elements.{All-head, All-nil, All-tail, All-weaker, Contains-get_or}
use Rattle.std.proofs.lemmas.List.Elements.{filter_passes}
use Rattle.std.proofs.lemmas.List.Kept.{AllPairs-cons}
use Rattle.net_interfaces.proofs.Pairs.{first, later}
use Rattle.net_parts.specs.World.{ascends}

-- ---- one item

-- what a mapped list has is the image of an item
pub from_map : {X : Type 0} (f : ℕ → X) (xs : List ℕ) (y : X) → Contains (map f xs) y →
    (x : ℕ) × Contains xs x × (f x ≡ y)
from_map f xs y (k, within, is) =
    let inside : k < length xs = omega (arith, length-map xs f, within) in
    (get_or xs k 0, Contains-get_or xs k 0 inside, sym (get_or-map f xs k 0 y inside) ∙ is)

-- and it has that of each
pub to_map : {X : Type 0} (f : ℕ → X) (xs : List ℕ) (x : ℕ) → Contains xs x → Contains (map f xs) (f x)
to_map f xs x (k, within, is) =
    (k, omega (arith, length-map xs f, within), get_or-map f xs k x (f x) within ∙ ap f is)

-- what is kept of a list is an item of it that passes
pub from_filter : {X : Type 0} (p : X → Bool) (xs : List X) (x : X) → Contains (filter p xs) x →
    Contains xs x × (p x ≡ true)
from_filter p xs x there = (
  All-contains (Contains xs) (filter p xs) x (All-filter p (Contains xs) xs (All-contains_itself xs)) there,
  All-contains (λ y. p y ≡ true) (filter p xs) x (filter_passes p xs) there,
)

-- and each that passes is kept
pub to_filter : {X : Type 0} (p : X → Bool) (xs : List X) (x : X) → Contains xs x → p x ≡ true →
    Contains (filter p xs) x
to_filter p [] x (k, within, is) passes = absurd (omega (arith, within))
to_filter p (y ∷ ys) x (zero, within, is) passes = rw (ap p is ∙ passes) (0, omega arith, is)
to_filter {X} p (y ∷ ys) x (suc k, within, is) passes =
    by (p y) (to_filter p ys x (k, omega (arith, within), is) passes)
  where
    by : (b : Bool) → Contains (filter p ys) x → Contains (cond b (y ∷ filter p ys) (filter p ys)) x
    by true (n, inside, there) = (suc n, omega (arith, inside), there)
    by false there = there

behind : {X : Type 0} (x : X) (xs : List X) (y : X) → Contains xs y → Contains (x ∷ xs) y
behind x xs y (k, within, is) = (suc k, omega (arith, within), is)

-- ---- each item and each later one

-- of two lists joined
pub pairs_append : {X : Type 0} (R : X → X → Type 0) (xs ys : List X) → AllPairs R xs → AllPairs R ys →
    ((x y : X) → Contains xs x → Contains ys y → R x y) → AllPairs R (xs ++ ys)
pairs_append R [] ys one other across = other
pairs_append R (x ∷ xs) ys one other across =
    AllPairs-cons R x (xs ++ ys)
    (All-append (R x) xs ys (first R x xs one)
    (All-weaker (Contains ys) (R x) (λ y there. across x y (0, omega arith, refl) there) ys (All-contains_itself ys)))
    (pairs_append R xs ys (later R x xs one) other (λ z y here there. across z y (behind x xs z here) there))

-- of numbers below n, one below another
abbrev pub IsBelow : ℕ → ℕ → ℕ → Type 0
IsBelow n a b = (a < b) × (b < n)

all_above : (n x : ℕ) (xs : List ℕ) → list_all (nat_lt x) xs ≡ true → All (λ y. y < n) xs → All (IsBelow n x) xs
all_above n x [] above within = All-nil (IsBelow n x)
all_above n x (y ∷ ys) above within =
    let both = and_parts (nat_lt x y) (list_all (nat_lt x) ys) above in
    All-cons (IsBelow n x) y ys (ltb-true x y both.0, All-head (λ z. z < n) y ys within)
    (all_above n x ys both.1 (All-tail (λ z. z < n) y ys within))

-- numbers that ascend
pub ascending : (n : ℕ) (xs : List ℕ) → ascends xs ≡ true → All (λ x. x < n) xs → AllPairs (IsBelow n) xs
ascending n [] up within = λ i j d below inside. absurd (omega (arith, inside))
ascending n (x ∷ xs) up within =
    let both = and_parts (list_all (nat_lt x) xs) (ascends xs) up in
    let rest = All-tail (λ y. y < n) x xs within in
    AllPairs-cons (IsBelow n) x xs (all_above n x xs both.0 rest) (ascending n xs both.1 rest)
