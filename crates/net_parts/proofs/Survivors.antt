-- The decision process leaves some candidate where there is one.
use Rattle.std.proofs.Common.{◌≡◌, ◌≢◌, ◌∙◌, ℕ, Bool, true, false, ◌||◌, not, List, [], ◌∷◌, refl, sym, ap, arith}
use Rattle.std.proofs.Common.{inl, inr, fold, if◌then◌else◌}
use Rattle.std.specs.Prelude.{◌==◌, ◌&&◌, filter, nat_lt}
use Rattle.std.specs.List.{list_any}
use Rattle.std.proofs.lemmas.Bool.{cases_Bool}
use Rattle.std.proofs.lemmas.Bool.Decides.{nat_tests}
use Rattle.net_parts.specs.declared.steps.Step.{Step}
use Rattle.net_parts.specs.declared.steps.Step.TheVariants.{Weight, Preference, Origination, PathLength, Origin, Med}
use Rattle.net_parts.specs.declared.steps.Step.TheVariants.{Session, Cost, Identifier, Clusters, Address}
use Rattle.net_parts.specs.Decisions.{Candidate, Key, after_cost, is_compared_by, key_of, removes, step_by}
use Rattle.net_parts.specs.Decisions.{survivors, survivors_by, to_cost}

-- ---- a test that passes for fewer

fewer : {X : Type 0} (p q : X → Bool) → ((x : X) → p x ≡ true → q x ≡ true) → (xs : List X) →
    list_any q xs ≡ false → list_any p xs ≡ false
fewer p q so [] none = refl
fewer p q so (x ∷ xs) none = elim (cases_Bool (p x)) [
  | inl is ↦ let there = so x is in cc
  | inr not_so ↦ elim (cases_Bool (q x)) [
    | inl is ↦ cc
    | inr fails ↦
        let rest : list_any q xs ≡ false = sym (ap (λ b. b || list_any q xs) fails) ∙ none in
        ap (λ b. b || list_any p xs) not_so ∙ fewer p q so xs rest
  ]
]

-- ---- one that none of the others removes

-- the second of two removes the first: none removes itself, and what removes one that removes a third removes that
record Removes {X : Type 0} (r : X → X → Bool) : Type 0 where
  irreflexive : (x : X) → r x x ≡ false
  transitive : (x y z : X) → r x y ≡ true → r y z ≡ true → r x z ≡ true

-- x, or some of these, stays beside x, where some of them stays without it
stays_too : {X : Type 0} (r : X → X → Bool) → Removes r → (x : X) (xs ys : List X) →
    list_any (λ m. not (list_any (r m) xs)) ys ≡ true →
    (not (list_any (r x) (x ∷ xs)) || list_any (λ m. not (list_any (r m) (x ∷ xs))) ys) ≡ true
stays_too r is x xs [] some = cc
stays_too r is x xs (m ∷ ys) some = elim (cases_Bool (list_any (r m) xs)) [
  | inl removed ↦
      let rest : list_any (λ k. not (list_any (r k) xs)) ys ≡ true =
      sym (ap (λ b. not b || list_any (λ k. not (list_any (r k) xs)) ys) removed) ∙ some in
      more (not (list_any (r x) (x ∷ xs))) (not (list_any (r m) (x ∷ xs)))
      (list_any (λ k. not (list_any (r k) (x ∷ xs))) ys) (stays_too r is x xs ys rest)
  | inr left ↦ elim (cases_Bool (r m x)) [
    | inl by_x ↦
        let others = fewer (r x) (r m) (λ z so. is.transitive m x z by_x so) xs left in
        let none : list_any (r x) (x ∷ xs) ≡ false = ap (λ b. b || list_any (r x) xs) (is.irreflexive x) ∙ others in
        ap (λ b. not b || list_any (λ k. not (list_any (r k) (x ∷ xs))) (m ∷ ys)) none
    | inr not_by_x ↦
        let none : list_any (r m) (x ∷ xs) ≡ false = ap (λ b. b || list_any (r m) xs) not_by_x ∙ left in
        second (not (list_any (r x) (x ∷ xs))) (not (list_any (r m) (x ∷ xs)))
        (list_any (λ k. not (list_any (r k) (x ∷ xs))) ys) (ap not none)
  ]
]
  where
    more : (a b c : Bool) → (a || c) ≡ true → (a || (b || c)) ≡ true
    more true b c h = refl
    more false true c h = refl
    more false false c h = h

    second : (a b c : Bool) → b ≡ true → (a || (b || c)) ≡ true
    second true b c h = refl
    second false true c h = refl
    second false false c h = cc

one_stays : {X : Type 0} (r : X → X → Bool) → Removes r → (x : X) (xs : List X) →
    list_any (λ m. not (list_any (r m) (x ∷ xs))) (x ∷ xs) ≡ true
one_stays r is x [] = ap (λ b. not (b || false) || false) (is.irreflexive x)
one_stays r is x (y ∷ ys) = stays_too r is x (y ∷ ys) (y ∷ ys) (one_stays r is y ys)

-- where a test passes for some, some are left by it
some_left : {X : Type 0} (p : X → Bool) (xs : List X) → list_any p xs ≡ true → filter p xs ≢ []
some_left p [] some = cc
some_left p (x ∷ xs) some = elim (cases_Bool (p x)) [
  | inl is ↦ λ none. let e : filter p (x ∷ xs) ≡ x ∷ filter p xs = rw is refl in cc
  | inr not_so ↦ λ none.
      let e : filter p (x ∷ xs) ≡ filter p xs = rw not_so refl in
      some_left p xs (sym (ap (λ b. b || list_any p xs) not_so) ∙ some) (sym e ∙ none)
]

-- ---- the steps

-- the lesser of two numbers removes the other
lesser : {X : Type 0} (n : X → ℕ) → Removes (λ c other. nat_lt (n other) (n c))
lesser n = record {
  irreflexive = λ x. alone (n x);
  transitive = λ x y z a b. along (n x) (n y) (n z) a b;
}
  where
    alone : (k : ℕ) → nat_lt k k ≡ false
    alone k = grind (arith, nat_tests)

    along : (k l m : ℕ) → nat_lt l k ≡ true → nat_lt m l ≡ true → nat_lt m k ≡ true
    along k l m a b = grind (arith, nat_tests)

-- the greater
greater : {X : Type 0} (n : X → ℕ) → Removes (λ c other. nat_lt (n c) (n other))
greater n = record {
  irreflexive = λ x. alone (n x);
  transitive = λ x y z a b. along (n x) (n y) (n z) a b;
}
  where
    alone : (k : ℕ) → nat_lt k k ≡ false
    alone k = grind (arith, nat_tests)

    along : (k l m : ℕ) → nat_lt k l ≡ true → nat_lt l m ≡ true → nat_lt k m ≡ true
    along k l m a b = grind (arith, nat_tests)

-- what has a mark removes what has none
marked : {X : Type 0} (b : X → Bool) → Removes (λ c other. not (b c) && b other)
marked b = record {
  irreflexive = λ x. alone (b x);
  transitive = λ x y z one two. never (b x) (b y) (b z) one two;
}
  where
    alone : (b : Bool) → (not b && b) ≡ false
    alone true = refl
    alone false = refl

    never : (a b c : Bool) → (not a && b) ≡ true → (not b && c) ≡ true → (not a && c) ≡ true
    never true b c one two = cc
    never false true c one two = cc
    never false false c one two = cc

-- the lesser MED, within one neighbouring AS or across all
by_med : (always : Bool) → Removes (λ (c other : Key). (always || (c.first == other.first)) && nat_lt other.med c.med)
by_med always = record {
  irreflexive = λ x. alone always x.first x.med;
  transitive = λ x y z a b. along always x.first y.first z.first x.med y.med z.med a b;
}
  where
    alone : (always : Bool) (f m : ℕ) → ((always || (f == f)) && nat_lt m m) ≡ false
    alone true f m = grind (arith, nat_tests)
    alone false f m = grind (arith, nat_tests)

    along : (always : Bool) (f g h k l m : ℕ) → ((always || (f == g)) && nat_lt l k) ≡ true →
        ((always || (g == h)) && nat_lt m l) ≡ true → ((always || (f == h)) && nat_lt m k) ≡ true
    along true f g h k l m a b = grind (arith, nat_tests)
    along false f g h k l m a b = grind (arith, nat_tests)

step_removes : (always : Bool) (s : Step) → Removes (removes always s)
step_removes always Weight = greater (λ (k : Key). k.weight)
step_removes always Preference = greater (λ (k : Key). k.local_pref)
step_removes always Origination = marked (λ (k : Key). k.local)
step_removes always PathLength = lesser (λ (k : Key). k.len)
step_removes always Origin = lesser (λ (k : Key). k.origin)
step_removes always Med = by_med always
step_removes always Session = marked (λ (k : Key). k.external)
step_removes always Cost = lesser (λ (k : Key). k.cost)
step_removes always Identifier = lesser (λ (k : Key). k.id)
step_removes always Clusters = lesser (λ (k : Key). k.clusters)
step_removes always Address = lesser (λ (k : Key). k.address)

-- so it is over things that have keys
by_key : {X : Type 0} (key : X → Key) (r : Key → Key → Bool) → Removes r → Removes (λ c other. r (key c) (key other))
by_key key r is = record {
  irreflexive = λ x. is.irreflexive (key x);
  transitive = λ x y z a b. is.transitive (key x) (key y) (key z) a b;
}

step_leaves : {X : Type 0} (key : X → Key) (always : Bool) (s : Step) (xs : List X) → xs ≢ [] →
    step_by key always xs s ≢ []
step_leaves key always s [] some = absurd (some refl)
step_leaves key always s (x ∷ xs) some =
    some_left (λ c. not (list_any (λ other. removes always s (key c) (key other)) (x ∷ xs))) (x ∷ xs)
    (one_stays (λ c other. removes always s (key c) (key other))
    (by_key key (removes always s) (step_removes always s)) x xs)

steps_leave : {X : Type 0} (key : X → Key) (always : Bool) (steps : List Step) (xs : List X) → xs ≢ [] →
    fold (step_by key always) xs steps ≢ []
steps_leave key always [] xs some = some
steps_leave key always (s ∷ steps) xs some =
    steps_leave key always steps (step_by key always xs s) (step_leaves key always s xs some)

by_age : {X : Type 0} (key : X → Key) (always : Bool) (left : List X) (b : Bool) → left ≢ [] →
    (if b then fold (step_by key always) left after_cost else left) ≢ []
by_age key always left true there = steps_leave key always after_cost left there
by_age key always left false there = there

-- all steps leave some, with and without the age rule
pub survivors_leave : {X : Type 0} (key : X → Key) (always compare_id : Bool) (xs : List X) → xs ≢ [] →
    survivors_by key always compare_id xs ≢ []
survivors_leave key always compare_id xs some =
    by_age key always (fold (step_by key always) xs to_cost)
    (is_compared_by key compare_id (fold (step_by key always) xs to_cost)) (steps_leave key always to_cost xs some)

-- of the candidates
pub some_survive : (always compare_id : Bool) (candidates : List Candidate) → candidates ≢ [] →
    survivors always compare_id candidates ≢ []
unfolding survivors
some_survive always compare_id candidates some = survivors_leave key_of always compare_id candidates some
