-- Lengths and places, one after another; and what stands at a place.
use Rattle.std.proofs.Common.{◌≡◌, ℕ, zero, suc, ◌+◌, ◌*◌, ◌^◌, ◌<◌, ◌≤◌, Bool, true, false, not, List, [], ◌∷◌, ◌++◌, length, map}
use Rattle.std.proofs.Common.{Option, Some, None, inl, inr, refl, sym, ap, ap₂, arith, add-one, append-nil, ◌∙◌}
use Rattle.std.proofs.Common.{length-append}
use Rattle.std.proofs.Common.{slice_get, nat_lt}
use Rattle.std.specs.Prelude.{◌⊎◌, ◌==◌, ◌&&◌, cond, option_and_then, option_map, position, if◌then◌else◌}
use Rattle.std.specs.List.{position_or_len}
use Rattle.std.proofs.lemmas.Bool.{cases_lt, eq-eqb, le-ltb, lt-ltb, ne_eqb}
use Rattle.std.proofs.lemmas.List.{length-map}
use Rattle.std.proofs.lemmas.Nat.{mul-le}
use Rattle.std.proofs.lemmas.Option.{slice_get_past}
use Rattle.std.proofs.Math.Nat.{suc-mul}
use Rattle.route_record.specs.declared.Plan.{Plan}
use Rattle.route_record.specs.declared.TheConstants.{LENGTHS}
use Rattle.plan_places.specs.declared.places.Place.{Place}
use Rattle.plan_places.specs.Places.{is_at, item_at, place, places_below}
use Rattle.plan_places.specs.Plans.{has_slice, lens_below, lens_of, numbers_below}

-- ---- one length more

pub lens_with : (plan : Plan) (len : ℕ) → has_slice plan len ≡ true →
    lens_below plan len ++ len ∷ [] ≡ lens_below plan (len + 1)
unfolding lens_below
lens_with plan len some =
    ap (λ b. lens_below plan len ++ (if b then len ∷ [] else [])) (sym some) ∙ ap (lens_below plan) (sym (add-one len))

pub lens_without : (plan : Plan) (len : ℕ) → has_slice plan len ≡ false →
    lens_below plan len ≡ lens_below plan (len + 1)
unfolding lens_below
lens_without plan len none =
    sym (append-nil (lens_below plan len))
    ∙ ap (λ b. lens_below plan len ++ (if b then len ∷ [] else [])) (sym none)
    ∙ ap (lens_below plan) (sym (add-one len))

pub lens_none : (plan : Plan) → lens_below plan 0 ≡ []
unfolding lens_below
lens_none plan = refl

-- ---- one number more

pub numbers_more : (n : ℕ) → numbers_below n ++ n ∷ [] ≡ numbers_below (n + 1)
unfolding numbers_below
numbers_more n = ap numbers_below (sym (add-one n))

pub numbers_none : numbers_below 0 ≡ []
unfolding numbers_below
numbers_none = refl

-- ---- one router more

pub places_more : (lens : List ℕ) (router : ℕ) →
    places_below lens router ++ map (place router) lens ≡ places_below lens (router + 1)
unfolding places_below
places_more lens router = ap (places_below lens) (sym (add-one router))

pub places_none : (lens : List ℕ) → places_below lens 0 ≡ []
unfolding places_below
places_none lens = refl

-- ---- the first that passes a test

position-cons : {X : Type 0} (t : X → Bool) (x : X) (xs : List X) →
    position t (x ∷ xs) ≡ (if t x then Some 0 else option_map suc (position t xs))
position-cons t x xs = by (t x) where
  many : ℕ
  many = position_or_len (λ y. t y) xs

  by_count : (many < length xs) ⊎ (length xs ≤ many) →
      cond (nat_lt (1 + many) (suc (length xs))) (Some (1 + many)) None
      ≡ option_map suc (cond (nat_lt many (length xs)) (Some many) None)
  by_count (inl less) =
      let next : 1 + many ≡ suc many = omega arith in
      ap (λ b. cond b (Some (1 + many)) None) (lt-ltb (1 + many) (suc (length xs)) (omega (arith, less)))
      ∙ ap Some next ∙ ap (λ b. option_map suc (cond b (Some many) None)) (sym (lt-ltb many (length xs) less))
  by_count (inr past) =
      ap (λ b. cond b (Some (1 + many)) None) (le-ltb (1 + many) (suc (length xs)) (omega (arith, past)))
      ∙ ap (λ b. option_map suc (cond b (Some many) None)) (sym (le-ltb many (length xs) past))

  by : (b : Bool) →
      cond (nat_lt (cond (not b) (1 + many) 0) (suc (length xs))) (Some (cond (not b) (1 + many) 0)) None
      ≡ (if b then Some 0 else option_map suc (cond (nat_lt many (length xs)) (Some many) None))
  by true = ap (λ b. cond b (Some 0) None) (lt-ltb 0 (suc (length xs)) (omega arith))
  by false = by_count (cases_lt many (length xs))

-- ---- what stands at a place is what stands where the place is found

pub item_is : {X : Type 0} (ps : List Place) (xs : List X) (router len : ℕ) →
    option_and_then (slice_get xs) (position (is_at router len) ps) ≡ item_at ps xs router len
unfolding item_at
item_is [] xs router len = refl
item_is {X} (p ∷ ps) [] router len = by (position (is_at router len) (p ∷ ps)) where
  nothing : List X
  nothing = []

  by : (o : Option ℕ) → option_and_then (slice_get nothing) o ≡ None
  by None = refl
  by (Some k) = refl
item_is {X} (p ∷ ps) (x ∷ xs) router len =
    ap (option_and_then (slice_get (x ∷ xs))) (position-cons (is_at router len) p ps)
    ∙ by (is_at router len p) (position (is_at router len) ps) (item_is ps xs router len)
  where
    by : (b : Bool) (o : Option ℕ) → option_and_then (slice_get xs) o ≡ item_at ps xs router len →
        option_and_then (slice_get (x ∷ xs)) (if b then Some 0 else option_map suc o)
        ≡ (if b then Some x else item_at ps xs router len)
    by true o rest = refl
    by false None rest = rest
    by false (Some k) rest = rest

pub item_none : {X : Type 0} (ps : List Place) (xs : List X) (router len : ℕ) →
    position (is_at router len) ps ≡ None → item_at ps xs router len ≡ None
item_none ps xs router len none = sym (item_is ps xs router len) ∙ ap (option_and_then (slice_get xs)) none

pub item_found : {X : Type 0} (ps : List Place) (xs : List X) (router len k : ℕ) →
    position (is_at router len) ps ≡ Some k → slice_get xs k ≡ item_at ps xs router len
item_found ps xs router len k found = sym (ap (option_and_then (slice_get xs)) found) ∙ item_is ps xs router len

-- ---- the place of a router and a length is found by counting

pub position-left : {X : Type 0} (t : X → Bool) (xs ys : List X) (k : ℕ) → position t xs ≡ Some k →
    position t (xs ++ ys) ≡ Some k
position-left t [] ys k found = absurd cc
position-left {X} t (x ∷ xs) ys k found =
    position-cons t x (xs ++ ys) ∙ by (t x) (position t xs) refl (sym (position-cons t x xs) ∙ found)
    (λ j at. position-left t xs ys j at)
  where
    by : (b : Bool) (o : Option ℕ) → position t xs ≡ o → (if b then Some 0 else option_map suc o) ≡ Some k →
        ((j : ℕ) → position t xs ≡ Some j → position t (xs ++ ys) ≡ Some j) →
        (if b then Some 0 else option_map suc (position t (xs ++ ys))) ≡ Some k
    by true o at is rest = is
    by false None at is rest = absurd cc
    by false (Some j) at is rest = ap (option_map suc) (rest j at) ∙ is

pub position-right : {X : Type 0} (t : X → Bool) (xs ys : List X) → position t xs ≡ None →
    position t (xs ++ ys) ≡ option_map (λ k. length xs + k) (position t ys)
position-right t [] ys none = by (position t ys) where
  by : (o : Option ℕ) → o ≡ option_map (λ k. 0 + k) o
  by None = refl
  by (Some k) = ap Some (omega arith)
position-right {X} t (x ∷ xs) ys none =
    position-cons t x (xs ++ ys) ∙ by (t x) (position t xs) refl (sym (position-cons t x xs) ∙ none)
    (position-right t xs ys)
  where
    by : (b : Bool) (o : Option ℕ) → position t xs ≡ o → (if b then Some 0 else option_map suc o) ≡ None →
        (position t xs ≡ None → position t (xs ++ ys) ≡ option_map (λ k. length xs + k) (position t ys)) →
        (if b then Some 0 else option_map suc (position t (xs ++ ys)))
        ≡ option_map (λ k. suc (length xs) + k) (position t ys)
    by true o at is rest = absurd cc
    by false (Some j) at is rest = absurd cc
    by false None at is rest = ap (option_map suc) (rest at) ∙ twice (position t ys) where
      twice : (o : Option ℕ) → option_map suc (option_map (λ k. length xs + k) o)
          ≡ option_map (λ k. suc (length xs) + k) o
      twice None = refl
      twice (Some k) = let e : suc (length xs + k) ≡ suc (length xs) + k = omega arith in ap Some e

pub position-row : (router len : ℕ) (lens : List ℕ) →
    position (is_at router len) (map (place router) lens) ≡ position (λ l. l == len) lens
position-row router len [] = refl
position-row router len (l ∷ lens) =
    position-cons (is_at router len) (place router l) (map (place router) lens)
    ∙ ap₂ (λ b o. if b then Some 0 else option_map suc o) own (position-row router len lens)
    ∙ sym (position-cons (λ l. l == len) l lens)
  where
    own : is_at router len (place router l) ≡ (l == len)
    own = ap (λ b. b && (l == len)) (eq-eqb router router refl)

pub position-other : (router other len : ℕ) (lens : List ℕ) → (other == router) ≡ false →
    position (is_at router len) (map (place other) lens) ≡ None
position-other router other len [] apart = refl
position-other router other len (l ∷ lens) apart =
    position-cons (is_at router len) (place other l) (map (place other) lens)
    ∙ ap₂ (λ b o. if b then Some 0 else option_map suc o) (ap (λ b. b && (l == len)) apart)
    (position-other router other len lens apart)

-- of the routers from one on none has a place below
past-none : (lens : List ℕ) (n router len : ℕ) → n ≤ router → position (is_at router len) (places_below lens n) ≡ None
unfolding places_below
past-none lens zero router len past = refl
past-none lens (suc n) router len past =
    position-right (is_at router len) (places_below lens n) (map (place n) lens)
    (past-none lens n router len (omega (arith, past)))
    ∙ ap (option_map (λ k. length (places_below lens n) + k))
    (position-other router n len lens (ne_eqb n router (λ same. omega (arith, past, same))))

-- so many things stand at the places
pub places-length : (lens : List ℕ) (n : ℕ) → length (places_below lens n) ≡ n * length lens
unfolding places_below
places-length lens zero = let none : 0 * length lens ≡ 0 = omega arith in sym none
places-length lens (suc n) =
    let front = places-length lens n in
    let both = length-append (places_below lens n) (map (place n) lens) in
    let row : length (map (place n) lens) ≡ length lens = length-map lens (place n) in
    let more = suc-mul n (length lens) in
    omega (arith, both, front, row, more)

pub counted : (lens : List ℕ) (n router len : ℕ) → router < n → position (is_at router len) (places_below lens n)
    ≡ option_map (λ k. router * length lens + k) (position (λ l. l == len) lens)
unfolding places_below
counted lens zero router len below = absurd (omega (arith, below))
counted lens (suc n) router len below = by (cases_lt router n) (counted lens n router len) where
  goal : Type 0
  goal = position (is_at router len) (places_below lens n ++ map (place n) lens)
      ≡ option_map (λ k. router * length lens + k) (position (λ l. l == len) lens)

  -- in an earlier row
  earlier : (o : Option ℕ) → position (λ l. l == len) lens ≡ o →
      position (is_at router len) (places_below lens n) ≡ option_map (λ k. router * length lens + k) o → goal
  earlier (Some k) at found =
      position-left (is_at router len) (places_below lens n) (map (place n) lens) (router * length lens + k) found
      ∙ ap (option_map (λ k. router * length lens + k)) (sym at)
  earlier None at found =
      position-right (is_at router len) (places_below lens n) (map (place n) lens) found
      ∙ ap (option_map (λ k. length (places_below lens n) + k)) (last (cases_lt router n))
      ∙ ap (option_map (λ k. router * length lens + k)) (sym at)
    where
      last : (router < n) ⊎ (n ≤ router) → position (is_at router len) (map (place n) lens) ≡ None
      last (inl less) = position-other router n len lens (ne_eqb n router (λ same. omega (arith, less, same)))
      last (inr past) =
          let is : router ≡ n = omega (arith, below, past) in
          ap (λ m. position (is_at router len) (map (place m) lens)) (sym is) ∙ position-row router len lens ∙ at

  by : (router < n) ⊎ (n ≤ router) → (router < n → position (is_at router len) (places_below lens n)
      ≡ option_map (λ k. router * length lens + k) (position (λ l. l == len) lens)) → goal
  by (inl less) rest = earlier (position (λ l. l == len) lens) refl (rest less)
  by (inr past) rest =
      let is : router ≡ n = omega (arith, below, past) in
      position-right (is_at router len) (places_below lens n) (map (place n) lens)
      (past-none lens n router len past)
      ∙ ap₂ (λ m o. option_map (λ k. m + k) o)
      (places-length lens n ∙ ap (λ m. m * length lens) (sym is))
      (ap (λ m. position (is_at router len) (map (place m) lens)) (sym is) ∙ position-row router len lens)

-- of things that stand at the places, one at each
pub among_found : {X : Type 0} (lens : List ℕ) (xs : List X) (routers router len k : ℕ) →
    length xs ≡ routers * length lens → position (λ l. l == len) lens ≡ Some k →
    k < length lens →
    slice_get xs (router * length lens + k) ≡ item_at (places_below lens routers) xs router len
among_found lens xs routers router len k long at within = by (cases_lt router routers) where
  by : (router < routers) ⊎ (routers ≤ router) →
      slice_get xs (router * length lens + k) ≡ item_at (places_below lens routers) xs router len
  by (inl less) = item_found (places_below lens routers) xs router len (router * length lens + k)
      (counted lens routers router len less ∙ ap (option_map (λ k. router * length lens + k)) at)
  by (inr past) =
      let most = mul-le routers (length lens) router (length lens) past (omega arith) in
      slice_get_past xs (router * length lens + k) (omega (arith, long, most))
      ∙ sym (item_none (places_below lens routers) xs router len (past-none lens routers router len past))

pub among_none : {X : Type 0} (lens : List ℕ) (xs : List X) (routers router len : ℕ) →
    position (λ l. l == len) lens ≡ None → item_at (places_below lens routers) xs router len ≡ None
among_none lens xs routers router len none = by (cases_lt router routers) where
  by : (router < routers) ⊎ (routers ≤ router) → item_at (places_below lens routers) xs router len ≡ None
  by (inl less) = item_none (places_below lens routers) xs router len
      (counted lens routers router len less ∙ ap (option_map (λ k. router * length lens + k)) none)
  by (inr past) = item_none (places_below lens routers) xs router len (past-none lens routers router len past)

-- the place of a thing among so few lengths fits 64 bits
pub no_overflow : (lens : List ℕ) (router : ℕ) → router < 2 ^ 32 → length lens ≤ LENGTHS →
    router * length lens ≤ 2 ^ 32 * LENGTHS
no_overflow lens router small few = mul-le router (length lens) (2 ^ 32) LENGTHS (omega (arith, small)) few

-- those of routers from a number on stand at no place of the routers below it
pub none_above : {X : Type 0} (lens : List ℕ) (xs : List X) (routers router len : ℕ) → routers ≤ router →
    item_at (places_below lens routers) xs router len ≡ None
none_above lens xs routers router len past =
    item_none (places_below lens routers) xs router len (past-none lens routers router len past)

lens_below-length : (plan : Plan) (n : ℕ) → length (lens_below plan n) ≤ n
unfolding lens_below
lens_below-length plan zero = omega arith
lens_below-length plan (suc n) =
    let shorter = lens_below-length plan n in
    let both = length-append (lens_below plan n) (if has_slice plan n then n ∷ [] else []) in
    let last = one (has_slice plan n) in
    omega (arith, shorter, both, last)
  where
    one : (b : Bool) → length (if b then n ∷ [] else []) ≤ 1
    one true = omega arith
    one false = omega arith

-- slices stand at no more lengths than there are
pub lens_few : (plan : Plan) → length (lens_of plan) ≤ LENGTHS
lens_few plan = lens_below-length plan LENGTHS
