-- Which places a plan has, in which order, and how many.
use Rattle.std.proofs.Common.{◌≡◌, ℕ, zero, suc, ◌<◌, ◌≤◌, Bool, true, false, List, [], ◌∷◌, ◌++◌, length, map}
use Rattle.std.proofs.Common.{inl, inr, refl, sym, ap, subst, arith, ◌∙◌}
use Rattle.std.specs.Prelude.{◌⊎◌, ◌==◌, All, AllPairs, if◌then◌else◌}
use Rattle.std.proofs.lemmas.Bool.{and_from, and_parts, cases_lt, eqb-true, eq-eqb, false≢true}
use Rattle.std.proofs.lemmas.List.Elements.{All-append}
use Rattle.std.proofs.lemmas.List.Kept.{AllPairs-cons}
use Rattle.mw_text.proofs.Lists.{below_at}
use Rattle.mw_text.specs.Members.{In, all_below}
use Rattle.route_record.specs.declared.Plan.{Plan}
use Rattle.net_interfaces.proofs.Pairs.{first as first_rest, later as behind, no_pairs}
use Rattle.net_interfaces.proofs.Members.{filter-in}
use Rattle.net_parts.proofs.LeastWalks.{in-cases, in-left, in-map, in-right}
use Rattle.plan_places.specs.declared.places.Place.{Place}
use Rattle.mw_text.specs.declared.address.Prefix.{Prefix}
use Rattle.ios_ast.specs.declared.file.File.{File}
use Rattle.route_record.specs.declared.TheConstants.{LENGTHS}
use Rattle.plan_places.specs.Places.{IsBefore, has_place, is_at, place, places_below, places_of}
use Rattle.plan_places.specs.Plans.{has_slice, lens_below, lens_of, numbers_below, single_plan}
use Rattle.slot_places.specs.Rooms.{HasUsed, can_be_used, used_among}
use Rattle.slot_places.proofs.Members.{all-from-in, any-in, in-any, map-in}
use Rattle.slot_places.proofs.Supports.{all_in}

-- ---- which lengths

pub lens-in : (plan : Plan) (n len : ℕ) → len < n → has_slice plan len ≡ true → In len (lens_below plan n)
unfolding lens_below
lens-in plan zero len below some = absurd (omega (arith, below))
lens-in plan (suc n) len below some = by (cases_lt len n) (λ less. lens-in plan n len less some) where
  last : (k : ℕ) (b : Bool) → len ≡ k → b ≡ true → In len (if b then k ∷ [] else [])
  last k true same is = inl same
  last k false same is = absurd cc

  by : (len < n) ⊎ (n ≤ len) → (len < n → In len (lens_below plan n)) →
      In len (lens_below plan n ++ (if has_slice plan n then n ∷ [] else []))
  by (inl less) rest = in-left len (lens_below plan n) (if has_slice plan n then n ∷ [] else []) (rest less)
  by (inr past) rest =
      let same : len ≡ n = omega (arith, below, past) in
      in-right len (lens_below plan n) (if has_slice plan n then n ∷ [] else [])
      (last n (has_slice plan n) same (subst (λ k. has_slice plan k ≡ true) same some))

pub in-lens : (plan : Plan) (n len : ℕ) → In len (lens_below plan n) → (len < n) × (has_slice plan len ≡ true)
unfolding lens_below
in-lens plan zero len there = absurd there
in-lens plan (suc n) len there =
    by (in-cases len (lens_below plan n) (if has_slice plan n then n ∷ [] else []) there) (in-lens plan n len)
  where
    last : (b : Bool) → has_slice plan n ≡ b → In len (if b then n ∷ [] else []) →
        (len < suc n) × (has_slice plan len ≡ true)
    last true is (inl same) = (omega (arith, same), ap (has_slice plan) same ∙ is)
    last true is (inr none) = absurd none
    last false is none = absurd none

    by : In len (lens_below plan n) ⊎ In len (if has_slice plan n then n ∷ [] else []) →
        (In len (lens_below plan n) → (len < n) × (has_slice plan len ≡ true)) →
        (len < suc n) × (has_slice plan len ≡ true)
    by (inl front) rest = let found = rest front in let less = found.0 in (omega (arith, less), found.1)
    by (inr back) rest = last (has_slice plan n) refl back

all_single : all_below (has_slice single_plan) LENGTHS ≡ true
unfolding single_plan numbers_below
all_single = refl

-- each length has a slice where it is a class of its own
pub single-has : (len : ℕ) → len < LENGTHS → has_slice single_plan len ≡ true
single-has len short = below_at (has_slice single_plan) LENGTHS len all_single short

-- ---- which places

pub places-in : (lens : List ℕ) (n router len : ℕ) → router < n → In len lens →
    In (place router len) (places_below lens n)
unfolding places_below
places-in lens zero router len below there = absurd (omega (arith, below))
places-in lens (suc n) router len below there =
    by (cases_lt router n) (λ less. places-in lens n router len less there)
  where
    by : (router < n) ⊎ (n ≤ router) → (router < n → In (place router len) (places_below lens n)) →
        In (place router len) (places_below lens n ++ map (place n) lens)
    by (inl less) rest = in-left (place router len) (places_below lens n) (map (place n) lens) (rest less)
    by (inr past) rest =
        let same : router ≡ n = omega (arith, below, past) in
        in-right (place router len) (places_below lens n) (map (place n) lens)
        (subst (λ k. In (place router len) (map (place k) lens)) same (map-in (place router) lens len there))

pub in-places : (lens : List ℕ) (n : ℕ) (p : Place) → In p (places_below lens n) → (p.router < n) × In p.len lens
unfolding places_below
in-places lens zero p there = absurd there
in-places lens (suc n) p there =
    by (in-cases p (places_below lens n) (map (place n) lens) there) (in-places lens n p)
  where
    last : (len : ℕ) × In len lens × (p ≡ place n len) → (p.router < suc n) × In p.len lens
    last (len, here, is) =
        let router = ap (λ (q : Place). q.router) is in
        (omega (arith, router), subst (λ k. In k lens) (sym (ap (λ (q : Place). q.len) is)) here)

    by : In p (places_below lens n) ⊎ In p (map (place n) lens) →
        (In p (places_below lens n) → (p.router < n) × In p.len lens) → (p.router < suc n) × In p.len lens
    by (inl front) rest = let found = rest front in let less = found.0 in (omega (arith, less), found.1)
    by (inr back) rest = last (in-map (place n) lens p back)

-- ---- in which order

pairs-append : {X : Type 0} (R : X → X → Type 0) (xs ys : List X) → AllPairs R xs → AllPairs R ys →
    ((x : X) → In x xs → All (R x) ys) → AllPairs R (xs ++ ys)
pairs-append R [] ys front back between = back
pairs-append R (x ∷ xs) ys front back between =
    AllPairs-cons R x (xs ++ ys) (All-append (R x) xs ys (first_rest R x xs front) (between x (inl refl)))
    (pairs-append R xs ys (behind R x xs front) back (λ y there. between y (inr there)))

one_alone : {X : Type 0} (R : X → X → Type 0) (x : X) → AllPairs R (x ∷ [])
one_alone R x = λ i j d earlier within. absurd (omega (arith, earlier, within))

pub lens-ascend : (plan : Plan) (n : ℕ) → AllPairs (λ a b. a < b) (lens_below plan n)
unfolding lens_below
lens-ascend plan zero = no_pairs (λ a b. a < b)
lens-ascend plan (suc n) = by (has_slice plan n) (lens-ascend plan n) where
  by : (b : Bool) → AllPairs (λ a c. a < c) (lens_below plan n) →
      AllPairs (λ a c. a < c) (lens_below plan n ++ (if b then n ∷ [] else []))
  by true front = pairs-append (λ a c. a < c) (lens_below plan n) (n ∷ []) front (one_alone (λ a c. a < c) n)
      (λ a there. all-from-in (λ c. a < c) (n ∷ []) (λ c here. last a c (in-lens plan n a there).0 here))
    where
      last : (a c : ℕ) → a < n → In c (n ∷ []) → a < c
      last a c less (inl same) = omega (arith, less, same)
      last a c less (inr none) = absurd none
  by false front = pairs-append (λ a c. a < c) (lens_below plan n) [] front (no_pairs (λ a c. a < c))
      (λ a there. λ k d within. absurd (omega (arith, within)))

mapped_pairs : (router : ℕ) (lens : List ℕ) → AllPairs (λ a b. a < b) lens → AllPairs IsBefore (map (place router) lens)
mapped_pairs router [] pairs = no_pairs IsBefore
mapped_pairs router (len ∷ lens) pairs =
    AllPairs-cons IsBefore (place router len) (map (place router) lens)
    (all-from-in (IsBefore (place router len)) (map (place router) lens) each)
    (mapped_pairs router lens (behind (λ a b. a < b) len lens pairs))
  where
    each : (p : Place) → In p (map (place router) lens) → IsBefore (place router len) p
    each p there = by (in-map (place router) lens p there) where
      later : (l : ℕ) → In l lens → len < l
      later l here = all_in (λ b. len < b) lens l (first_rest (λ a b. a < b) len lens pairs) here

      by : (l : ℕ) × In l lens × (p ≡ place router l) → IsBefore (place router len) p
      by (l, here, is) = subst (IsBefore (place router len)) (sym is) (inr (refl, later l here))

pub places-ascend : (lens : List ℕ) (n : ℕ) → AllPairs (λ a b. a < b) lens → AllPairs IsBefore (places_below lens n)
unfolding places_below
places-ascend lens zero pairs = no_pairs IsBefore
places-ascend lens (suc n) pairs =
    pairs-append IsBefore (places_below lens n) (map (place n) lens) (places-ascend lens n pairs)
    (mapped_pairs n lens pairs) between
  where
    between : (p : Place) → In p (places_below lens n) → All (IsBefore p) (map (place n) lens)
    between p there = all-from-in (IsBefore p) (map (place n) lens) (λ q here. by q (in-map (place n) lens q here))
      where
        by : (q : Place) → (len : ℕ) × In len lens × (q ≡ place n len) → IsBefore p q
        by q (len, here, is) = subst (IsBefore p) (sym is) (inl (in-places lens n p there).0)

-- ---- which places there are, as a test

pub at-is : (p : Place) (router len : ℕ) → is_at router len p ≡ true → p ≡ place router len
at-is p router len is =
    let both = and_parts (p.router == router) (p.len == len) is in
    let a = eqb-true p.router router both.0 in
    let b = eqb-true p.len len both.1 in
    λ i. record { router = a i; len = b i }

pub has-in : (places : List Place) (router len : ℕ) → In (place router len) places → has_place places router len ≡ true
has-in places router len there =
    any-in (is_at router len) places (place router len) there
    (and_from _ _ (eq-eqb router router refl) (eq-eqb len len refl))

pub in-has : (places : List Place) (router len : ℕ) → has_place places router len ≡ true → In (place router len) places
in-has places router len some =
    let found = in-any (is_at router len) places some in
    subst (λ p. In p places) (at-is found.0 router len found.2) found.1

-- a place of a plan at which something can stand is one of the used places
pub used-has : (files : List File) (destinations : Prefix) (plan : Plan) (router len : ℕ) → router < length files →
    len < LENGTHS → has_slice plan len ≡ true → can_be_used files destinations router len ≡ true →
    has_place (used_among files destinations (places_of plan (length files))) router len ≡ true
used-has files destinations plan router len below short slice used =
    has-in (used_among files destinations (places_of plan (length files))) router len
    (filter-in (λ (p : Place). can_be_used files destinations p.router p.len) (places_of plan (length files))
    (place router len)
    (places-in (lens_of plan) (length files) router len below (lens-in plan LENGTHS len short slice)) used)

-- where the plan has a slice at each used length nothing can stand off the used places
pub unused-off : (files : List File) (destinations : Prefix) (plan : Plan) (router len : ℕ) →
    HasUsed files destinations plan → router < length files → len < LENGTHS →
    has_place (used_among files destinations (places_of plan (length files))) router len ≡ false →
    can_be_used files destinations router len ≡ false
unused-off files destinations plan router len wide below short none =
    by (can_be_used files destinations router len) refl
  where
    by : (b : Bool) → can_be_used files destinations router len ≡ b → b ≡ false
    by false is = refl
    by true is = absurd (false≢true (sym none
        ∙ used-has files destinations plan router len below short (wide router len below short is) is))
