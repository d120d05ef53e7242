-- What is made of things by place: it is found at its place, and stands in the order of the places.
use Rattle.std.proofs.Common.{◌≡◌, ℕ, zero, suc, ◌<◌, Bool, true, false, List, [], ◌∷◌, map}
use Rattle.std.proofs.Common.{Option, Some, None, inl, inr, refl, sym, ap, subst, arith, ◌∙◌}
use Rattle.std.specs.Prelude.{◌==◌, ◌&&◌, All, AllPairs, option_and_then, option_map, if◌then◌else◌}
use Rattle.std.specs.List.{find}
use Rattle.std.proofs.lemmas.Bool.{and_parts, eqb-true}
use Rattle.std.proofs.lemmas.List.Elements.{All-append, All-cons, All-head, All-nil, All-tail, All-weaker}
use Rattle.std.proofs.lemmas.List.Kept.{AllPairs-cons}
use Rattle.mw_text.proofs.Numbers.{apart}
use Rattle.net_interfaces.proofs.Pairs.{first, later, pairs_joined}
use Rattle.route_record.specs.declared.Plan.{Plan}
use Rattle.route_record.specs.declared.TheConstants.{LENGTHS}
use Rattle.plan_places.specs.declared.places.Place.{Place}
use Rattle.plan_places.specs.Plans.{has_slice, lens_below, lens_of}
use Rattle.plan_places.specs.Places.{IsBefore, is_at, item_at, place}
use Rattle.announced_places.specs.Announced.{Ascend, Keeps, announced_at, made_over, places_among, thing_at, thing_over}

-- ---- the places are in order

after : (end : ℕ) (n : ℕ) (lens : List ℕ) → All (λ m. n < m) lens → All (IsBefore (place end n)) (map (place end) lens)
after end n [] all = All-nil (IsBefore (place end n))
after end n (m ∷ lens) all =
    All-cons (IsBefore (place end n)) (place end m) (map (place end) lens)
    (inr (refl, All-head (λ k. n < k) m lens all)) (after end n lens (All-tail (λ k. n < k) m lens all))

row_ordered : (end : ℕ) (lens : List ℕ) → Ascend lens → AllPairs IsBefore (map (place end) lens)
row_ordered end [] up = λ i j d below within. absurd (omega arith)
row_ordered end (n ∷ lens) up =
    AllPairs-cons IsBefore (place end n) (map (place end) lens) (after end n lens (first (λ a b. a < b) n lens up))
    (row_ordered end lens (later (λ a b. a < b) n lens up))

row_below : (p : Place) (end : ℕ) (lens : List ℕ) → p.router < end → All (IsBefore p) (map (place end) lens)
row_below p end [] less = All-nil (IsBefore p)
row_below p end (n ∷ lens) less =
    All-cons (IsBefore p) (place end n) (map (place end) lens) (inl less) (row_below p end lens less)

all_below : (p : Place) (ends lens : List ℕ) → All (λ e. p.router < e) ends → All (IsBefore p) (places_among ends lens)
unfolding places_among
all_below p [] lens all = All-nil (IsBefore p)
all_below p (e ∷ ends) lens all =
    All-append (IsBefore p) (map (place e) lens) (places_among ends lens)
    (row_below p e lens (All-head (λ k. p.router < k) e ends all))
    (all_below p ends lens (All-tail (λ k. p.router < k) e ends all))

row_far : (end : ℕ) (ends lens all : List ℕ) → All (λ e. end < e) ends →
    All (λ p. All (IsBefore p) (places_among ends all)) (map (place end) lens)
row_far end ends [] all less = All-nil (λ p. All (IsBefore p) (places_among ends all))
row_far end ends (n ∷ lens) all less =
    All-cons (λ p. All (IsBefore p) (places_among ends all)) (place end n) (map (place end) lens)
    (all_below (place end n) ends all less) (row_far end ends lens all less)

pub places_ordered : (ends lens : List ℕ) → Ascend ends → Ascend lens → AllPairs IsBefore (places_among ends lens)
unfolding places_among
places_ordered [] lens up down = λ i j d below within. absurd (omega arith)
places_ordered (e ∷ ends) lens up across =
    pairs_joined IsBefore (map (place e) lens) (places_among ends lens) (row_ordered e lens across)
    (places_ordered ends lens (later (λ a b. a < b) e ends up) across)
    (row_far e ends lens lens (first (λ a b. a < b) e ends up))

-- ---- the lengths of a plan ascend

lens_low : (plan : Plan) (n : ℕ) → All (λ m. m < n) (lens_below plan n)
unfolding lens_below
lens_low plan zero = All-nil (λ m. m < 0)
lens_low plan (suc n) =
    All-append (λ m. m < suc n) (lens_below plan n) (if has_slice plan n then n ∷ [] else [])
    (All-weaker (λ m. m < n) (λ m. m < suc n) (λ m low. omega (arith, low)) (lens_below plan n) (lens_low plan n))
    (one (has_slice plan n))
  where
    one : (b : Bool) → All (λ m. m < suc n) (if b then n ∷ [] else [])
    one true = All-cons (λ m. m < suc n) n [] (omega arith) (All-nil (λ m. m < suc n))
    one false = All-nil (λ m. m < suc n)

lens_up : (plan : Plan) (n : ℕ) → Ascend (lens_below plan n)
unfolding lens_below
lens_up plan zero = λ i j d below within. absurd (omega arith)
lens_up plan (suc n) =
    pairs_joined (λ a b. a < b) (lens_below plan n) (if has_slice plan n then n ∷ [] else []) (lens_up plan n)
    (one (has_slice plan n))
    (All-weaker (λ m. m < n) (λ m. All (λ k. m < k) (if has_slice plan n then n ∷ [] else []))
    (λ m low. far m low (has_slice plan n)) (lens_below plan n) (lens_low plan n))
  where
    one : (b : Bool) → Ascend (if b then n ∷ [] else [])
    one true = λ i j d below within. absurd (omega (arith, below, within))
    one false = λ i j d below within. absurd (omega arith)

    far : (m : ℕ) → m < n → (b : Bool) → All (λ k. m < k) (if b then n ∷ [] else [])
    far m low true = All-cons (λ k. m < k) n [] low (All-nil (λ k. m < k))
    far m low false = All-nil (λ k. m < k)

pub lens_ascend : (plan : Plan) → Ascend (lens_of plan)
lens_ascend plan = lens_up plan LENGTHS

-- ---- what is found at a place

not_here : (p q : Place) (end len : ℕ) → IsBefore p q → is_at end len p ≡ true → is_at end len q ≡ false
not_here p q end len (inl less) is =
    let parts = and_parts (p.router == end) (p.len == len) is in
    let same = eqb-true p.router end parts.0 in
    ap (λ b. b && (q.len == len)) (apart q.router end (omega (arith, less, same)))
not_here p q end len (inr both) is =
    let parts = and_parts (p.router == end) (p.len == len) is in
    let same = eqb-true p.len len parts.1 in
    let less = both.1 in
    ap (λ b. (q.router == end) && b) (apart q.len len (omega (arith, less, same))) ∙ and_off (q.router == end)
  where
    and_off : (b : Bool) → (b && false) ≡ false
    and_off true = refl
    and_off false = refl

-- nothing stands at a place that comes before all others
none_there : {U : Type 0} (p : Place) (end len : ℕ) (ps : List Place) (things : List (Option U)) →
    All (IsBefore p) ps → is_at end len p ≡ true → thing_over ps things end len ≡ None
unfolding item_at
none_there p end len [] things after is = refl
none_there p end len (q ∷ qs) [] after is = refl
none_there {U} p end len (q ∷ qs) (u ∷ things) after is =
    ap (λ b. option_and_then (λ (there : Option U). there) (if b then Some u else item_at qs things end len))
    (not_here p q end len (All-head (IsBefore p) q qs after) is)
    ∙ none_there p end len qs things (All-tail (IsBefore p) q qs after) is

-- what is found at a place is made of what stands there
pub found_over : {U A : Type 0} (build : ℕ → ℕ → U → A) (at : A → Place) → Keeps build at → (ps : List Place)
    (things : List (Option U)) (end len : ℕ) → AllPairs IsBefore ps →
    find (λ a. is_at end len (at a)) (made_over build ps things)
    ≡ option_map (build end len) (thing_over ps things end len)
unfolding made_over item_at
found_over build at keeps [] things end len order = refl
found_over build at keeps (p ∷ ps) [] end len order = refl
found_over {U} {A} build at keeps (p ∷ ps) (None ∷ things) end len order =
    found_over build at keeps ps things end len (later IsBefore p ps order) ∙ by (is_at end len p) refl
  where
    by : (b : Bool) → is_at end len p ≡ b →
        option_map (build end len) (thing_over ps things end len)
        ≡ option_map (build end len)
        (option_and_then (λ (there : Option U). there) (if b then Some None else item_at ps things end len))
    by true is = ap (option_map (build end len)) (none_there p end len ps things (first IsBefore p ps order) is)
    by false is = refl
found_over {U} {A} build at keeps (p ∷ ps) (Some u ∷ things) end len order =
    ap (λ q. if is_at end len q then Some made else find (λ a. is_at end len (at a)) (made_over build ps things))
    (keeps.place p.router p.len u)
    ∙ by (is_at end len p) refl (found_over build at keeps ps things end len (later IsBefore p ps order))
  where
    made : A
    made = build p.router p.len u

    here : is_at end len p ≡ true → made ≡ build end len u
    here is =
        let parts = and_parts (p.router == end) (p.len == len) is in
        ap (λ e. build e p.len u) (eqb-true p.router end parts.0) ∙ ap (λ l. build end l u) (eqb-true p.len len parts.1)

    by : (b : Bool) → is_at end len p ≡ b →
        find (λ a. is_at end len (at a)) (made_over build ps things)
        ≡ option_map (build end len) (thing_over ps things end len) →
        (if b then Some made else find (λ a. is_at end len (at a)) (made_over build ps things))
        ≡ option_map (build end len)
        (option_and_then (λ (there : Option U). there) (if b then Some (Some u) else item_at ps things end len))
    by true is rest = ap Some (here is)
    by false is rest = rest

-- at the places of ascending ends and lengths
pub found : {U A : Type 0} (build : ℕ → ℕ → U → A) (at : A → Place) → Keeps build at → (ends lens : List ℕ)
    (things : List (Option U)) (end len : ℕ) → Ascend ends → Ascend lens →
    find (λ a. is_at end len (at a)) (announced_at build ends lens things)
    ≡ option_map (build end len) (thing_at ends lens things end len)
found build at keeps ends lens things end len up across =
    found_over build at keeps (places_among ends lens) things end len (places_ordered ends lens up across)

-- ---- what is made is in order

after_made : {U A : Type 0} (build : ℕ → ℕ → U → A) (at : A → Place) → Keeps build at → (p : Place) (ps : List Place)
    (things : List (Option U)) → All (IsBefore p) ps → All (λ a. IsBefore p (at a)) (made_over build ps things)
unfolding made_over
after_made build at keeps p [] things later = All-nil (λ a. IsBefore p (at a))
after_made build at keeps p (q ∷ qs) [] later = All-nil (λ a. IsBefore p (at a))
after_made build at keeps p (q ∷ qs) (None ∷ things) later =
    after_made build at keeps p qs things (All-tail (IsBefore p) q qs later)
after_made build at keeps p (q ∷ qs) (Some u ∷ things) later =
    All-cons (λ a. IsBefore p (at a)) (build q.router q.len u) (made_over build qs things)
    (subst (IsBefore p) (sym (keeps.place q.router q.len u)) (All-head (IsBefore p) q qs later))
    (after_made build at keeps p qs things (All-tail (IsBefore p) q qs later))

pub made_ordered : {U A : Type 0} (build : ℕ → ℕ → U → A) (at : A → Place) → Keeps build at → (ps : List Place)
    (things : List (Option U)) → AllPairs IsBefore ps →
    AllPairs (λ a b. IsBefore (at a) (at b)) (made_over build ps things)
unfolding made_over
made_ordered build at keeps [] things order = λ i j d below within. absurd (omega arith)
made_ordered build at keeps (p ∷ ps) [] order = λ i j d below within. absurd (omega arith)
made_ordered build at keeps (p ∷ ps) (None ∷ things) order =
    made_ordered build at keeps ps things (later IsBefore p ps order)
made_ordered build at keeps (p ∷ ps) (Some u ∷ things) order =
    AllPairs-cons (λ a b. IsBefore (at a) (at b)) (build p.router p.len u) (made_over build ps things)
    (subst (λ q. All (λ a. IsBefore q (at a)) (made_over build ps things)) (sym (keeps.place p.router p.len u))
    (after_made build at keeps p ps things (first IsBefore p ps order)))
    (made_ordered build at keeps ps things (later IsBefore p ps order))

pub ordered : {U A : Type 0} (build : ℕ → ℕ → U → A) (at : A → Place) → Keeps build at → (ends lens : List ℕ)
    (things : List (Option U)) → Ascend ends → Ascend lens →
    AllPairs (λ a b. IsBefore (at a) (at b)) (announced_at build ends lens things)
ordered build at keeps ends lens things up across =
    made_ordered build at keeps (places_among ends lens) things (places_ordered ends lens up across)
