-- Steps over places do what steps over the candidates at these do.
use Rattle.std.proofs.Common.{◌≡◌, ◌∙◌, ℕ, Bool, true, false, not, ◌||◌, ◌+◌, ◌<◌, List, [], ◌∷◌, ◌++◌, length, take}
use Rattle.std.proofs.Common.{get_or, arith, inl, inr, map, fold, refl, sym, ap, if◌then◌else◌, Option, Some, None}
use Rattle.std.specs.List.{filter, filter_map, list_any, slice_get}
use Rattle.std.specs.Option.{option_map_or}
use Rattle.std.proofs.lemmas.List.{map-append, take_more}
use Rattle.std.proofs.lemmas.List.Elements.{All-filter, All-push, filter_map-append}
use Rattle.std.proofs.lemmas.List.Kept.{AllPairs-filter}
use Rattle.std.proofs.lemmas.List.Quantifiers.{all_pairs_push}
use Rattle.std.proofs.lemmas.Option.{slice_get_cases}
use Rattle.net_parts.specs.Decisions as decisions
use Rattle.proto_bgp.specs.declared.decision.Candidate.{Candidate}
use Rattle.net_parts.specs.declared.steps.Step.{Step}
use Rattle.proto_bgp.specs.Places.{ArePlaces, candidate_at, candidates_at, places_left, removes, removes_at}
use Rattle.proto_bgp.specs.Steps.{seen}

any_one : {X Y : Type 0} (f : X → Option Y) (q : Y → Bool) (x : X) (xs : List X) (o : Option Y) → f x ≡ o →
    list_any (λ z. option_map_or q (f z) false) xs ≡ list_any q (filter_map f xs) →
    list_any (λ z. option_map_or q (f z) false) (x ∷ xs) ≡ list_any q (filter_map f (x ∷ xs))
any_one f q x xs None e more = rw e more
any_one f q x xs (Some y) e more = rw e (ap (λ b. q y || b) more)

-- a test of what is found passes for one of these where it passes for one of all that is found
pub any_found : {X Y : Type 0} (f : X → Option Y) (q : Y → Bool) (xs : List X) →
    list_any (λ z. option_map_or q (f z) false) xs ≡ list_any q (filter_map f xs)
any_found f q [] = refl
any_found f q (x ∷ xs) = any_one f q x xs (f x) refl (any_found f q xs)

kept_one : {X Y : Type 0} (f : X → Option Y) (p : X → Bool) (q : Y → Bool) (x : X) (xs : List X) (o : Option Y)
    (b : Bool) →
    f x ≡ o → p x ≡ b → ((y : Y) → f x ≡ Some y → p x ≡ q y) →
    filter_map f (filter p xs) ≡ filter q (filter_map f xs) →
    filter_map f (filter p (x ∷ xs)) ≡ filter q (filter_map f (x ∷ xs))
kept_one f p q x xs None true e t same more = rw (t, e) more
kept_one f p q x xs None false e t same more = rw (t, e) more
kept_one f p q x xs (Some y) true e t same more =
    let there : q y ≡ true = sym (same y e) ∙ t in rw (t, e, there) (ap (λ ys. y ∷ ys) more)
kept_one f p q x xs (Some y) false e t same more =
    let there : q y ≡ false = sym (same y e) ∙ t in rw (t, e, there) more

-- filtered by a test of what is found, these find what that test leaves
kept_found : {X Y : Type 0} (f : X → Option Y) (p : X → Bool) (q : Y → Bool) (xs : List X) →
    ((x : X) (y : Y) → f x ≡ Some y → p x ≡ q y) → filter_map f (filter p xs) ≡ filter q (filter_map f xs)
kept_found f p q [] same = refl
kept_found f p q (x ∷ xs) same =
    kept_one f p q x xs (f x) (p x) refl refl (same x) (kept_found f p q xs same)

-- one step
pub step_law : (always : Bool) (candidates : List Candidate) (left : List ℕ) (step : Step) →
    candidates_at candidates (places_left always candidates left step)
    ≡ decisions.step_by decisions.key_of always (candidates_at candidates left) step
step_law always candidates left step =
    kept_found (candidate_at candidates) (λ at. not (list_any (removes_at always step candidates at) left))
    (λ c. not (list_any (removes always step c) (candidates_at candidates left))) left
    (λ at c e. ap (λ o. not (list_any (λ other. option_map_or (λ a.
    option_map_or (removes always step a) (candidate_at candidates other) false) o false) left)) e
    ∙ ap not (any_found (candidate_at candidates) (removes always step c) left))

-- several steps
pub steps_law : (always : Bool) (candidates : List Candidate) (left : List ℕ) (steps : List Step) →
    candidates_at candidates (fold (places_left always candidates) left steps)
    ≡ fold (decisions.step_by decisions.key_of always) (candidates_at candidates left) steps
steps_law always candidates left [] = refl
steps_law always candidates left (step ∷ steps) =
    steps_law always candidates (places_left always candidates left step) steps
    ∙ ap (λ cs. fold (decisions.step_by decisions.key_of always) cs steps) (step_law always candidates left step)

-- places stay places
pub places_stay : (always : Bool) (candidates : List Candidate) (count : ℕ) (left : List ℕ) (steps : List Step) →
    ArePlaces count left → ArePlaces count (fold (places_left always candidates) left steps)
places_stay always candidates count left [] are = are
places_stay always candidates count left (step ∷ steps) are =
    let p : ℕ → Bool = λ at. not (list_any (removes_at always step candidates at) left) in
    places_stay always candidates count (places_left always candidates left step) steps (record {
      within = All-filter p (λ at. at < count) left are.within;
      ascending = AllPairs-filter (λ a b. a < b) p left are.ascending;
    })

found_at : (candidates : List Candidate) (at : ℕ) (c : Candidate) → at < length candidates → slice_get candidates at
    ≡ Some c →
    get_or candidates at c ≡ c → (places : List ℕ) → candidates_at candidates places ≡ map seen (take at candidates) →
    candidates_at candidates (places ++ at ∷ []) ≡ map seen (take (at + 1) candidates)
found_at candidates at c within is same places every =
    let one : candidates_at candidates (at ∷ []) ≡ seen c ∷ [] = rw is refl in
    filter_map-append (candidate_at candidates) places (at ∷ [])
    ∙ ap (λ cs. candidates_at candidates places ++ cs) one
    ∙ ap (λ cs. cs ++ seen c ∷ []) every
    ∙ sym (ap (map seen) (take_more candidates at c within ∙ ap (λ x. take at candidates ++ x ∷ []) same)
    ∙ map-append seen (take at candidates) (c ∷ []))

-- the next place has the next candidate
pub place_more : (candidates : List Candidate) (places : List ℕ) (at : ℕ) → at < length candidates →
    candidates_at candidates places ≡ map seen (take at candidates) →
    candidates_at candidates (places ++ at ∷ []) ≡ map seen (take (at + 1) candidates)
place_more candidates places at within every = elim ((slice_get_cases candidates at).1) [
  | inl here ↦ found_at candidates at here.0 within here.2 here.3 places every
  | inr past ↦ absurd (omega (arith, past.0))
]

-- one place more
pub are_more : (places : List ℕ) (at : ℕ) → ArePlaces at places → ArePlaces (at + 1) (places ++ at ∷ [])
are_more places at are = record {
  within = All-push (λ x. x < at + 1) places at (λ k d h. omega (arith, are.within k d h)) (omega arith);
  ascending = all_pairs_push (λ a b. a < b) places at are.ascending (λ k d h. are.within k d h);
}

to_cost : (always : Bool) (candidates : List Candidate) (all left : List ℕ) → candidates_at candidates all
    ≡ map seen candidates →
    left ≡ fold (places_left always candidates) all decisions.to_cost →
    candidates_at candidates left ≡ fold (decisions.step_by decisions.key_of always) (map seen candidates) decisions.to_cost
to_cost always candidates all left every is =
    ap (candidates_at candidates) is ∙ steps_law always candidates all decisions.to_cost
    ∙ ap (λ cs. fold (decisions.step_by decisions.key_of always) cs decisions.to_cost) every

-- where identifiers are not compared, what the step of the cost leaves survives
pub early_law : (always compare_id : Bool) (candidates : List Candidate) (all left : List ℕ) →
    candidates_at candidates all ≡ map seen candidates → left ≡ fold (places_left always candidates) all decisions.to_cost →
    decisions.is_compared_by decisions.key_of compare_id (candidates_at candidates left) ≡ false →
    candidates_at candidates left ≡ decisions.survivors always compare_id (map seen candidates)
unfolding decisions.survivors
early_law always compare_id candidates all left every is not_so =
    let cs = fold (decisions.step_by decisions.key_of always) (map seen candidates) decisions.to_cost in
    let e : candidates_at candidates left ≡ cs = to_cost always candidates all left every is in
    let t : decisions.is_compared_by decisions.key_of compare_id cs ≡ false = ap (decisions.is_compared_by decisions.key_of compare_id) (sym e) ∙ not_so in
    e ∙ sym (ap (λ b. if b then fold (decisions.step_by decisions.key_of always) cs decisions.after_cost else cs) t)

-- where they are, what the last step leaves survives
pub late_law : (always compare_id : Bool) (candidates : List Candidate) (all left held : List ℕ) →
    candidates_at candidates all ≡ map seen candidates → left ≡ fold (places_left always candidates) all decisions.to_cost →
    decisions.is_compared_by decisions.key_of compare_id (candidates_at candidates left) ≡ true →
    held ≡ fold (places_left always candidates) left decisions.after_cost →
    candidates_at candidates held ≡ decisions.survivors always compare_id (map seen candidates)
unfolding decisions.survivors
late_law always compare_id candidates all left held every is so last =
    let cs = fold (decisions.step_by decisions.key_of always) (map seen candidates) decisions.to_cost in
    let e : candidates_at candidates left ≡ cs = to_cost always candidates all left every is in
    let t : decisions.is_compared_by decisions.key_of compare_id cs ≡ true = ap (decisions.is_compared_by decisions.key_of compare_id) (sym e) ∙ so in
    ap (candidates_at candidates) last ∙ steps_law always candidates left decisions.after_cost
    ∙ ap (λ xs. fold (decisions.step_by decisions.key_of always) xs decisions.after_cost) e
    ∙ sym (ap (λ b. if b then fold (decisions.step_by decisions.key_of always) cs decisions.after_cost else cs) t)
