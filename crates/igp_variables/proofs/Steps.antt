-- Steps of the loops over routes of new variables.
use Rattle.std.proofs.Common.{◌≡◌, ℕ, zero, suc, ◌+◌, ◌*◌, ◌≤◌, Bool, List, [], ◌∷◌, ◌++◌, Option, arith, map, max, refl}
use Rattle.std.proofs.Common.{sym, ap, subst, ◌∙◌}
use Rattle.std.proofs.lemmas.Grind.{common_steps}
use Rattle.std.proofs.lemmas.List.{append_assoc, map-append}
use Rattle.std.proofs.Math.Nat.{suc-mul}
use Rattle.route_record.specs.declared.OspfRec.{OspfRec}
use Rattle.term_store.specs.Terms.{Reading}
use Rattle.sym_policy.specs.declared.records.SymOspf.{SymOspf}
use Rattle.sym_policy.specs.Held.{ospf_end, ospf_of}
use Rattle.sym_ospf.specs.Routes.{routes_end}
use Rattle.failed_links.proofs.Steps.{grows_built, grows_grown}
use Rattle.igp_variables.specs.Rows.{route_from, routes_from}

-- ---- routes behind routes

pub routes_none : (width : ℕ) (v : ℕ → Bool) (from : ℕ) → routes_from width 0 v from ≡ []
unfolding routes_from
routes_none width v from = refl

pub routes_empty : (width m : ℕ) (v : ℕ → Bool) (from : ℕ) → routes_from width (0 * m) v from ≡ []
unfolding routes_from
routes_empty width m v from = let none : 0 * m ≡ 0 = omega arith in ap (λ k. routes_from width k v from) none

routes_append : (width m n : ℕ) (v : ℕ → Bool) (from : ℕ) →
    routes_from width (m + n) v from ≡ routes_from width m v from ++ routes_from width n v (from + m * suc width)
unfolding routes_from
routes_append width zero n v from =
    let many : zero + n ≡ n = omega arith in
    let none : zero * suc width ≡ 0 = omega arith in
    let place : from ≡ from + zero * suc width = omega (arith, none) in
    ap (λ k. routes_from width k v from) many ∙ ap (routes_from width n v) place
routes_append width (suc m) n v from =
    let many : suc m + n ≡ suc (m + n) = omega arith in
    let more = suc-mul m (suc width) in
    let place : from + suc width + m * suc width ≡ from + suc m * suc width = omega (arith, more) in
    ap (λ k. routes_from width k v from) many
    ∙ ap (λ rest. route_from width v from ∷ rest) (routes_append width m n v (from + suc width)
    ∙ ap (λ k. routes_from width m v (from + suc width) ++ routes_from width n v k) place)

-- one more
one_more : (width i : ℕ) (v : ℕ → Bool) (from : ℕ) →
    routes_from width (i + 1) v from ≡ routes_from width i v from ++ route_from width v (from + i * suc width) ∷ []
unfolding routes_from
one_more width i v from = routes_append width i 1 v from

-- a row more
pub row_more : (i m : ℕ) → i * m + m ≡ (i + 1) * m
row_more i m =
    let next : suc i ≡ i + 1 = omega arith in sym (suc-mul i m) ∙ ap (λ k. k * m) next

-- rows behind rows
pub both_times : (a b s : ℕ) → (a + b) * s ≡ a * s + b * s
both_times zero b s = let none : zero * s ≡ 0 = omega arith in omega (arith, none)
both_times (suc a) b s =
    let rest = both_times a b s in
    let first = suc-mul (a + b) s in
    let second = suc-mul a s in
    let same : suc a + b ≡ suc (a + b) = omega arith in
    ap (λ k. k * s) same ∙ omega (arith, rest, first, second)

-- ---- one more route at the end

pub routes_within : (made new : List SymOspf) (next : SymOspf) (m n : ℕ) → new ≡ made ++ next ∷ [] →
    routes_end made ≤ m → m ≤ n → ospf_end next ≤ n → routes_end new ≤ n
routes_within made new next m n is before grown within =
    subst (λ xs. routes_end xs ≤ n) (sym is) (pushed made before)
  where
    both : (a b : ℕ) → a ≤ n → b ≤ n → max a b ≤ n
    both a b first last = omega (arith, first, last)

    first_of : (a b : ℕ) → max a b ≤ m → a ≤ n
    first_of a b below = omega (arith, below, grown)

    rest_of : (a b : ℕ) → max a b ≤ m → b ≤ m
    rest_of a b below = omega (arith, below)

    pushed : (xs : List SymOspf) → routes_end xs ≤ m → routes_end (xs ++ next ∷ []) ≤ n
    pushed [] below = both (ospf_end next) 0 within (omega arith)
    pushed (x ∷ xs) below =
        both (ospf_end x) (routes_end (xs ++ next ∷ [])) (first_of (ospf_end x) (routes_end xs) below)
        (pushed xs (rest_of (ospf_end x) (routes_end xs) below))

-- it reads as the next of the row
pub next_read : (width : ℕ) (w : Reading) (old made new : List SymOspf) (next : SymOspf) (from at i : ℕ) →
    new ≡ made ++ next ∷ [] →
    map (ospf_of w) made ≡ map (ospf_of w) old ++ routes_from width i w.variable from → at ≡ from + i * suc width →
    ospf_of w next ≡ route_from width w.variable at →
    map (ospf_of w) new ≡ map (ospf_of w) old ++ routes_from width (i + 1) w.variable from
next_read width w old made new next from at i is before place read =
    let front = map (ospf_of w) old in
    let row = routes_from width i w.variable from in
    ap (map (ospf_of w)) is
    ∙ map-append (ospf_of w) made (next ∷ [])
    ∙ ap (λ ys. ys ++ ospf_of w next ∷ []) before
    ∙ ap (λ y. (front ++ row) ++ y ∷ []) (read ∙ ap (route_from width w.variable) place)
    ∙ append_assoc front row (route_from width w.variable (from + i * suc width) ∷ [])
    ∙ ap (λ ys. front ++ ys) (sym (one_more width i w.variable from))

-- so does a row at the end
pub row_read : (width : ℕ) (v : ℕ → Bool) (made new : List (Option OspfRec)) (from at i m : ℕ) →
    made ≡ routes_from width (i * m) v from → new ≡ made ++ routes_from width m v at →
    at ≡ from + i * m * suc width → new ≡ routes_from width ((i + 1) * m) v from
row_read width v made new from at i m before next place =
    next ∙ ap (λ ys. ys ++ routes_from width m v at) before
    ∙ ap (λ k. routes_from width (i * m) v from ++ routes_from width m v k) place
    ∙ sym (routes_append width (i * m) m v from) ∙ ap (λ k. routes_from width k v from) (row_more i m)

pub ruleset row_steps = (common_steps, grows_grown, routes_none)

pub ruleset all_steps = (common_steps, grows_grown, routes_none, routes_empty)

pub ruleset open_steps = (common_steps, grows_built, routes_none)
