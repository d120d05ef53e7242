-- What is read from a row of values, one after another.
use Rattle.std.proofs.Common.{◌≡◌, ℕ, suc, ◌+◌, ◌-◌, ◌*◌, ◌<◌, ◌≤◌, Bool, true, false, List, []}
use Rattle.std.proofs.Common.{◌∷◌, ◌++◌, length, get_or, refl, sym, ap, arith, ◌∙◌}
use Rattle.std.specs.Prelude.{if◌then◌else◌}
use Rattle.term_arith.specs.Bits.{bit, number_of}
use Rattle.sym_policy.specs.Held.{positions}
use Rattle.term_store.specs.Terms.{truth}
use Rattle.failed_links.specs.Rows.{number_from, row}
use Rattle.failed_links.proofs.Reading.{length-row}
use Rattle.failed_links.proofs.Steps.{row_more}

-- ---- one value, and numbers

pub truth_here : (values : List Bool) (i : ℕ) → get_or values i false ≡ truth values i
truth_here values i = refl

-- one bit more, below the others
pub number_next : (v : ℕ → Bool) (from width : ℕ) →
    number_from v from (width + 1) ≡ bit (v from) + 2 * number_from v (from + 1) width
unfolding number_from
number_next v from width =
    let more : width + 1 ≡ suc width = omega arith in ap (λ k. number_of (row v from k)) more

pub number_none : (v : ℕ → Bool) (from width : ℕ) → number_from v from (width - width) ≡ 0
unfolding number_from
number_none v from width = let none : width - width ≡ 0 = omega arith in ap (λ k. number_of (row v from k)) none

-- the bit below some others
pub number_put : (v : ℕ → Bool) (from width i n m : ℕ) → 0 < i → i ≤ width →
    n ≡ number_from v (from + i) (width - i) → m ≡ bit (v (from + (i - 1))) →
    2 * n + m ≡ number_from v (from + (i - 1)) (width - (i - 1))
number_put v from width i n m some within is low =
    let place : from + i ≡ from + (i - 1) + 1 = omega (arith, some) in
    let many : width - (i - 1) ≡ (width - i) + 1 = omega (arith, some, within) in
    let all = number_next v (from + (i - 1)) (width - i) in
    let before : n ≡ number_from v (from + (i - 1) + 1) (width - i) =
    is ∙ ap (λ k. number_from v k (width - i)) place in
    omega (arith, before, low, all) ∙ ap (number_from v (from + (i - 1))) (sym many)

-- ---- failed links

positions_more : (first : ℕ) (bs : List Bool) (b : Bool) →
    positions first (bs ++ b ∷ []) ≡ positions first bs ++ (if b then (first + length bs) ∷ [] else [])
positions_more first [] true = ap (λ n. n ∷ []) (omega arith)
positions_more first [] false = refl
positions_more first (true ∷ bs) b =
    let next : suc first + length bs ≡ first + suc (length bs) = omega arith in
    ap (λ rest. first ∷ rest) (positions_more (suc first) bs b
    ∙ ap (λ n. positions (suc first) bs ++ (if b then n ∷ [] else [])) next)
positions_more first (false ∷ bs) b =
    let next : suc first + length bs ≡ first + suc (length bs) = omega arith in
    positions_more (suc first) bs b ∙ ap (λ n. positions (suc first) bs ++ (if b then n ∷ [] else [])) next

-- one link more
pub failed_more : (v : ℕ → Bool) (from count : ℕ) →
    positions 0 (row v from count) ++ (if v (from + count) then count ∷ [] else [])
    ≡ positions 0 (row v from (count + 1))
failed_more v from count =
    let all = length-row v from count in
    let long : 0 + length (row v from count) ≡ count = omega (arith, all) in
    ap (λ n. positions 0 (row v from count) ++ (if v (from + count) then n ∷ [] else [])) (sym long)
    ∙ sym (positions_more 0 (row v from count) (v (from + count)))
    ∙ ap (positions 0) (row_more v from count)
