-- The row of a counter: what each of its bits says, and one more bit.
use Rattle.std.proofs.Common.{◌≡◌, ℕ, ◌+◌, ◌<◌, ◌≤◌, zero, suc, Bool, true, false, not, ◌&&◌, ◌||◌, nat_lt, nat_le}
use Rattle.std.proofs.Common.{List, [], ◌∷◌, take, get_or, replicate, count_by, length, refl, sym, ap, ◌∙◌, arith}
use Rattle.std.proofs.lemmas.Bool.Decides.{nat_tests}
use Rattle.std.proofs.lemmas.List.{get_or-map, take_all}
use Rattle.std.proofs.lemmas.Bool.{le-leb}
use Rattle.std.proofs.lemmas.List.Sums.{count_by_more_no, count_by_more_yes, count_by-le-length}
use Rattle.term_store.specs.declared.NodeId.{NodeId}
use Rattle.term_store.specs.Terms.{Reading, at}
use Rattle.term_arith.specs.Bits.{bit, bits, raised}

-- bits that say "more than j", "more than j + 1" and so on of a count
abbrev pub tally : (j width count : ℕ) → List Bool
tally j zero count = []
tally j (suc m) count = nat_lt j count ∷ tally (j + 1) m count

-- the first bit of a row that counts one more
more_first : (j c : ℕ) (b : Bool) → (nat_lt j c || (nat_le j c && b)) ≡ nat_lt j (c + bit b)
more_first j c true = grind (arith, nat_tests)
more_first j c false = grind (arith, nat_tests)

-- a row that counts one more bit
pub raised-tally : (m j c : ℕ) (before b : Bool) → before ≡ nat_le j c
    → raised before b (tally j m c) ≡ tally j m (c + bit b)
raised-tally zero j c before b h = refl
raised-tally (suc m) j c before b h =
    let first : (nat_lt j c || (before && b)) ≡ nat_lt j (c + bit b) = ap (λ t. nat_lt j c || (t && b)) h
    ∙ more_first j c b in
    let rest = raised-tally m (j + 1) c (nat_lt j c) b (grind (arith, nat_tests)) in
    cc

-- the bit of a number in the row
pub get_or-tally : (m j c i : ℕ) (d : Bool) → i < m → get_or (tally j m c) i d ≡ nat_lt (j + i) c
get_or-tally zero j c i d h = absurd (omega arith)
get_or-tally (suc m) j c zero d h = ap (λ k. nat_lt k c) (omega arith)
get_or-tally (suc m) j c (suc i) d h = get_or-tally m (j + 1) c i d (omega arith) ∙ ap (λ k. nat_lt k c) (omega arith)

-- a count with one more item
pub count_by_more : (w : Reading) (ids : List NodeId) (i : ℕ) (d : NodeId) → i < length ids
    → count_by (at w) (take (i + 1) ids) ≡ count_by (at w) (take i ids) + bit (at w (get_or ids i d))
count_by_more w ids i d h = by (at w (get_or ids i d)) refl
  where
    by : (b : Bool) → at w (get_or ids i d) ≡ b
        → count_by (at w) (take (i + 1) ids) ≡ count_by (at w) (take i ids) + bit (at w (get_or ids i d))
    by true e = count_by_more_yes (at w) ids i d h e ∙ ap (λ b. count_by (at w) (take i ids) + bit b) (sym e)
    by false e =
        count_by_more_no (at w) ids i d h e ∙ sym (ap (λ b. count_by (at w) (take i ids) + bit b) e ∙ omega arith)

-- nothing is counted yet
pub tally-none : (w : Reading) (m j : ℕ) (off : NodeId) → at w off ≡ false → bits w (replicate m off) ≡ tally j m 0
tally-none w zero j off h = refl
tally-none w (suc m) j off h =
    let first : at w off ≡ nat_lt j 0 = h ∙ grind (arith, nat_tests) in let rest = tally-none w m (j + 1) off h in cc

-- a row at its last bit
pub at_tally : (w : Reading) (row : List NodeId) (k c : ℕ) (d : NodeId) → length row ≡ k + 1
    → bits w row ≡ tally 0 (k + 1) c → at w (get_or row k d) ≡ nat_lt k c
at_tally w row k c d width value =
    sym (get_or-map (at w) row k d false (omega arith)) ∙ ap (λ l. get_or l k false) value
    ∙ get_or-tally (k + 1) 0 c k false (omega arith) ∙ ap (λ n. nat_lt n c) (omega arith)

-- the negation of "more than k" is "at most k"
pub not_more : (k c : ℕ) → not (nat_lt k c) ≡ nat_le c k
not_more k c = grind (arith, nat_tests)

-- one more of the counted nodes
pub count_step : (w : Reading) (ids row : List NodeId) (i k : ℕ) (d top : NodeId) → i < length ids → at w top ≡ true
    → bits w row ≡ tally 0 k (count_by (at w) (take i ids))
    → raised (at w top) (at w (get_or ids i d)) (bits w row) ≡ tally 0 k (count_by (at w) (take (i + 1) ids))
count_step w ids row i k d top h true_first so_far =
    let count = count_by (at w) (take i ids) in
    let b = at w (get_or ids i d) in
    ap (raised (at w top) b) so_far ∙ raised-tally k 0 count (at w top) b (true_first ∙ grind (arith, nat_tests))
    ∙ ap (tally 0 k) (sym (count_by_more w ids i d h))

-- all are counted
pub count_done : (w : Reading) (ids row : List NodeId) (i k : ℕ) (d : NodeId) → length ids ≤ i → length row ≡ k + 1
    → bits w row ≡ tally 0 (k + 1) (count_by (at w) (take i ids)) → not (at w (get_or row k d)) ≡ nat_le
    (count_by (at w) ids) k
count_done w ids row i k d end width so_far =
    ap not (at_tally w row k _ d width so_far) ∙ not_more k (count_by (at w) (take i ids))
    ∙ ap (λ l. nat_le (count_by (at w) l) k) (take_all i ids end)

-- no more are true than there are
pub count_all : (w : Reading) (ids : List NodeId) (k : ℕ) → length ids ≤ k → nat_le (count_by (at w) ids) k ≡ true
count_all w ids k h = le-leb (count_by (at w) ids) k (omega (arith, count_by-le-length (at w) ids))
