-- Lists of nodes, item by item: their ends, their bits and the numbers of these.
use Rattle.std.proofs.Common.{◌≡◌, ℕ, ◌+◌, ◌*◌, ◌/◌, ◌%◌, ◌^◌, nat_eq, ◌<◌, ◌≤◌, zero, suc, max, Bool, true, false}
use Rattle.std.proofs.Common.{not, nat_lt, replicate}
use Rattle.std.specs.Prelude.{slice_index_or}
use Rattle.std.proofs.Common.{if◌then◌else◌, List, [], ◌∷◌, ◌++◌, take, drop, get_or, length, refl, sym, ap, subst}
use Rattle.std.proofs.Common.{◌∙◌, arith}
use Rattle.std.proofs.lemmas.List.{drop_more, drop_all, take_more, map-append, get_or-map, length-map}
use Rattle.std.proofs.lemmas.Bool.{eqb-true, false_from_ne_true, lt-ltb, ltb-true}
use Rattle.std.proofs.lemmas.Bool.Decides.{nat_tests}
use Rattle.std.proofs.lemmas.Grind.{common_steps}
use Rattle.std.proofs.Math.Nat.{pow-suc, pow-succ', div-one, div-div-eq-div-mul, zero-div}
use Rattle.term_store.specs.declared.NodeId.{NodeId}
use Rattle.term_store.specs.Terms.{Reading, at, differ}
use Rattle.term_arith.specs.Bits.{bit, bits, number, ids_end, variables}

-- a bit is 0 or 1
pub bit_small : (b : Bool) → bit b ≤ 1
bit_small true = omega arith
bit_small false = omega arith

-- the low bit and the carry of three bits
pub full_adder : (a b c : Bool)
    → bit (differ (differ a b) c) + 2 * bit (if differ a b then c else a) ≡ bit a + bit b + bit c
full_adder true true true = refl
full_adder true true false = refl
full_adder true false true = refl
full_adder true false false = refl
full_adder false true true = refl
full_adder false true false = refl
full_adder false false true = refl
full_adder false false false = refl

-- a node of a list is below the list's end
pub ids_end_at : (ids : List NodeId) (i : ℕ) (d : NodeId) → i < length ids → (get_or ids i d).0 < ids_end ids
ids_end_at [] i d h = absurd (omega arith)
ids_end_at (id ∷ ids) zero d h = omega arith
ids_end_at (id ∷ ids) (suc i) d h = let rest = ids_end_at ids i d (omega arith) in omega arith

-- an end with one more node
pub ids_end_push : (ids : List NodeId) (id : NodeId) → ids_end (ids ++ id ∷ []) ≡ max (ids_end ids) (id.0 + 1)
ids_end_push [] id = omega arith
ids_end_push (x ∷ ids) id = let rest = ids_end_push ids id in omega arith

-- the same node again and again
pub ids_end_same : (n : ℕ) (id : NodeId) (size : ℕ) → id.0 < size → ids_end (replicate n id) ≤ size
ids_end_same zero id size within = omega arith
ids_end_same (suc n) id size within = let rest = ids_end_same n id size within in omega (arith, rest, within)

pub bits_same : (w : Reading) (n : ℕ) (id : NodeId) → at w id ≡ false → bits w (replicate n id) ≡ replicate n false
bits_same w zero id none = refl
bits_same w (suc n) id none = rw none (ap (λ bs. false ∷ bs) (bits_same w n id none))

pub number_same : (w : Reading) (n : ℕ) (id : NodeId) → at w id ≡ false → number w (replicate n id) ≡ 0
number_same w zero id none = refl
number_same w (suc n) id none = let rest = number_same w n id none in rw none (omega (arith, rest))

pub ruleset zero_steps = (ids_end_same, bits_same, number_same)

-- a number's lowest bit, and the rest
pub number_drop : (w : Reading) (ids : List NodeId) (i : ℕ) (d : NodeId) → i < length ids
    → bit (at w (get_or ids i d)) + 2 * number w (drop (i + 1) ids) ≡ number w (drop i ids)
number_drop w ids i d h = ap (number w) (sym (drop_more ids i d h))

-- past the end nothing is left
pub number_drop_end : (w : Reading) (ids : List NodeId) (i : ℕ) → length ids ≤ i → number w (drop i ids) ≡ 0
number_drop_end w ids i h = ap (number w) (drop_all i ids h)

-- one more node is one more bit
pub bits_push : (w : Reading) (ids : List NodeId) (id : NodeId) → bits w (ids ++ id ∷ []) ≡ bits w ids ++ at w id ∷ []
bits_push w ids id = map-append (at w) ids (id ∷ [])

pub bits_take : (w : Reading) (ids : List NodeId) (i : ℕ) (d : NodeId) → i < length ids
    → bits w (take (i + 1) ids) ≡ bits w (take i ids) ++ at w (get_or ids i d) ∷ []
bits_take w ids i d h = ap (bits w) (take_more ids i d h) ∙ bits_push w (take i ids) (get_or ids i d)

-- the number whose lowest bits are given, above which another number stands
abbrev pub onto : List Bool → ℕ → ℕ
onto [] n = n
onto (b ∷ bs) n = bit b + 2 * onto bs n

-- one more bit is taken from the number above
pub onto_push : (w : Reading) (ids : List NodeId) (id : NodeId) (n : ℕ)
    → onto (bits w (ids ++ id ∷ [])) n ≡ onto (bits w ids) (bit (at w id) + 2 * n)
onto_push w [] id n = refl
onto_push w (x ∷ ids) id n = ap (λ m. bit (at w x) + 2 * m) (onto_push w ids id n)

-- with nothing above it is the number of the bits
pub onto_zero : (w : Reading) (ids : List NodeId) → onto (bits w ids) 0 ≡ number w ids
onto_zero w [] = refl
onto_zero w (x ∷ ids) = ap (λ m. bit (at w x) + 2 * m) (onto_zero w ids)

-- one bit of an addition: what is still to be added stands above the bits that are there
pub add_step : (w : Reading) (a b out : List NodeId) (i : ℕ) (d : NodeId) (low next carry : NodeId) (total : ℕ)
    → i < length a → i < length b
    → bit (at w low) + 2 * bit (at w next) ≡ bit (at w (get_or a i d)) + bit (at w (get_or b i d)) + bit (at w carry)
    → onto (bits w out) (bit (at w carry) + number w (drop i a) + number w (drop i b)) ≡ total
    → onto (bits w (out ++ low ∷ [])) (bit (at w next) + number w (drop (i + 1) a) + number w (drop (i + 1) b)) ≡ total
add_step w a b out i d low next carry total in_a in_b sum so_far =
    onto_push w out low (bit (at w next) + number w (drop (i + 1) a) + number w (drop (i + 1) b))
    ∙ ap (onto (bits w out)) (omega (arith, sum, number_drop w a i d in_a, number_drop w b i d in_b))
    ∙ so_far

-- the end of an addition: the carry stands above the bits
pub add_done : (w : Reading) (a b out : List NodeId) (i : ℕ) (carry : NodeId) (total : ℕ) → length a ≤ i → length b ≤ i
    → onto (bits w out) (bit (at w carry) + number w (drop i a) + number w (drop i b)) ≡ total
    → onto (bits w out) (bit (at w carry)) ≡ total
add_done w a b out i carry total end_a end_b so_far =
    ap (onto (bits w out)) (omega (arith, number_drop_end w a i end_a, number_drop_end w b i end_b)) ∙ so_far

-- the sum with the carry as its highest bit
pub add_whole : (w : Reading) (out : List NodeId) (carry : NodeId) (total : ℕ) → onto (bits w out) (bit (at w carry))
    ≡ total
    → number w (out ++ carry ∷ []) ≡ total
add_whole w out carry total so_far =
    sym (onto_zero w (out ++ carry ∷ [])) ∙ onto_push w out carry 0
    ∙ ap (onto (bits w out)) (omega arith) ∙ so_far

-- a number by its lowest bit
half_and_bit : (n : ℕ) → bit (nat_eq (n % 2) 1) + 2 * (n / 2) ≡ n
half_and_bit n = by (nat_eq (n % 2) 1) refl
  where
    by : (b : Bool) → nat_eq (n % 2) 1 ≡ b → bit (nat_eq (n % 2) 1) + 2 * (n / 2) ≡ n
    by true e = ap (λ b. bit b + 2 * (n / 2)) e ∙ (let odd : n % 2 ≡ 1 = eqb-true (n % 2) 1 e in omega arith)
    by false e = ap (λ b. bit b + 2 * (n / 2)) e ∙ (let even : n % 2 ≡ 0 = grind (arith, nat_tests) in omega arith)

-- one bit of a known number: the rest of it stands above the bits that are there
pub constant_step : (w : Reading) (ids : List NodeId) (id : NodeId) (rest total : ℕ) → at w id ≡ nat_eq (rest % 2) 1
    → onto (bits w ids) rest ≡ total → onto (bits w (ids ++ id ∷ [])) (rest / 2) ≡ total
constant_step w ids id rest total value so_far =
    onto_push w ids id (rest / 2) ∙ ap (onto (bits w ids)) (ap (λ b. bit b + 2 * (rest / 2)) value ∙ half_and_bit rest)
    ∙ so_far

-- nothing stands above where the whole fits the bits
onto_fits : (w : Reading) (ids : List NodeId) (rest : ℕ) → onto (bits w ids) rest < 2 ^ length ids → rest ≡ 0
onto_fits w [] rest h = omega arith
onto_fits w (id ∷ ids) rest h = onto_fits w ids rest (omega (arith, pow-suc 2 (length ids)))

pub constant_done : (w : Reading) (ids : List NodeId) (width rest total : ℕ) → length ids ≡ width → total < 2 ^ width
    → onto (bits w ids) rest ≡ total → number w ids ≡ total
constant_done w ids width rest total long fits so_far =
    let small : onto (bits w ids) rest < 2 ^ length ids =
    subst (λ n. n < 2 ^ length ids) (sym so_far) (subst (λ n. total < 2 ^ n) (sym long) fits) in
    sym (onto_zero w ids) ∙ ap (onto (bits w ids)) (sym (onto_fits w ids rest small)) ∙ so_far

-- as many bits as nodes
pub length_bits : (w : Reading) (ids : List NodeId) → length (bits w ids) ≡ length ids
length_bits w ids = length-map ids (at w)

-- the bit of a node
pub bits_at : (w : Reading) (ids : List NodeId) (i : ℕ) (d : NodeId) → i < length ids
    → get_or (bits w ids) i false ≡ at w (get_or ids i d)
bits_at w ids i d h = get_or-map (at w) ids i d false h

-- the value of the node at a place
pub node_at_place : (w : Reading) (ids : List NodeId) (k : ℕ) (d : NodeId) → k < length ids
    → slice_index_or (bits w ids) k false ≡ at w (get_or ids k d)
node_at_place w ids k d within = bits_at w ids k d within

-- a number is below the power of its width
pub number_below : (w : Reading) (ids : List NodeId) → number w ids < 2 ^ length ids
number_below w [] = omega arith
number_below w (id ∷ ids) =
    let rest = number_below w ids in let low = bit_small (at w id) in omega (arith, pow-suc 2 (length ids))

-- without a carry the bits are the whole sum
pub add_low : (w : Reading) (out : List NodeId) (carry : NodeId) (total : ℕ) → onto (bits w out) (bit (at w carry))
    ≡ total
    → not (at w carry) ≡ true → number w out ≡ total
add_low w out carry total so_far none = sym (onto_zero w out) ∙ ap (onto (bits w out)) (zero_bit (at w carry) none)
    ∙ so_far
  where
    zero_bit : (b : Bool) → not b ≡ true → 0 ≡ bit b
    zero_bit false same = refl
    zero_bit true same = cc

-- there is no carry exactly where the sum fits
pub add_fits : (w : Reading) (out : List NodeId) (carry : NodeId) (width total : ℕ) → length out ≡ width
    → onto (bits w out) (bit (at w carry)) ≡ total → not (at w carry) ≡ nat_lt total (2 ^ width)
add_fits w out carry width total long so_far = by (at w carry) refl
  where
    by : (b : Bool) → at w carry ≡ b → not (at w carry) ≡ nat_lt total (2 ^ width)
    by false none =
        let low = add_low w out carry total so_far (ap not none) in
        let P : ℕ → Type 0 = λ n. n < 2 ^ length out in
        let Q : ℕ → Type 0 = λ n. total < 2 ^ n in
        ap not none ∙ sym (lt-ltb total (2 ^ width) (subst Q long (subst P low (number_below w out))))
    by true some = ap not some ∙ sym (false_from_ne_true (nat_lt total (2 ^ width)) above)
      where
        above : nat_lt total (2 ^ width) ≡ true → ⊥
        above fits =
            let P : ℕ → Type 0 = λ n. n < 2 ^ length out in
            let Q : ℕ → Type 0 = λ n. total < 2 ^ n in
            let small = subst P (sym so_far) (subst Q (sym long) (ltb-true total (2 ^ width) fits)) in
            let zero_carry = onto_fits w out (bit (at w carry)) small in
            let one_carry : bit (at w carry) ≡ 1 = ap bit some in
            omega (arith, zero_carry, one_carry)

-- the high bits of a number are its quotient by a power of two
pub number_high : (w : Reading) (ids : List NodeId) (i : ℕ) → number w (drop i ids) ≡ number w ids / 2 ^ i
number_high w ids zero = sym (div-one (number w ids))
number_high w [] (suc i) = ap (number w) (drop_all (suc i) [] (omega arith)) ∙ sym (zero-div (2 ^ suc i))
number_high w (id ∷ ids) (suc i) =
    let low = bit_small (at w id) in
    let half : number w ids ≡ number w (id ∷ ids) / 2 = omega arith in
    number_high w ids i ∙ ap (λ n. n / 2 ^ i) half ∙ div-div-eq-div-mul (number w (id ∷ ids)) 2 (2 ^ i)
    ∙ ap (λ n. number w (id ∷ ids) / n) (sym (pow-succ' 2 i))

-- an end of some of the nodes
pub ids_end_take : (ids : List NodeId) (i : ℕ) → ids_end (take i ids) ≤ ids_end ids
ids_end_take ids zero = omega arith
ids_end_take [] (suc i) = omega arith
ids_end_take (id ∷ ids) (suc i) = let rest = ids_end_take ids i in omega arith

pub ids_end_drop : (ids : List NodeId) (i : ℕ) → ids_end (drop i ids) ≤ ids_end ids
ids_end_drop ids zero = omega arith
ids_end_drop [] (suc i) = omega arith
ids_end_drop (id ∷ ids) (suc i) = let rest = ids_end_drop ids i in omega arith

-- for a loop over nodes, in `using`: the usual steps on lists, and those on ends, bits and numbers
pub ruleset node_steps =
    (common_steps, ids_end_at, ids_end_push, ids_end_take, ids_end_drop, bits_push, bits_take, number_drop, length_bits)

-- one more variable
pub variables_more : (w : Reading) (first count : ℕ)
    → variables w first count ++ w.variable (first + count) ∷ [] ≡ variables w first (count + 1)
variables_more w first zero = ap (λ n. w.variable n ∷ []) (omega arith)
variables_more w first (suc count) =
    let rest = variables_more w (first + 1) count in
    let place : first + suc count ≡ first + 1 + count = omega arith in
    let width : suc (count + 1) ≡ suc count + 1 = omega arith in
    ap (λ n. (w.variable first ∷ variables w (first + 1) count) ++ w.variable n ∷ []) place
    ∙ ap (λ bs. w.variable first ∷ bs) rest
    ∙ ap (variables w first) width

-- for a loop over new variables, in `using`
pub ruleset fresh_steps = (common_steps, ids_end_push, bits_push, variables_more)
