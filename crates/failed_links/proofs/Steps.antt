-- Stores that grow, and numbers of new variables.
use Rattle.std.proofs.Common.{◌≡◌, ℕ, zero, suc, ◌+◌, ◌*◌, ◌^◌, Bool, List, [], ◌∷◌, ◌++◌, length, refl, ap}
use Rattle.std.proofs.Common.{arith}
use Rattle.std.proofs.Common.{◌∙◌, false}
use Rattle.std.proofs.lemmas.List.{map-append, length-map}
use Rattle.std.proofs.Math.Nat.{mul_right_comm, pow-suc}
use Rattle.term_store.specs.declared.NodeId.{NodeId}
use Rattle.term_store.specs.Terms.{Reading, Store, at}
use Rattle.term_store.specs.Reading.{Builds, Grows}
use Rattle.term_arith.specs.Bits.{bits, number, number_of, variables}
use Rattle.term_arith.proofs.NumberLemmas.{bits_push, ids_end_push}
use Rattle.std.proofs.lemmas.Grind.{common_steps}
use Rattle.failed_links.specs.Failures.{none_of}
use Rattle.failed_links.specs.Rows.{number_from, row}

-- a store that is built on grows
pub grows_built : {s t : Store} → Builds s t → Grows s t
grows_built built = record {
  larger = built.larger;
  more_vars = omega (arith, built.same_vars);
  reads = built.reads;
  keeps = built.keeps;
}

pub variables_row : (w : Reading) (from count : ℕ) → variables w from count ≡ row w.variable from count
variables_row w from zero = refl
variables_row w from (suc count) = ap (λ rest. w.variable from ∷ rest) (variables_row w (from + 1) count)

-- the number of new variables
pub number_fresh : (w : Reading) (ids : List NodeId) (from width : ℕ) → bits w ids ≡ variables w from width →
    number w ids ≡ number_from w.variable from width
unfolding number_from
number_fresh w ids from width same = ap number_of (same ∙ variables_row w from width)

number_of_append : (xs ys : List Bool) → number_of (xs ++ ys) ≡ number_of xs + 2 ^ length xs * number_of ys
number_of_append [] ys = omega arith
number_of_append (b ∷ xs) ys =
    let rest = number_of_append xs ys in
    omega (
      arith,
      rest,
      ap (λ k. k * number_of ys) (pow-suc 2 (length xs)),
      mul_right_comm (2 ^ length xs) 2
          (number_of ys),
    )

-- a number above another
pub number_above : (w : Reading) (low high : List NodeId) →
    number w (low ++ high) ≡ number w low + 2 ^ length low * number w high
number_above w low high =
    ap number_of (map-append (at w) low high) ∙ number_of_append (bits w low) (bits w high)
    ∙ ap (λ k. number w low + 2 ^ k * number w high) (length-map low (at w))

pub grows_grown : {s t u : Store} → Grows s t → Grows t u → Grows s u
grows_grown first next = record {
  larger = omega (arith, first.larger, next.larger);
  more_vars = omega (arith, first.more_vars, next.more_vars);
  reads = λ w reads. first.reads w (next.reads w reads);
  keeps = λ i n stands. next.keeps i n (first.keeps i n stands);
}

pub row_more : (v : ℕ → Bool) (first count : ℕ) → row v first count ++ v (first + count) ∷ [] ≡ row v first (count + 1)
row_more v first zero = ap (λ n. v n ∷ []) (omega arith)
row_more v first (suc count) =
    let rest = row_more v (first + 1) count in
    let place : first + suc count ≡ first + 1 + count = omega arith in
    let width : suc (count + 1) ≡ suc count + 1 = omega arith in
    ap (λ n. (v first ∷ row v (first + 1) count) ++ v n ∷ []) place ∙ ap (λ bs. v first ∷ bs) rest
    ∙ ap (row v first) width

pub none_more : (count : ℕ) → none_of count ++ false ∷ [] ≡ none_of (count + 1)
none_more zero = refl
none_more (suc count) =
    let width : suc (count + 1) ≡ suc count + 1 = omega arith in
    ap (λ bs. false ∷ bs) (none_more count) ∙ ap none_of width

-- for loops over new variables and constants, in `using`
pub ruleset row_steps = (common_steps, ids_end_push, bits_push, row_more)

pub ruleset none_steps = (common_steps, ids_end_push, bits_push, none_more)
