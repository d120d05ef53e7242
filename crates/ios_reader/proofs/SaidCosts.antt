-- The number of a line of one number is in the range of its row, so that a cost is in its range.
use Rattle.std.proofs.Common.{◌≡◌, ℕ, ◌+◌, ◌≤◌, List, [], ◌∷◌, Option, Some, None, Ok, refl}
use Rattle.std.proofs.Common.{subst, ◌++◌, drop, option_map, Err}
use Rattle.std.specs.Prelude.{⊤}
use Rattle.std.specs.Option.{option_map_or, option_or}
use Rattle.ios_policy_reader.specs.declared.cause.Cause.TheVariants.{BadWord}
use Rattle.ios_policy_reader.specs.declared.edges.Edge.{Edge}
use Rattle.ios_policy_reader.specs.declared.edges.Takes.TheVariants.{End, Range}
use Rattle.ios_policy_reader.specs.declared.heads.Found.{Found}
use Rattle.ios_policy_reader.specs.declared.heads.Row.{Row}
use Rattle.ios_policy_reader.specs.declared.heads.Row.TheVariants.{OspfCost}
use Rattle.ios_policy_reader.specs.declared.said.Said.{Said}
use Rattle.ios_policy_reader.specs.declared.said.Tag.TheVariants.{Number as NumberTag, Plain}
use Rattle.ios_policy_reader.specs.declared.said.Value.TheVariants.{Number}
use Rattle.ios_policy_reader.specs.Edges.{goes, read_from, said_by}
use Rattle.ios_policy_reader.specs.Heads.{edges_of, state_of, tail_of, said_in}
use Rattle.ios_policy_reader.specs.Said.{number_under}
use Rattle.ios_policy_reader.specs.Words.{number_from}
use Rattle.ios_policy_reader.proofs.Numbers.{number_within}

-- ---- a line of one number

-- the table of a row with one number
abbrev one_number : ℕ → ℕ → List Edge
one_number low high =
    record { 0 = 0; 1 = Range low high; 2 = NumberTag; 3 = 1 } ∷ record { 0 = 1; 1 = End; 2 = Plain; 3 = 1 } ∷ []

abbrev IsWithin : ℕ → ℕ → List Said → Type 0
IsWithin low high said = (low ≤ number_under NumberTag said 0) × (number_under NumberTag said 0 ≤ high)

ended : (low high at n : ℕ) (rest : List (List ℕ)) (said : List Said) → (low ≤ n) × (n ≤ high)
    → read_from (one_number low high) 1 (record { tag = NumberTag; value = Number n } ∷ []) at rest ≡ Ok said
    → IsWithin low high said
unfolding said_by
ended low high at n [] said within h =
    let all : List Said = record { tag = NumberTag; value = Number n } ∷ [] in
    let same : all ≡ said = cc in
    subst (IsWithin low high) same within
ended low high at n (word ∷ rest) said within h = absurd cc

-- the number of a line of the row is in its range
pub one_number_within : (low high at : ℕ) (words : List (List ℕ)) (said : List Said)
    → read_from (one_number low high) 0 [] at words ≡ Ok said → IsWithin low high said
unfolding said_by
one_number_within low high at [] said h = absurd cc
one_number_within low high at (word ∷ rest) said h =
    by (number_from low high word) (λ n is. number_within low high n word is) h
  where
    by : (read : Option ℕ) → ((n : ℕ) → read ≡ Some n → (low ≤ n) × (n ≤ high))
        → option_map_or (λ way. read_from (one_number low high) way.to ([] ++ way.said ∷ []) (at + 1) rest)
        (option_or (option_map (goes (record { 0 = 0; 1 = Range low high; 2 = NumberTag; 3 = 1 }))
        (option_map (λ n. Number n) read)) None)
        (Err (BadWord (at + 1))) ≡ Ok said → IsWithin low high said
    by None within h = absurd cc
    by (Some n) within h = ended low high (at + 1) n rest said (within n refl) h

-- ---- the cost of an interface

-- where the row is that of a cost, what was said is one from 1 to 65535
abbrev pub SaysCost : Row → List Said → Type 0
SaysCost OspfCost said = IsWithin 1 65535 said
SaysCost _ said = ⊤

by_row : (row : Row) (at : ℕ) (words : List (List ℕ)) (said : List Said)
    → read_from (edges_of row) (state_of row) [] at words ≡ Ok said → SaysCost row said
unfolding edges_of
by_row OspfCost at words said h = one_number_within 1 65535 at words said h
by_row _ at words said h = tt

-- a line that was read says a cost in its range, where it says one
pub says_cost : (found : Found) (words : List (List ℕ)) (said : List Said) → said_in found words ≡ Ok said
    → SaysCost found.row said
says_cost found words said = by_row found.row (tail_of found) (drop (tail_of found) words) said
