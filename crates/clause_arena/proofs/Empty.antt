-- An arena without clauses.
use Rattle.std.specs.Prelude.{ℕ, ◌≡◌, ◌*◌, List, [], replicate}
use Rattle.std.proofs.Common.{arith, subst, sym}
use Rattle.std.proofs.Common.{inl, inr}
use Rattle.std.proofs.lemmas.Bool.{cases_lt}
use Rattle.std.proofs.lemmas.List.{get_or-replicate, get_or_past, length-replicate}
use Rattle.clause_arena.specs.Links.{word, Threads, places}
use Rattle.mw_text.specs.Members.{In}
use Rattle.clause_arena.specs.Store.{IsSound}
use Rattle.clause_arena.proofs.Threads.{places_are}

pub word_of_zeros : (n k : ℕ) → word (replicate n 0) k ≡ 0
word_of_zeros n k = elim
    (cases_lt k n) [
      | inl h ↦ get_or-replicate n k 0 0 h
      | inr h ↦ get_or_past (replicate n 0) k 0
          (omega (arith, length-replicate {A = ℕ}))
    ]

-- no list has a place where all words are 0
pub places_of_zeros : (count n : ℕ) → places (replicate count 0) n ≡ []
places_of_zeros count n = places_are (replicate count 0) n [] (word_of_zeros count n) (λ p i. absurd i)

-- heads of empty lists are sound
pub sound_zeros : (vars : ℕ) → IsSound vars (replicate (vars * 2) 0) []
sound_zeros vars = record {
  laid = record {
    heads = omega (arith, length-replicate {A = ℕ});
    rising = tt;
    first = λ r i. absurd i;
    even = λ r i. absurd i;
    inside = λ r i. absurd i;
    apart = λ r s i. absurd i;
    below = λ r k i. absurd i;
    differ = λ r j k i. absurd i;
    numbers = λ r s i. absurd i;
  };
  linked = record {
    threads = λ n h. subst (λ (xs : List ℕ). Threads (word (replicate (vars * 2) 0)) n xs)
        (sym (places_of_zeros (vars * 2) n)) (word_of_zeros (vars * 2) n);
    watch = λ n p h i. absurd (subst (λ (xs : List ℕ). In p xs) (places_of_zeros (vars * 2) n) i);
    listed = λ r side i. absurd i;
  };
}
