-- From lists that are given to those that are computed.
use Rattle.std.specs.Prelude.{ℕ, ◌≡◌, ◌+◌, ◌*◌, ◌<◌, ◌≤◌, ◌⊎◌, List, [], ◌∷◌, ◌++◌, length, refl}
use Rattle.std.proofs.Common.{sym, subst, inl, inr, arith}
use Rattle.clause_arena.specs.Links.{word, Threads, places}
use Rattle.mw_text.specs.Members.{In}
use Rattle.clause_arena.specs.Store.{Rises, IsWatch, IsLaid, IsLinked, IsSound}
use Rattle.clause_arena.proofs.Threads.{places_are as list_places}

-- the words are sound, and these are the lists
pub record Settles (vars : ℕ) (ws refs : List ℕ) (lists : ℕ → List ℕ) : Type 0 where
  pub sound : IsSound vars ws refs
  pub places_are : (n : ℕ) → n < 2 * vars → places ws n ≡ lists n

-- the link of a watch is within the words
pub within_words : (vars : ℕ) (ws refs : List ℕ) (n p : ℕ) → IsLaid vars (length ws) (word ws) refs
    → IsWatch (word ws) refs n p → p < length ws
within_words vars ws refs n p laid w =
    let inside : w.ref + 4 + word ws w.ref ≤ length ws = laid.inside w.ref w.held in
    let at : p ≡ w.ref + 2 + w.side = w.place in
    let low : w.side < 2 = w.low in
    omega arith

pub settle : (vars : ℕ) (ws refs : List ℕ) (lists : ℕ → List ℕ) → IsLaid vars (length ws) (word ws) refs
    → IsLinked vars (word ws) refs lists
    → Settles vars ws refs lists
settle vars ws refs lists laid linked =
    let within = λ (n : ℕ) (h : n < 2 * vars) (p : ℕ) (i : In p (lists n)).
    within_words vars ws refs n p laid (linked.watch n p h i) in
    let e : (n : ℕ) → n < 2 * vars → places ws n ≡ lists n =
    λ n h. list_places ws n (lists n) (linked.threads n h) (within n h) in
    record {
      sound = record {
        laid = laid;
        linked = record {
          threads = λ n h. subst (λ (xs : List ℕ). Threads (word ws) n xs) (sym (e n h)) (linked.threads n h);
          watch = λ n p h i. linked.watch n p h (subst (λ (xs : List ℕ). In p xs) (e n h) i);
          listed = λ r side held two low.
              let below : word ws (r + 4 + side) < 2 * vars = laid.below r side held (omega arith) in
              subst (λ (xs : List ℕ). In (r + 2 + side) xs) (sym (e (word ws (r + 4 + side)) below))
              (linked.listed r side held two low);
        };
      };
      places_are = e;
    }

-- ---- members

pub in_split : (s r : ℕ) (rs : List ℕ) → In s (rs ++ r ∷ []) → In s rs ⊎ (s ≡ r)
in_split s r [] (inl e) = inr e
in_split s r [] (inr i) = absurd i
in_split s r (q ∷ qs) (inl e) = inl (inl e)
in_split s r (q ∷ qs) (inr i) = elim (in_split s r qs i) [ inl k ↦ inl (inr k) | inr k ↦ inr k ]

pub in_front : (s r : ℕ) (rs : List ℕ) → In s rs → In s (rs ++ r ∷ [])
in_front s r [] i = absurd i
in_front s r (q ∷ qs) (inl e) = inl e
in_front s r (q ∷ qs) (inr i) = inr (in_front s r qs i)

pub in_end : (r : ℕ) (rs : List ℕ) → In r (rs ++ r ∷ [])
in_end r [] = inl refl
in_end r (q ∷ qs) = inr (in_end r qs)

pub rises_end : (r : ℕ) (rs : List ℕ) → Rises rs → ((s : ℕ) → In s rs → s < r) → Rises (rs ++ r ∷ [])
rises_end r [] up below = (λ s i. absurd i, tt)
rises_end r (q ∷ qs) up below = (
  λ s i. elim (in_split s r qs i) [ inl k ↦ up.0 s k | inr k ↦ subst (λ (u : ℕ). q < u) (sym k) (below q (inl refl)) ],
  rises_end r qs up.1 (λ s i. below s (inr i)),
)
