-- A clause is written, and its watches are put in front of their lists.
use Rattle.std.specs.Prelude.{ℕ, ◌≡◌, ◌≢◌, ◌+◌, ◌-◌, ◌<◌, ◌≤◌, List, ◌++◌, length, take, map, replicate, refl}
use Rattle.std.proofs.Common.{sym, ◌∙◌, subst, inl, inr, arith, get_or}
use Rattle.std.proofs.lemmas.Bool.{cases_eq, cases_lt}
use Rattle.std.proofs.lemmas.List.{get_or-set_same, get_or-set_other, get_or-map, get_or_append_left}
use Rattle.std.proofs.lemmas.List.{get_or-append_right, get_or_past, take_all, take-append-le, length-append, length-replicate}
use Rattle.clause_arena.specs.Links.{word}
use Rattle.std.proofs.Math.ListN.{set, length-set}
use Rattle.resolution_check.specs.declared.log.Lit.{Lit}
use Rattle.clause_arena.specs.Held.{code_of}
use Rattle.clause_arena.specs.Changes.{HasCodes, IsWritten, IsPut, IsPlaced}
use Rattle.clause_arena.proofs.Empty.{word_of_zeros}

-- a clause of fewer than two literals has no watches
pub placed_few : (f g : ℕ → ℕ) (r id : ℕ) (codes : List ℕ) → IsWritten f g r id codes → length codes < 2
    → IsPlaced f g r id codes
placed_few f g r id codes w few = record {
  size = w.size;
  number = w.number;
  codes_at = w.codes_at;
  links = λ side two low. absurd (omega arith);
  heads = λ side two low. absurd (omega arith);
  others = λ j b o. w.others j b;
}

-- a clause of two literals or more has two
pub placed_two : (f g h i : ℕ → ℕ) (r id : ℕ) (codes : List ℕ) → IsWritten f g r id codes → 2 ≤ length codes
    → word codes 0 < r → word codes 1 < r → word codes 0 ≢ word codes 1
    → IsPut g h (word codes 0) (r + 2) → IsPut h i (word codes 1) (r + 3) → IsPlaced f i r id codes
placed_two f g h i r id codes w two low0 low1 apart p q =
    let keep : (j : ℕ) → j ≢ r + 2 → j ≢ r + 3 → j ≢ word codes 0 → j ≢ word codes 1 → i j ≡ g j =
    λ j a b c d. q.others j b d ∙ p.others j a c in
    let link0 : i (r + 2) ≡ f (word codes 0) = q.others (r + 2) (omega arith) (omega arith) ∙ p.link
    ∙ w.others (word codes 0) low0 in
    let link1 : i (r + 3) ≡ f (word codes 1) = q.link ∙ p.others (word codes 1) (omega arith) (omega arith)
    ∙ w.others (word codes 1) low1 in
    let head0 : i (word codes 0) ≡ r + 2 = q.others (word codes 0) (omega arith) (omega arith) ∙ p.head in
    let head1 : i (word codes 1) ≡ r + 3 = q.head in
    record {
      size = keep r (omega arith) (omega arith) (omega arith) (omega arith) ∙ w.size;
      number = keep (r + 1) (omega arith) (omega arith) (omega arith) (omega arith) ∙ w.number;
      codes_at = λ k b. keep (r + 4 + k) (omega arith) (omega arith) (omega arith) (omega arith) ∙ w.codes_at k b;
      links = λ side m low. elim (cases_eq side 0) [
        | inl z ↦ subst (λ (k : ℕ). i (r + 2 + k) ≡ f (word codes k)) (sym z) (let e : r + 2 ≡ r + 2
            + 0 = omega arith in subst (λ (u : ℕ). i u ≡ f (word codes 0)) e link0)
        | inr nz ↦ (let one : side ≡ 1 = omega arith in
            subst (λ (k : ℕ). i (r + 2 + k) ≡ f (word codes k)) (sym one) (let e : r + 3 ≡ r + 2 + 1 = omega arith in
            subst (λ (u : ℕ). i u ≡ f (word codes 1)) e link1))
      ];
      heads = λ side m low. elim (cases_eq side 0) [
        | inl z ↦ subst (λ (k : ℕ). i (word codes k) ≡ r + 2 + k) (sym z) (head0 ∙ omega arith)
        | inr nz ↦ (let one : side ≡ 1 = omega arith in
            subst (λ (k : ℕ). i (word codes k) ≡ r + 2 + k) (sym one) (head1 ∙ omega arith))
      ];
      others = λ j b o. keep j (omega arith) (omega arith) (o 0 (omega arith) two) (o 1 (omega arith) two)
          ∙ w.others j b;
    }

-- words with zeros behind them and a number at a place, as they are read before it
pub grown_word : (ws : List ℕ) (more at id k : ℕ) → k < at → word (set (ws ++ replicate more 0) at id) k ≡ word ws k
grown_word ws more at id k low =
    let ne : k ≢ at = omega arith in
    get_or-set_other (ws ++ replicate more 0) at k id 0 ne ∙ elim (cases_lt k (length ws)) [
      | inl l ↦ get_or_append_left ws (replicate more 0) 0 k l
      | inr l ↦ get_or-append_right ws (replicate more 0) (length ws) k 0 refl l ∙ word_of_zeros more (k - length ws)
          ∙ sym (get_or_past ws k 0 l)
    ]

-- how many they are
pub grown_length : (ws : List ℕ) (n at id : ℕ) → length ws ≤ n
    → length (set (ws ++ replicate (n - length ws) 0) at id) ≡ n
grown_length ws n at id h = omega (arith, length-set {A = ℕ}, length-append {A = ℕ}, length-replicate {A = ℕ})

-- a place among them
pub room_made : (ws : List ℕ) (n at : ℕ) → length ws ≤ n → at < n → at < length (ws ++ replicate (n - length ws) 0)
room_made ws n at h low = omega (arith, length-append {A = ℕ}, length-replicate {A = ℕ})

-- ---- the writes

-- one code more
pub code_written : (ws : List ℕ) (lits : List Lit) (at i v : ℕ) (d : Lit) → at + i < length ws → i < length lits
    → v ≡ code_of (get_or lits i d)
    → ((k : ℕ) → k < i → word ws (at + k) ≡ word (map code_of lits) k) → (k : ℕ) → k < i + 1
    → word (set ws (at + i) v) (at + k) ≡ word (map code_of lits) k
code_written ws lits at i v d room here value before k h =
    elim (cases_eq k i) [
      | inl e ↦ subst (λ (u : ℕ). word (set ws (at + i) v) (at + u) ≡ word (map code_of lits) u) (sym e)
          (get_or-set_same ws (at + i) v 0 room ∙ value ∙ sym (get_or-map code_of lits i d 0 here))
      | inr ne ↦ (let other : at + k ≢ at + i = omega arith in
          get_or-set_other ws (at + i) (at + k) v 0 other ∙ before k (omega arith))
    ]

-- the size in front of the number and the codes
pub written_of : (old ws : List ℕ) (r n : ℕ) (codes : List ℕ) → HasCodes (word old) (word ws) (r + 4) codes
    → r < length ws → n ≡ length codes
    → IsWritten (word old) (word (set ws r n)) r (word old (r + 1)) codes
written_of old ws r n codes has room size =
    let keep : (j : ℕ) → j ≢ r → word (set ws r n) j ≡ word ws j = λ j a. get_or-set_other ws r j n 0 a in
    record {
      size = get_or-set_same ws r n 0 room ∙ size;
      number = keep (r + 1) (omega arith) ∙ has.others (r + 1) (omega arith);
      codes_at = λ k h. keep (r + 4 + k) (omega arith) ∙ has.codes_at k h;
      others = λ j h. keep j (omega arith) ∙ has.others j (omega arith);
    }

-- a place in front of a list
pub put_of : (ws : List ℕ) (code place : ℕ) → code < length ws → place < length ws → code ≢ place
    → IsPut (word ws) (word (set (set ws place (word ws code)) code place)) code place
put_of ws code place low room apart = record {
  link = (let ne : place ≢ code = λ (e : place ≡ code). apart (sym e) in
      get_or-set_other (set ws place (word ws code)) code place place 0 ne
      ∙ get_or-set_same ws place (word ws code) 0 room);
  head = get_or-set_same (set ws place (word ws code)) code place 0 (omega (arith, length-set {A = ℕ}));
  others = λ j a b. get_or-set_other (set ws place (word ws code)) code j place 0 b
      ∙ get_or-set_other ws place j (word ws code) 0 a;
}

-- what a slice of a vector leaves of it
pub taken_back : (n : ℕ) (xs ys : List ℕ) → length xs ≡ n → take n (xs ++ ys) ≡ xs
taken_back n xs ys e = take-append-le n xs ys (omega arith) ∙ take_all n xs (omega arith)
