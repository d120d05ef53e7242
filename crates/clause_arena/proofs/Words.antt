-- Which words are whose.
use Rattle.std.specs.Prelude.{ℕ, ◌≡◌, ◌+◌, ◌%◌, ◌<◌, ◌≤◌, List}
use Rattle.std.proofs.Common.{sym, ◌∙◌, ap, inl, inr, arith}
use Rattle.std.proofs.lemmas.Bool.{cases_order}
use Rattle.mw_text.specs.Members.{In}
use Rattle.clause_arena.specs.Store.{IsWatch, IsLaid}

-- no word lies in two clauses
pub same_word : (vars len : ℕ) (f : ℕ → ℕ) (refs : List ℕ) (r s j k : ℕ) → IsLaid vars len f refs → In r refs
    → In s refs
    → j < 4 + f r → k < 4 + f s → r + j ≡ s + k → (r ≡ s) × (j ≡ k)
same_word vars len f refs r s j k laid i h a b e =
    elim (cases_order r s) [
      | inl same ↦ (same, omega arith)
      | inr apart ↦ elim apart [
        | inl lt ↦ (let l : r + 4 + f r ≤ s = laid.apart r s i h lt in absurd (omega arith))
        | inr gt ↦ (let l : s + 4 + f s ≤ r = laid.apart s r h i gt in absurd (omega arith))
      ]
    ]

-- no place is in the lists of two codes
pub one_list : (vars len : ℕ) (f : ℕ → ℕ) (refs : List ℕ) (m n q : ℕ) → IsLaid vars len f refs → IsWatch f refs m q
    → IsWatch f refs n q → m ≡ n
one_list vars len f refs m n q laid a b =
    let pa : q ≡ a.ref + 2 + a.side = a.place in
    let pb : q ≡ b.ref + 2 + b.side = b.place in
    let la : a.side < 2 = a.low in
    let lb : b.side < 2 = b.low in
    let ea : a.ref % 2 ≡ 0 = laid.even a.ref a.held in
    let eb : b.ref % 2 ≡ 0 = laid.even b.ref b.held in
    let side : a.side ≡ b.side = omega arith in
    let ref : a.ref ≡ b.ref = omega arith in
    sym a.code ∙ ap f (ap (λ (u : ℕ). a.ref + 4 + u) side ∙ ap (λ (u : ℕ). u + 4 + b.side) ref) ∙ b.code
