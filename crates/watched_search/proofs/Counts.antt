-- How many clauses an arena can hold.
use Rattle.std.proofs.Common.{ℕ, ◌≡◌, ◌+◌, ◌*◌, ◌^◌, ◌<◌, ◌≤◌, List, [], ◌∷◌, ◌++◌, length, length-append, inl, inr}
use Rattle.std.proofs.Common.{refl}
use Rattle.std.proofs.Common.{sym, subst, arith}
use Rattle.std.proofs.lemmas.List.{length-map}
use Rattle.clause_arena.specs.Links.{word}
use Rattle.mw_text.specs.Members.{In}
use Rattle.clause_arena.specs.Store.{Store, IsSound, Rises}
use Rattle.clause_arena.specs.Held.{clauses, lits_of}
use Rattle.clause_arena.specs.Changes.{Adds}

-- references that stand four apart
four_apart : (refs : List ℕ) (low last : ℕ) → Rises (refs ++ last ∷ [])
    → ((r : ℕ) → In r (refs ++ last ∷ []) → low ≤ r)
    → ((r s : ℕ) → In r (refs ++ last ∷ []) → In s (refs ++ last ∷ []) → r < s → r + 4 ≤ s)
    → 4 * length refs + low ≤ last
four_apart [] low last rises above apart = let h : low ≤ last = above last (inl refl) in omega arith
four_apart (x ∷ refs) low last rises above apart =
    let first : low ≤ x = above x (inl refl) in
    let rest : 4 * length refs + (x + 4) ≤ last =
    four_apart refs (x + 4) last rises.1 (λ r i. apart x r (inl refl) (inr i) (rises.0 r i))
    (λ r s i j less. apart r s (inr i) (inr j) less) in
    omega arith

-- a clause was added under a reference of one word, so there are not many
pub few_held : (old new : Store) (r id : ℕ) (codes : List ℕ) → IsSound new.vars new.words new.refs
    → Adds old new r id codes → r < 2 ^ 64 → length (clauses new) ≤ 2 ^ 62
few_held old new r id codes sound added small =
    let rises : Rises (old.refs ++ r ∷ []) = subst Rises added.refs sound.laid.rising in
    let back : (s : ℕ) → In s (old.refs ++ r ∷ []) → In s new.refs =
    λ s i. subst (In s) (sym added.refs) i in
    let many : 4 * length old.refs + 0 ≤ r =
    four_apart old.refs 0 r rises (λ s i. omega arith)
    (λ s t i j less. (let h = sound.laid.apart s t (back s i) (back t j) less in omega (arith, h))) in
    let more : length new.refs ≡ length old.refs + 1 =
    subst (λ (rs : List ℕ). length rs ≡ length old.refs + 1) (sym added.refs)
    (length-append old.refs (r ∷ [])) in
    let count : length (clauses new) ≡ length new.refs =
    length-map new.refs (λ (s : ℕ). (word new.words (s + 1), lits_of new s)) in
    omega arith
