-- New references, one clause behind another.
use Rattle.std.specs.Prelude.{ℕ, suc, ◌≡◌, ◌≢◌, ◌+◌, ◌*◌, ◌%◌, ◌<◌, ◌≤◌, List, ◌∷◌, length, map, drop}
use Rattle.std.proofs.Common.{sym, ◌∙◌, ap, subst, inl, inr, arith}
use Rattle.std.proofs.lemmas.Bool.{cases_eq}
use Rattle.std.proofs.lemmas.List.{get_or-set_same, get_or-set_other, get_or-map, length-map}
use Rattle.std.proofs.Math.ListN.{set, length-set}
use Rattle.std.proofs.Math.Seq.{drop-cons}
use Rattle.clause_arena.specs.Links.{word}
use Rattle.mw_text.specs.Members.{In}
use Rattle.clause_arena.specs.Store.{IsLaid}
use Rattle.clause_arena.specs.Compacted.{packed, IsPlan}
use Rattle.clause_arena.proofs.Places.{in_at, rises_at}

-- the plan of the first so many references
pub record IsPlanned (vars len : ℕ) (f : ℕ → ℕ) (refs new : List ℕ) (end i : ℕ) : Type 0 where
  pub count : length new ≡ length refs
  pub heads : 2 * vars ≤ end
  pub fits : end ≤ len
  pub even : (j : ℕ) → j < i → word new j % 2 ≡ 0
  pub first : (j : ℕ) → j < i → 2 * vars ≤ word new j
  pub inside : (j : ℕ) → j < i → word new j + 4 + f (word refs j) ≤ end
  pub down : (j : ℕ) → j < i → word new j ≤ word refs j
  pub apart : (j k : ℕ) → j < k → k < i → word new j + 4 + f (word refs j) ≤ word new k
  pub before : (k : ℕ) → i ≤ k → k < length refs → end ≤ word refs k

pub planned_none : (vars len : ℕ) (f : ℕ → ℕ) (refs new : List ℕ) → IsLaid vars len f refs → length new ≡ length refs
    → IsPlanned vars len f refs new (2 * vars) 0
planned_none vars len f refs new laid count = record {
  count = count;
  heads = omega arith;
  fits = laid.heads;
  even = λ j h. absurd (omega arith);
  first = λ j h. absurd (omega arith);
  inside = λ j h. absurd (omega arith);
  down = λ j h. absurd (omega arith);
  apart = λ j k h l. absurd (omega arith);
  before = λ k h l. laid.first (word refs k) (in_at refs k l);
}

-- what holds of the first so many and of a number that is written behind them holds of one more
set_each : (new : List ℕ) (i start : ℕ) → i < length new → (P : ℕ → ℕ → Type 0) → ((j : ℕ) → j < i → P j (word new j))
    → P i start → (j : ℕ) → j < i + 1 → P j (word (set new i start) j)
set_each new i start room P before here j l =
    elim (cases_eq j i) [
      | inl e ↦ subst (λ (u : ℕ). P u (word (set new i start) u)) (sym e)
          (subst (λ (u : ℕ). P i u) (sym (get_or-set_same new i start 0 room)) here)
      | inr ne ↦ (let lt : j < i = omega arith in
          subst (λ (u : ℕ). P j u) (sym (get_or-set_other new i j start 0 ne)) (before j lt))
    ]

pub planned_more : (vars len : ℕ) (f : ℕ → ℕ) (refs new : List ℕ) (end i start size : ℕ) → IsLaid vars len f refs
    → IsPlanned vars len f refs new end i → i < length refs → start ≡ end + end % 2 → size ≡ f (word refs i)
    → IsPlanned vars len f refs (set new i start) (start + 4 + size) (i + 1)
planned_more vars len f refs new end i start size laid p h es ez =
    let count : length new ≡ length refs = p.count in
    let r = word refs i in
    let held : In r refs = in_at refs i h in
    let even : r % 2 ≡ 0 = laid.even r held in
    let below : end ≤ r = p.before i (omega arith) h in
    let same = λ (j : ℕ) (l : j < i). (let ne : j ≢ i = omega arith in get_or-set_other new i j start 0 ne) in
    let old : r + 4 + f r ≤ len = laid.inside r held in
    let high : 2 * vars ≤ end = p.heads in
    let room : i < length new = omega arith in
    record {
      count = omega (arith, length-set {A = ℕ});
      heads = omega arith;
      fits = omega arith;
      even = set_each new i start room (λ j u. u % 2 ≡ 0) p.even (omega arith);
      first = set_each new i start room (λ j u. 2 * vars ≤ u) p.first (omega arith);
      inside = set_each new i start room (λ j u. u + 4 + f (word refs j) ≤ start + 4 + size)
          (λ j l. (let a : word new j + 4 + f (word refs j) ≤ end = p.inside j l in omega arith)) (omega arith);
      down = set_each new i start room (λ j u. u ≤ word refs j) p.down (omega arith);
      apart = λ j k jk l.
          (let lj : j < i = omega arith in
          let ej : word (set new i start) j ≡ word new j = same j lj in
          set_each new i start room (λ k u. j < k → word (set new i start) j + 4 + f (word refs j) ≤ u)
          (λ k l jk. (let a : word new j + 4 + f (word refs j) ≤ word new k = p.apart j k jk l in omega arith))
          (λ ji. (let a : word new j + 4 + f (word refs j) ≤ end = p.inside j lj in omega arith)) k l jk);
      before = λ k l w.
          (let up : r < word refs k = rises_at refs i k laid.rising (omega arith) w in
          let a : r + 4 + f r ≤ word refs k = laid.apart r (word refs k) held (in_at refs k w) up in
          omega arith);
    }

pub planned_all : (vars len : ℕ) (f : ℕ → ℕ) (refs new : List ℕ) (end i : ℕ) → IsPlanned vars len f refs new end i
    → i ≡ length refs → IsPlan vars len f refs new end
planned_all vars len f refs new end i p e = record {
  count = p.count;
  heads = p.heads;
  fits = p.fits;
  even = λ j h. p.even j (omega arith);
  first = λ j h. p.first j (omega arith);
  inside = λ j h. p.inside j (omega arith);
  down = λ j h. p.down j (omega arith);
  apart = λ j k h l. p.apart j k h (omega arith);
}

pub packed_more : (f : ℕ → ℕ) (refs : List ℕ) (whole end i start size : ℕ) → i < length refs
    → start ≡ end + end % 2 → size ≡ f (word refs i) → whole ≡ packed end (drop i (map f refs))
    → whole ≡ packed (start + 4 + size) (drop (i + 1) (map f refs))
packed_more f refs whole end i start size h es ez e =
    let l : i < length (map f refs) = omega (arith, length-map refs f) in
    let here : word (map f refs) i ≡ size = get_or-map f refs i 0 0 h ∙ sym ez in
    let z : suc i ≡ i + 1 = omega arith in
    let cut : drop i (map f refs) ≡ word (map f refs) i ∷ drop (i + 1) (map f refs) =
    subst (λ (u : ℕ). drop i (map f refs) ≡ word (map f refs) i ∷ drop u (map f refs)) z
    (drop-cons (map f refs) i 0 l) in
    e ∙ ap (packed end) cut
    ∙ ap (λ (u : ℕ). packed (end + end % 2 + 4 + u) (drop (i + 1) (map f refs))) here
    ∙ ap (λ (u : ℕ). packed (u + 4 + size) (drop (i + 1) (map f refs))) (sym es)
