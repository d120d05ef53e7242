-- Lists in words, and what a write does to them.
use Rattle.std.specs.Prelude.{ℕ, zero, suc, ◌≡◌, ◌≢◌, ◌<◌, ◌≤◌, ◌⊎◌, List, [], ◌∷◌, length, true, false, refl}
use Rattle.std.specs.List.{IsDistinct}
use Rattle.std.proofs.Common.{sym, ◌∙◌, ap, subst, inl, inr, arith, cond}
use Rattle.std.proofs.lemmas.Bool.{cases_Bool, eqb-false, ne_eqb}
use Rattle.std.proofs.Math.Dec.{eqb}
use borrow.Author.Tests.{eqb-true}
use Rattle.std.proofs.lemmas.Map.Steps.{length-le_from_distinct_below}
use Rattle.clause_arena.specs.Links.{word, Threads, links, places, after, cut, first}
use Rattle.mw_text.specs.Members.{In}
use Rattle.mw_text.proofs.Lists.{in-from_any}
use Rattle.mw_text.proofs.Numbers.{apart_from}

-- ---- what a list is

-- the same list behind another place, where the words of the list's own places are the same
pub threads_from : (f g : ℕ → ℕ) (at to : ℕ) (xs : List ℕ) → Threads f at xs → g to ≡ f at
    → ((j : ℕ) → In j xs → g j ≡ f j) → Threads g to xs
threads_from f g at to [] t e same = e ∙ t
threads_from f g at to (q ∷ qs) t e same =
    (e ∙ t.0, t.1, threads_from f g q q qs t.2 (same q (inl refl)) (λ j i. same j (inr i)))

-- a place leads to one list alone
pub threads_one : (f : ℕ → ℕ) (at : ℕ) (xs ys : List ℕ) → Threads f at xs → Threads f at ys → xs ≡ ys
threads_one f at [] [] s t = refl
threads_one f at [] (y ∷ ys) s t = let a : f at ≡ y = t.0 in let b : 0 < y = t.1 in absurd (omega arith)
threads_one f at (x ∷ xs) [] s t = let a : f at ≡ x = s.0 in let b : 0 < x = s.1 in absurd (omega arith)
threads_one f at (x ∷ xs) (y ∷ ys) s t =
    let e : x ≡ y = sym s.0 ∙ t.0 in
    let more : Threads f y xs = subst (λ (u : ℕ). Threads f u xs) e s.2 in
    let rest : xs ≡ ys = threads_one f y xs ys more t.2 in
    cc

-- what stands behind a place of a list
pub record IsBehind (f : ℕ → ℕ) (p : ℕ) (xs : List ℕ) : Type 0 where
  pub rest : List ℕ
  pub threads : Threads f p rest
  pub shorter : length rest < length xs

behind : (f : ℕ → ℕ) (at p : ℕ) (xs : List ℕ) → Threads f at xs → In p xs → IsBehind f p xs
behind f at p [] t i = absurd i
behind f at p (q ∷ qs) t (inl e) =
    record { rest = qs; threads = subst (λ (u : ℕ). Threads f u qs) (sym e) t.2; shorter = omega arith }
behind f at p (q ∷ qs) t (inr i) =
    let more = behind f q p qs t.2 i in
    record { rest = more.rest; threads = more.threads; shorter = omega (arith, more.shorter) }

-- no place leads back to itself
pub off_own : (f : ℕ → ℕ) (p : ℕ) (ps : List ℕ) → Threads f p ps → In p ps → ⊥
off_own f p ps t i =
    let b = behind f p p ps t i in
    let e : b.rest ≡ ps = threads_one f p b.rest ps b.threads t in
    let l : length b.rest ≡ length ps = ap length e in
    omega (arith, b.shorter)

-- ---- the list as it is computed

distinct : (f : ℕ → ℕ) (at : ℕ) (xs : List ℕ) → Threads f at xs → IsDistinct eqb xs
unfolding IsDistinct
distinct f at [] t = tt
distinct f at (x ∷ xs) t = (apart_from x xs (off_own f x xs t.2), distinct f x xs t.2)

links_whole : (f : ℕ → ℕ) (n at : ℕ) (xs : List ℕ) → Threads f at xs → length xs ≤ n → links n f at ≡ xs
links_whole f zero at [] t h = refl
links_whole f zero at (q ∷ qs) t h = absurd (omega arith)
links_whole f (suc n) at [] t h = let e : f at ≡ 0 = t in rw e refl
links_whole f (suc n) at (q ∷ qs) t h =
    let e : f at ≡ q = t.0 in
    let off_it : eqb q 0 ≡ false = ne_eqb q 0 (λ (z : q ≡ 0). let b : 0 < q = t.1 in omega arith) in
    let more : links n f q ≡ qs = links_whole f n q qs t.2 (omega arith) in
    rw (e, off_it, more) refl

-- the list that the words lead to is the one that is computed
pub places_are : (ws : List ℕ) (at : ℕ) (xs : List ℕ) → Threads (word ws) at xs → ((p : ℕ) → In p xs → p < length ws)
    → places ws at ≡ xs
unfolding places
places_are ws at xs t below =
    links_whole (word ws) (length ws) at xs t
    (length-le_from_distinct_below xs (length ws) (distinct (word ws) at xs t) (λ q h. below q (in-from_any q xs h)))

-- ---- one place and the next

-- the next place is one of the list
pub next_in : (f : ℕ → ℕ) (at b : ℕ) (xs : List ℕ) → Threads f at xs → (b ≡ at) ⊎ In b xs → 0 < f b → In (f b) xs
next_in f at b [] t (inl e) h = let z : f b ≡ 0 = ap f e ∙ t in absurd (omega arith)
next_in f at b [] t (inr i) h = absurd i
next_in f at b (q ∷ qs) t (inl e) h = inl (ap f e ∙ t.0)
next_in f at b (q ∷ qs) t (inr i) h = inr (next_in f q b qs t.2 i h)

-- what comes later in the list than its first place
pub later : (b at : ℕ) (xs : List ℕ) → eqb b at ≡ false → (b ≡ at) ⊎ In b xs → In b xs
later b at xs off_it (inl e) = absurd (eqb-false b at off_it e)
later b at xs off_it (inr i) = i

-- what stands behind a place is what the place leads to
pub after_threads : (f : ℕ → ℕ) (at b : ℕ) (xs : List ℕ) → Threads f at xs → (b ≡ at) ⊎ In b xs
    → Threads f b (after b at xs)
after_threads f at b [] t (inl e) = ap f e ∙ t
after_threads f at b [] t (inr i) = absurd i
after_threads f at b (q ∷ qs) t here =
    elim (cases_Bool (eqb b at)) [
      | inl at_it ↦ subst (λ (u : _). Threads f b (cond u (q ∷ qs) (after b q qs))) (sym at_it)
          (subst (λ (u : ℕ). Threads f u (q ∷ qs)) (sym (eqb-true b at at_it)) t)
      | inr off_it ↦ subst (λ (u : _). Threads f b (cond u (q ∷ qs) (after b q qs))) (sym off_it)
          (after_threads f q b qs t.2 (later b at (q ∷ qs) off_it here))
    ]

pub first_threads : (f : ℕ → ℕ) (at : ℕ) (xs : List ℕ) → Threads f at xs → first xs ≡ f at
first_threads f at [] t = sym t
first_threads f at (q ∷ qs) t = sym t.0

-- ---- what a write does to a list

-- a place is taken out where the place before it leads past it
pub threads_cut : (f g : ℕ → ℕ) (at b : ℕ) (xs : List ℕ) → Threads f at xs → (b ≡ at) ⊎ In b xs → 0 < f b
    → g b ≡ f (f b)
    → ((j : ℕ) → (j ≡ at) ⊎ In j xs → j ≢ b → j ≢ f b → g j ≡ f j) → Threads g at (cut b at xs)
threads_cut f g at b [] t (inl e) h gb same = let z : f b ≡ 0 = ap f e ∙ t in absurd (omega arith)
threads_cut f g at b [] t (inr i) h gb same = absurd i
threads_cut f g at b (q ∷ qs) t here h gb same =
    elim (cases_Bool (eqb b at)) [
      | inl at_it ↦ subst (λ (u : _). Threads g at (cond u qs (q ∷ cut b q qs))) (sym at_it)
          (let e : b ≡ at = eqb-true b at at_it in
          let fb : f b ≡ q = ap f e ∙ t.0 in
          threads_from f g q at qs t.2 (ap g (sym e) ∙ gb ∙ ap f fb) (λ j i. same j (inr (inr i))
          (λ (k : j ≡ b). off_own f at (q ∷ qs) t (inr (subst (λ (u : ℕ). In u qs) (k ∙ e) i)))
          (λ (k : j ≡ f b). off_own f q qs t.2 (subst (λ (u : ℕ). In u qs) (k ∙ fb) i))))
      | inr off_it ↦ subst (λ (u : _). Threads g at (cond u qs (q ∷ cut b q qs))) (sym off_it)
          (let more : (b ≡ q) ⊎ In b qs = later b at (q ∷ qs) off_it here in
          let next : In (f b) (q ∷ qs) = next_in f at b (q ∷ qs) t (inr more) h in (
            same at (inl refl) (λ (k : at ≡ b). eqb-false b at off_it (sym k))
                (λ (k : at ≡ f b). off_own f at (q ∷ qs) t (subst (λ (u : ℕ). In u (q ∷ qs)) (sym k) next)) ∙ t.0,
            t.1,
            threads_cut f g q b qs t.2 more h gb (λ j i. same j (inr i)),
          ))
    ]

-- no place behind the start leads back to it
pub off_next : (f : ℕ → ℕ) (at b : ℕ) (xs : List ℕ) → Threads f at xs → (b ≡ at) ⊎ In b xs → 0 < at → f b ≡ at → ⊥
off_next f at b xs t here pos e =
    let h : 0 < f b = omega arith in
    off_own f at xs t (subst (λ (u : ℕ). In u xs) e (next_in f at b xs t here h))

-- what is in the list without a place was in the list, and is not that place
pub cut_in : (f : ℕ → ℕ) (at b : ℕ) (xs : List ℕ) (j : ℕ) → Threads f at xs → (b ≡ at) ⊎ In b xs → In j (cut b at xs)
    → In j xs × (j ≢ f b)
cut_in f at b [] j t here i = absurd i
cut_in f at b (q ∷ qs) j t here i =
    elim (cases_Bool (eqb b at)) [
      | inl at_it ↦
          (let e : b ≡ at = eqb-true b at at_it in
          let fb : f b ≡ q = ap f e ∙ t.0 in
          let j_in : In j qs = subst (λ (u : _). In j (cond u qs (q ∷ cut b q qs))) at_it i in
          (inr j_in, λ (k : j ≡ f b). off_own f q qs t.2 (subst (λ (u : ℕ). In u qs) (k ∙ fb) j_in)))
      | inr off_it ↦
          (let more : (b ≡ q) ⊎ In b qs = later b at (q ∷ qs) off_it here in
          let j_in : (j ≡ q) ⊎ In j (cut b q qs) = subst (λ (u : _). In j (cond u qs (q ∷ cut b q qs))) off_it i in
          elim j_in [
            | inl k ↦ (inl k, λ (w : j ≡ f b). off_next f q b qs t.2 more t.1 (sym w ∙ k))
            | inr k ↦ (let found = cut_in f q b qs j t.2 more k in (inr found.0, found.1))
          ])
    ]

-- what was in the list and is not the place that was taken out is in it still
pub in_cut : (f : ℕ → ℕ) (at b : ℕ) (xs : List ℕ) (j : ℕ) → Threads f at xs → (b ≡ at) ⊎ In b xs → In j xs → j ≢ f b
    → In j (cut b at xs)
in_cut f at b [] j t here i ne = absurd i
in_cut f at b (q ∷ qs) j t here i ne =
    elim (cases_Bool (eqb b at)) [
      | inl at_it ↦ subst (λ (u : _). In j (cond u qs (q ∷ cut b q qs))) (sym at_it)
          (let e : b ≡ at = eqb-true b at at_it in
          let fb : f b ≡ q = ap f e ∙ t.0 in
          elim i [ inl k ↦ absurd (ne (k ∙ sym fb)) | inr k ↦ k ])
      | inr off_it ↦ subst (λ (u : _). In j (cond u qs (q ∷ cut b q qs))) (sym off_it)
          (elim i [ inl k ↦ inl k | inr k ↦ inr (in_cut f q b qs j t.2 (later b at (q ∷ qs) off_it here) k ne) ])
    ]

all_after : (b at : ℕ) (qs : List ℕ) → eqb b at ≡ true → length (after b at qs) ≤ length qs
all_after b at [] h = omega arith
all_after b at (s ∷ ss) h =
    subst (λ (u : _). length (cond u (s ∷ ss) (after b s ss)) ≤ length (s ∷ ss)) (sym h) (omega arith)

-- fewer follow a place once the next one is taken out
pub after_cut : (f : ℕ → ℕ) (at b : ℕ) (xs : List ℕ) → Threads f at xs → (b ≡ at) ⊎ In b xs → 0 < f b
    → length (after b at (cut b at xs)) < length (after b at xs)
after_cut f at b [] t (inl e) h = let z : f b ≡ 0 = ap f e ∙ t in absurd (omega arith)
after_cut f at b [] t (inr i) h = absurd i
after_cut f at b (q ∷ qs) t here h =
    elim (cases_Bool (eqb b at)) [
      | inl at_it ↦ subst (λ (u : _). length (after b at (cond u qs (q ∷ cut b q qs))) < length
          (cond u (q ∷ qs) (after b q qs))) (sym at_it)
          (let e : length (after b at qs) ≤ length qs = all_after b at qs at_it in omega arith)
      | inr off_it ↦ subst (λ (u : _). length (after b at (cond u qs (q ∷ cut b q qs))) < length
          (cond u (q ∷ qs) (after b q qs))) (sym off_it)
          (subst (λ (u : _). length (cond u (q ∷ cut b q qs) (after b q (cut b q qs))) < length (after b q qs))
          (sym off_it)
          (after_cut f q b qs t.2 (later b at (q ∷ qs) off_it here) h))
    ]
