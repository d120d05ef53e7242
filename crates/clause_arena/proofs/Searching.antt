-- The search for the link that leads to a place of a list.
use Rattle.std.specs.Prelude.{ℕ, ◌≡◌, ◌≢◌, ◌*◌, ◌<◌, ◌⊎◌, List, [], ◌∷◌, length, refl}
use Rattle.std.proofs.Common.{sym, ◌∙◌, ap, subst, inl, inr, arith, cond}
use borrow.Author.Tests.{eq-eqb}
use Rattle.clause_arena.specs.Links.{word, Threads, places, after}
use Rattle.mw_text.specs.Members.{In}
use Rattle.clause_arena.specs.Store.{IsSound}
use Rattle.clause_arena.proofs.Threads.{threads_one, next_in, after_threads}
use Rattle.clause_arena.proofs.Settling.{within_words}

-- all of a list stands behind its start
pub behind_start : (at p : ℕ) (xs : List ℕ) → In p xs → In p (after at at xs)
behind_start at p [] i = absurd i
behind_start at p (q ∷ qs) i =
    subst (λ (u : _). In p (cond u (q ∷ qs) (after at q qs))) (sym (eq-eqb at at refl)) i

-- one link further, where the place is still ahead
pub record IsStep (f : ℕ → ℕ) (n link p : ℕ) (xs : List ℕ) : Type 0 where
  pub here : In (f link) xs
  pub ahead : In p (after (f link) n xs)
  pub fewer : length (after (f link) n xs) < length (after link n xs)

step_by : (f : ℕ → ℕ) (n link p : ℕ) (xs ys : List ℕ) → Threads f n xs → (link ≡ n) ⊎ In link xs → Threads f link ys
    → ys ≡ after link n xs → In p ys → f link ≢ p → IsStep f n link p xs
step_by f n link p xs [] t here s e i ne = absurd i
step_by f n link p xs (q ∷ qs) t here s e i ne =
    let pos : 0 < q = s.1 in
    let next : f link ≡ q = s.0 in
    let in_it : In (f link) xs = next_in f n link xs t here (omega arith) in
    let rest : after (f link) n xs ≡ qs = threads_one f (f link) (after (f link) n xs) qs
    (after_threads f n (f link) xs t (inr in_it)) (subst (λ (u : ℕ). Threads f u qs) (sym next) s.2) in
    let l : length (q ∷ qs) ≡ length (after link n xs) = ap length e in
    let m : length (after (f link) n xs) ≡ length qs = ap length rest in
    record {
      here = in_it;
      ahead = subst (λ (zs : List ℕ). In p zs) (sym rest)
          (elim i [ inl k ↦ absurd (ne (next ∙ sym k)) | inr k ↦ k ]);
      fewer = omega arith;
    }

pub step : (f : ℕ → ℕ) (n link p : ℕ) (xs : List ℕ) → Threads f n xs → (link ≡ n) ⊎ In link xs
    → In p (after link n xs) → f link ≢ p → IsStep f n link p xs
step f n link p xs t here i ne =
    step_by f n link p xs (after link n xs) t here (after_threads f n link xs t here) refl i ne

-- a link is within the words
pub link_within : (vars : ℕ) (ws refs : List ℕ) (n link : ℕ) → IsSound vars ws refs → n < 2 * vars
    → (link ≡ n) ⊎ In link (places ws n) → link < length ws
link_within vars ws refs n link s h here =
    elim here [
      | inl z ↦ omega (arith, s.laid.heads)
      | inr j ↦ within_words vars ws refs n link s.laid (s.linked.watch n link h j)
    ]

-- the same, where the next link is known by an equation
pub record IsStepTo (n link v p : ℕ) (xs : List ℕ) : Type 0 where
  pub here : In v xs
  pub ahead : In p (after v n xs)
  pub fewer : length (after v n xs) < length (after link n xs)

pub step_to : (vars : ℕ) (ws refs : List ℕ) (n link u v p : ℕ) → IsSound vars ws refs → n < 2 * vars
    → (link ≡ n) ⊎ In link (places ws n) → In p (after link n (places ws n)) → u ≡ word ws link → v ≡ word ws link
    → u ≢ p → IsStepTo n link v p (places ws n)
step_to vars ws refs n link u v p s h here ahead eu ev ne =
    let k = step (word ws) n link p (places ws n) (s.linked.threads n h) here ahead (λ e. ne (eu ∙ e)) in
    subst (λ (w : ℕ). IsStepTo n link w p (places ws n)) (sym ev)
    (record { here = k.here; ahead = k.ahead; fewer = k.fewer })
