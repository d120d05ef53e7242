-- A watch is moved.
use Rattle.std.specs.Prelude.{ℕ, ◌≡◌, ◌≢◌, ◌+◌, ◌*◌, ◌<◌, ◌≤◌, ◌⊎◌, List, ◌∷◌, refl}
use Rattle.std.proofs.Common.{sym, ◌∙◌, ap, subst, inl, inr, arith, cond}
use Rattle.std.proofs.lemmas.Bool.{cases_eq, ne_eqb}
use Rattle.std.proofs.lemmas.Bool.Decides.{nat_tests}
use Rattle.std.proofs.Math.Dec.{eqb}
use borrow.Author.Tests.{eq-eqb}
use Rattle.clause_arena.specs.Links.{Threads, cut}
use Rattle.mw_text.specs.Members.{In}
use Rattle.clause_arena.specs.Store.{IsWatch, IsLaid, IsLinked}
use Rattle.clause_arena.specs.Changes.{IsMoved}
use Rattle.clause_arena.proofs.Threads.{threads_from, threads_cut, cut_in, in_cut}
use Rattle.clause_arena.proofs.Words.{same_word, one_list}

-- ---- where the move writes

-- a clause, a side, another place, and the link that leads to the watch of that side
pub record IsSpot (vars : ℕ) (f : ℕ → ℕ) (refs : List ℕ) (lists : ℕ → List ℕ) (r side to b : ℕ) : Type 0 where
  pub held : In r refs
  pub low : side < 2
  pub behind : 2 ≤ to
  pub within : to < f r
  pub link : (b ≡ f (r + 4 + side)) ⊎ In b (lists (f (r + 4 + side)))
  pub leads : f b ≡ r + 2 + side

-- what the two codes are
pub record IsTurn (vars : ℕ) (f : ℕ → ℕ) (r side to m n : ℕ) : Type 0 where
  pub old_low : n < 2 * vars
  pub new_low : m < 2 * vars
  pub high : 2 * vars ≤ r
  pub apart : m ≢ n

pub turn : (vars len : ℕ) (f : ℕ → ℕ) (refs : List ℕ) (lists : ℕ → List ℕ) (r side to b : ℕ) → IsLaid vars len f refs
    → IsSpot vars f refs lists r side to b → IsTurn vars f r side to (f (r + 4 + to)) (f (r + 4 + side))
turn vars len f refs lists r side to b laid spot =
    let low : side < 2 = spot.low in let behind : 2 ≤ to = spot.behind in let within : to < f r = spot.within in
    record {
      old_low = laid.below r side spot.held (omega arith);
      new_low = laid.below r to spot.held (omega arith);
      high = laid.first r spot.held;
      apart = λ e. (let z : to ≡ side = laid.differ r to side spot.held within (omega arith) e in omega arith);
    }

-- the link is no word of a clause but one of its links
pub off_link : (vars len : ℕ) (f : ℕ → ℕ) (refs : List ℕ) (lists : ℕ → List ℕ) (r side to b : ℕ)
    → IsLaid vars len f refs → IsLinked vars f refs lists
    → IsSpot vars f refs lists r side to b → (s k : ℕ) → In s refs → k < 4 + f s → (k < 2) ⊎ (4 ≤ k) → s + k ≢ b
off_link vars len f refs lists r side to b laid linked spot s k i h content e =
    let t = turn vars len f refs lists r side to b laid spot in
    elim spot.link [
      | inl z ↦ (let high : 2 * vars ≤ s = laid.first s i in let low : f (r + 4 + side) < 2 * vars = t.old_low in
          omega arith)
      | inr j ↦
          (let w = linked.watch (f (r + 4 + side)) b t.old_low j in
          let low : w.side < 2 = w.low in
          let at : b ≡ w.ref + 2 + w.side = w.place in
          let there : s + k ≡ w.ref + (2 + w.side) = omega arith in
          let same : k ≡ 2 + w.side =
          (same_word vars len f refs s w.ref k (2 + w.side) laid i w.held h (omega arith) there).1 in
          elim content [ inl x ↦ omega arith | inr x ↦ omega arith ])
    ]

-- the words that are no link and not one of the two codes are as they were
pub kept_word : (vars len : ℕ) (f g : ℕ → ℕ) (refs : List ℕ) (lists : ℕ → List ℕ) (r side to b : ℕ)
    → IsLaid vars len f refs → IsLinked vars f refs lists
    → IsSpot vars f refs lists r side to b
    → IsMoved f g b (r + 2 + side) (f (r + 4 + to)) (f (r + 4 + side)) (r + 4 + side) (r + 4 + to)
    → (s k : ℕ) → In s refs → k < 4 + f s → (k < 2) ⊎ (4 ≤ k) → (s ≡ r → k ≢ 4 + side) → (s ≡ r → k ≢ 4 + to)
    → g (s + k) ≡ f (s + k)
kept_word vars len f g refs lists r side to b laid linked spot moved s k i h content one other =
    let t = turn vars len f refs lists r side to b laid spot in
    let low : side < 2 = spot.low in let behind : 2 ≤ to = spot.behind in let within : to < f r = spot.within in
    let at = λ (j : ℕ) (hj : j < 4 + f r) (e : s + k ≡ r
    + j). same_word vars len f refs s r k j laid i spot.held h hj e in
    moved.others (s + k)
    (off_link vars len f refs lists r side to b laid linked spot s k i h content)
    (λ e. (let z : k ≡ 2 + side = (at (2 + side) (omega arith) (omega arith)).1 in
    elim content [ inl x ↦ omega arith | inr x ↦ omega arith ]))
    (λ e. (let high : 2 * vars ≤ s = laid.first s i in let lo : f (r + 4 + to) < 2 * vars = t.new_low in omega arith))
    (λ e. (let z = at (4 + side) (omega arith) (omega arith) in one z.0 z.1))
    (λ e. (let z = at (4 + to) (omega arith) (omega arith) in other z.0 z.1))

-- ---- the codes

-- the place from which a code comes
abbrev turned : ℕ → ℕ → ℕ → ℕ
turned side to k = cond (eqb k side) to (cond (eqb k to) side k)

record IsCode (f g : ℕ → ℕ) (s k from : ℕ) : Type 0 where
  pub word : g (s + 4 + k) ≡ f (s + 4 + from)
  pub within : from < f s

abbrev source : ℕ → ℕ → ℕ → ℕ → ℕ → ℕ
source r side to s k = cond (eqb s r) (turned side to k) k

turned_one : (side to j k : ℕ) → side ≢ to → turned side to j ≡ turned side to k → j ≡ k
turned_one side to j k ne e = grind (arith, nat_tests)

source_one : (r side to s j k : ℕ) → side ≢ to → source r side to s j ≡ source r side to s k → j ≡ k
source_one r side to s j k ne e =
    elim (cases_eq s r) [
      | inl same ↦ turned_one side to j k ne (rw (eq-eqb s r same) at e)
      | inr apart ↦ rw (ne_eqb s r apart) at e
    ]

coded : (vars len : ℕ) (f g : ℕ → ℕ) (refs : List ℕ) (lists : ℕ → List ℕ) (r side to b : ℕ) → IsLaid vars len f refs
    → IsLinked vars f refs lists
    → IsSpot vars f refs lists r side to b
    → IsMoved f g b (r + 2 + side) (f (r + 4 + to)) (f (r + 4 + side)) (r + 4 + side) (r + 4 + to)
    → (s k : ℕ) → In s refs → k < f s → IsCode f g s k (source r side to s k)
coded vars len f g refs lists r side to b laid linked spot moved s k i h =
    let low : side < 2 = spot.low in let behind : 2 ≤ to = spot.behind in let within : to < f r = spot.within in
    let stay = λ (one : s ≡ r → 4 + k ≢ 4 + side) (other : s ≡ r → 4 + k ≢ 4 + to).
    (let z : s + (4 + k) ≡ s + 4 + k = omega arith in
    subst (λ (u : ℕ). g u ≡ f u) z
    (kept_word vars len f g refs lists r side to b laid linked spot moved s (4 + k) i (omega arith)
    (inr (omega arith)) one other)) in
    elim (cases_eq s r) [
      | inl same ↦ subst (λ (u : _). IsCode f g s k (cond u (turned side to k) k)) (sym (eq-eqb s r same))
          (elim (cases_eq k side) [
            | inl x ↦ subst (λ (u : _). IsCode f g s k (cond u to (cond (eqb k to) side k))) (sym (eq-eqb k side x))
                (subst (λ (u : ℕ). IsCode f g u k to) (sym same)
                (subst (λ (u : ℕ). IsCode f g r u to) (sym x) (record { word = moved.one; within = within })))
            | inr nx ↦ subst (λ (u : _). IsCode f g s k (cond u to (cond (eqb k to) side k))) (sym (ne_eqb k side nx))
                (elim (cases_eq k to) [
                  | inl y ↦ subst (λ (u : _). IsCode f g s k (cond u side k)) (sym (eq-eqb k to y))
                      (subst (λ (u : ℕ). IsCode f g u k side) (sym same)
                      (subst (λ (u : ℕ). IsCode f g r u side) (sym y)
                      (record { word = moved.other; within = omega arith })))
                  | inr ny ↦ subst (λ (u : _). IsCode f g s k (cond u side k)) (sym (ne_eqb k to ny))
                      (record { word = stay (λ q e. nx (omega arith)) (λ q e. ny (omega arith)); within = h })
                ])
          ])
      | inr apart ↦ subst (λ (u : _). IsCode f g s k (cond u (turned side to k) k)) (sym (ne_eqb s r apart))
          (record { word = stay (λ q. absurd (apart q)) (λ q. absurd (apart q)); within = h })
    ]

-- ---- where the clauses stand

pub laid_moved : (vars len : ℕ) (f g : ℕ → ℕ) (refs : List ℕ) (lists : ℕ → List ℕ) (r side to b : ℕ)
    → IsLaid vars len f refs → IsLinked vars f refs lists
    → IsSpot vars f refs lists r side to b
    → IsMoved f g b (r + 2 + side) (f (r + 4 + to)) (f (r + 4 + side)) (r + 4 + side) (r + 4 + to)
    → IsLaid vars len g refs
laid_moved vars len f g refs lists r side to b laid linked spot moved =
    let low : side < 2 = spot.low in let behind : 2 ≤ to = spot.behind in
    let size : (s : ℕ) → In s refs → g s ≡ f s = λ s i.
    (let z : s + 0 ≡ s = omega arith in subst (λ (u : ℕ). g u ≡ f u) z
    (kept_word vars len f g refs lists r side to b laid linked spot moved s 0 i (omega arith) (inl (omega arith))
    (λ q e. omega arith) (λ q e. omega arith))) in
    let number : (s : ℕ) → In s refs → g (s + 1) ≡ f (s + 1) = λ s i.
    kept_word vars len f g refs lists r side to b laid linked spot moved s 1 i (omega arith) (inl (omega arith))
    (λ q e. omega arith) (λ q e. omega arith) in
    let code = coded vars len f g refs lists r side to b laid linked spot moved in
    record {
      heads = laid.heads;
      rising = laid.rising;
      first = laid.first;
      even = laid.even;
      inside = λ s i. (let e : g s ≡ f s = size s i in let a : s + 4 + f s ≤ len = laid.inside s i in omega arith);
      apart = λ s t i j h. (let e : g s ≡ f s = size s i in let a : s + 4 + f s ≤ t = laid.apart s t i j h in
          omega arith);
      below = λ s k i h. (let e : g s ≡ f s = size s i in let lk : k < f s = omega arith in
          let c = code s k i lk in
          let a : f (s + 4 + source r side to s k) < 2 * vars = laid.below s (source r side to s k) i c.within in
          let w : g (s + 4 + k) ≡ f (s + 4 + source r side to s k) = c.word in omega arith);
      differ = λ s j k i hj hk e.
          (let z : g s ≡ f s = size s i in
          let cj = code s j i (omega arith) in let ck = code s k i (omega arith) in
          let same : source r side to s j ≡ source r side to s k =
          laid.differ s (source r side to s j) (source r side to s k) i cj.within ck.within (sym cj.word ∙ e
          ∙ ck.word) in
          let ne : side ≢ to = omega arith in
          source_one r side to s j k ne same);
      numbers = λ s t i j h. (let a : f (s + 1) < f (t + 1) = laid.numbers s t i j h in
          let x : g (s + 1) ≡ f (s + 1) = number s i in let y : g (t + 1) ≡ f (t + 1) = number t j in omega arith);
    }

-- ---- the lists

-- the lists after the move
pub record IsShifted (lists more : ℕ → List ℕ) (b p m n : ℕ) : Type 0 where
  pub left : more n ≡ cut b n (lists n)
  pub joined : more m ≡ p ∷ lists m
  pub others : (k : ℕ) → k ≢ n → k ≢ m → more k ≡ lists k

-- a watch other than the one that is moved is one still
watch_kept : (vars len : ℕ) (f g : ℕ → ℕ) (refs : List ℕ) (lists : ℕ → List ℕ) (r side to b : ℕ)
    → IsLaid vars len f refs → IsLinked vars f refs lists
    → IsSpot vars f refs lists r side to b
    → IsMoved f g b (r + 2 + side) (f (r + 4 + to)) (f (r + 4 + side)) (r + 4 + side) (r + 4 + to)
    → (n q : ℕ) → q ≢ r + 2 + side → IsWatch f refs n q → IsWatch g refs n q
watch_kept vars len f g refs lists r side to b laid linked spot moved n q ne w =
    let low : w.side < 2 = w.low in let two : 2 ≤ f w.ref = w.two in let behind : 2 ≤ to = spot.behind in
    let at : q ≡ w.ref + 2 + w.side = w.place in
    let size : g w.ref ≡ f w.ref = (let z : w.ref + 0 ≡ w.ref = omega arith in subst (λ (u : ℕ). g u ≡ f u) z
    (kept_word vars len f g refs lists r side to b laid linked spot moved w.ref 0 w.held (omega arith)
    (inl (omega arith)) (λ s e. omega arith) (λ s e. omega arith))) in
    let code : g (w.ref + 4 + w.side)
    ≡ f (w.ref + 4 + w.side) =
    (let z : w.ref + (4 + w.side) ≡ w.ref + 4 + w.side = omega arith in subst (λ (u : ℕ). g u ≡ f u) z
    (kept_word vars len f g refs lists r side to b laid linked spot moved w.ref (4 + w.side) w.held (omega arith)
    (inr (omega arith))
    (λ s e. ne (omega arith)) (λ s e. omega arith))) in
    record {
      ref = w.ref;
      side = w.side;
      held = w.held;
      low = w.low;
      two = omega arith;
      place = w.place;
      code = code
          ∙ w.code;
    }

-- the link of a watch leads where it led, but for the two that the move writes
link_kept : (vars len : ℕ) (f g : ℕ → ℕ) (refs : List ℕ) (lists : ℕ → List ℕ) (r side to b : ℕ) → IsLaid vars len f refs
    → IsSpot vars f refs lists r side to b
    → IsMoved f g b (r + 2 + side) (f (r + 4 + to)) (f (r + 4 + side)) (r + 4 + side) (r + 4 + to)
    → (n q : ℕ) → IsWatch f refs n q → q ≢ b → q ≢ r + 2 + side → g q ≡ f q
link_kept vars len f g refs lists r side to b laid spot moved n q w nb np =
    let t = turn vars len f refs lists r side to b laid spot in
    let low : w.side < 2 = w.low in let at : q ≡ w.ref + 2 + w.side = w.place in
    let s_low : side < 2 = spot.low in let within : to < f r = spot.within in let behind : 2 ≤ to = spot.behind in
    let high : 2 * vars ≤ w.ref = laid.first w.ref w.held in
    let code : f (r + 4 + to) < 2 * vars = t.new_low in
    let off = λ (j : ℕ) (h : 4 ≤ j) (b : j < 4 + f r) (e : q ≡ r + j).
    (let z : 2 + w.side ≡ j =
    (same_word vars len f refs w.ref r (2 + w.side) j laid w.held spot.held (omega arith) b (omega arith)).1 in
    let no : ⊥ = omega arith in no) in
    moved.others q nb np (omega arith) (λ e. off (4 + side) (omega arith) (omega arith) (omega arith))
    (λ e. off (4 + to) (omega arith) (omega arith) (omega arith))

-- a place is in the list of a code other than the old one only if it is none of the two
apart_from_link : (vars len : ℕ) (f : ℕ → ℕ) (refs : List ℕ) (lists : ℕ → List ℕ) (r side to b : ℕ)
    → IsLaid vars len f refs → IsLinked vars f refs lists
    → IsSpot vars f refs lists r side to b → (k q : ℕ) → k < 2 * vars → k ≢ f (r + 4 + side) → In q (lists k)
    → (q ≢ b) × (q ≢ r + 2 + side)
apart_from_link vars len f refs lists r side to b laid linked spot k q h ne i =
    let t = turn vars len f refs lists r side to b laid spot in
    let n = f (r + 4 + side) in
    let w = linked.watch k q h i in
    let own : IsWatch f refs n (r + 2 + side) = linked.watch n (r + 2 + side) t.old_low
    (linked.listed r side spot.held (let a : 2 ≤ to = spot.behind in let c : to < f r = spot.within in
    omega arith) spot.low) in (
      λ e. elim spot.link [
        | inl z ↦ (let high : 2 * vars ≤ w.ref = laid.first w.ref w.held in let at : q ≡ w.ref + 2 + w.side = w.place in
            let low : n < 2 * vars = t.old_low in omega arith)
        | inr j ↦ ne (one_list vars len f refs k n q laid w
            (subst (λ (u : ℕ). IsWatch f refs n u) (sym e) (linked.watch n b t.old_low j)))
      ],
      λ e. ne (one_list vars len f refs k n q laid w (subst (λ (u : ℕ). IsWatch f refs n u) (sym e) own)),
    )

-- the size of each clause is as it was
pub size_kept : (vars len : ℕ) (f g : ℕ → ℕ) (refs : List ℕ) (lists : ℕ → List ℕ) (r side to b : ℕ)
    → IsLaid vars len f refs → IsLinked vars f refs lists
    → IsSpot vars f refs lists r side to b
    → IsMoved f g b (r + 2 + side) (f (r + 4 + to)) (f (r + 4 + side)) (r + 4 + side) (r + 4 + to)
    → (s : ℕ) → In s refs → g s ≡ f s
size_kept vars len f g refs lists r side to b laid linked spot moved s i =
    let behind : 2 ≤ to = spot.behind in
    let z : s + 0 ≡ s = omega arith in
    subst (λ (u : ℕ). g u ≡ f u) z
    (kept_word vars len f g refs lists r side to b laid linked spot moved s 0 i (omega arith) (inl (omega arith))
    (λ q e. omega arith) (λ q e. omega arith))

-- the head of another code is not the link
off_head : (vars len : ℕ) (f : ℕ → ℕ) (refs : List ℕ) (lists : ℕ → List ℕ) (r side to b : ℕ) → IsLaid vars len f refs
    → IsLinked vars f refs lists
    → IsSpot vars f refs lists r side to b → (k : ℕ) → k < 2 * vars → k ≢ f (r + 4 + side) → k ≢ b
off_head vars len f refs lists r side to b laid linked spot k h ne e =
    let t = turn vars len f refs lists r side to b laid spot in
    elim spot.link [
      | inl z ↦ ne (e ∙ z)
      | inr j ↦
          (let w = linked.watch (f (r + 4 + side)) b t.old_low j in
          let high : 2 * vars ≤ w.ref = laid.first w.ref w.held in
          let at : b ≡ w.ref + 2 + w.side = w.place in
          omega arith)
    ]

pub linked_moved : (vars len : ℕ) (f g : ℕ → ℕ) (refs : List ℕ) (lists more : ℕ → List ℕ) (r side to b : ℕ)
    → IsLaid vars len f refs → IsLinked vars f refs lists
    → IsSpot vars f refs lists r side to b
    → IsMoved f g b (r + 2 + side) (f (r + 4 + to)) (f (r + 4 + side)) (r + 4 + side) (r + 4 + to)
    → IsShifted lists more b (r + 2 + side) (f (r + 4 + to)) (f (r + 4 + side)) → IsLinked vars g refs more
linked_moved vars len f g refs lists more r side to b laid linked spot moved shifted =
    let t = turn vars len f refs lists r side to b laid spot in
    let n = f (r + 4 + side) in
    let m = f (r + 4 + to) in
    let p = r + 2 + side in
    let low : side < 2 = spot.low in let behind : 2 ≤ to = spot.behind in let within : to < f r = spot.within in
    let high : 2 * vars ≤ r = t.high in
    let n_low : n < 2 * vars = t.old_low in
    let m_low : m < 2 * vars = t.new_low in
    let fb : f b ≡ p = spot.leads in
    let pos : 0 < f b = omega arith in
    let same = link_kept vars len f g refs lists r side to b laid spot moved in
    let out = apart_from_link vars len f refs lists r side to b laid linked spot in
    let keep = watch_kept vars len f g refs lists r side to b laid linked spot moved in
    let listed = λ (s u : ℕ) (i : In s refs) (two : 2 ≤ f s) (lo : u < 2). linked.listed s u i two lo in
    let head_same : (k : ℕ) → k < 2 * vars → k ≢ b → k ≢ m → g k ≡ f k =
    λ k h nb nm. moved.others k nb (omega arith) nm (omega arith) (omega arith) in
    record {
      threads = λ k h. elim (cases_eq k n) [
        | inl e ↦ subst (λ (u : ℕ). Threads g u (more u)) (sym e)
            (subst (λ (xs : List ℕ). Threads g n xs) (sym shifted.left)
            (threads_cut f g n b (lists n) (linked.threads n n_low) spot.link pos (moved.link ∙ ap f (sym fb))
            (λ j i nb np. elim i [
              | inl z ↦ subst (λ (u : ℕ). g u ≡ f u) (sym z)
                  (head_same n n_low (λ w. nb (z ∙ w)) (λ w. t.apart (sym w)))
              | inr z ↦ same n j (linked.watch n j n_low z) nb (λ w. np (w ∙ sym fb))
            ])))
        | inr ne ↦ elim (cases_eq k m) [
          | inl e ↦ subst (λ (u : ℕ). Threads g u (more u)) (sym e)
              (subst (λ (xs : List ℕ). Threads g m xs) (sym shifted.joined) (
                moved.head,
                omega arith,
                threads_from f g m p (lists m) (linked.threads m m_low) moved.place
                    (λ j i. same m j (linked.watch m j m_low i) (out m j m_low t.apart i).0
                    (out m j m_low t.apart i).1),
              ))
          | inr nm ↦ subst (λ (xs : List ℕ). Threads g k xs) (sym (shifted.others k ne nm))
              (threads_from f g k k (lists k) (linked.threads k h)
              (head_same k h (λ w. off_head vars len f refs lists r side to b laid linked spot k h ne w) nm)
              (λ j i. same k j (linked.watch k j h i) (out k j h ne i).0 (out k j h ne i).1))
        ]
      ];
      watch = λ k q h i. elim (cases_eq k n) [
        | inl e ↦ (let j : In q (cut b n (lists n)) = subst (λ (xs : List ℕ). In q xs) (ap more e ∙ shifted.left) i in
            let found = cut_in f n b (lists n) q (linked.threads n n_low) spot.link j in
            subst (λ (u : ℕ). IsWatch g refs u q) (sym e)
            (keep n q (λ w. found.1 (w ∙ sym fb)) (linked.watch n q n_low found.0)))
        | inr ne ↦ elim (cases_eq k m) [
          | inl e ↦ (let j : (q ≡ p)
              ⊎ In q (lists m) = subst (λ (xs : List ℕ). In q xs) (ap more e ∙ shifted.joined) i in
              subst (λ (u : ℕ). IsWatch g refs u q) (sym e) (elim j [
                | inl z ↦ record {
                  ref = r;
                  side = side;
                  held = spot.held;
                  low = low;
                  two = (let z : g r ≡ f r = size_kept vars len f g refs lists r side to b laid linked spot moved r
                      spot.held in omega arith);
                  place = z;
                  code = moved.one;
                }
                | inr z ↦ keep m q (out m q m_low t.apart z).1 (linked.watch m q m_low z)
              ]))
          | inr nm ↦ (let j : In q (lists k) = subst (λ (xs : List ℕ). In q xs) (shifted.others k ne nm) i in
              keep k q (out k q h ne j).1 (linked.watch k q h j))
        ]
      ];
      listed = λ s u i two lo.
          (let z : g s ≡ f s = size_kept vars len f g refs lists r side to b laid linked spot moved s i in
          elim (cases_eq (s + 2 + u) p) [
            | inl e ↦
                (let same_place = same_word vars len f refs s r (2 + u) (2 + side) laid i spot.held (omega arith)
                (omega arith) (omega arith) in
                let us : u ≡ side = omega (arith, same_place.1) in
                subst (λ (v : ℕ). In (v + 2 + u) (more (g (v + 4 + u)))) (sym same_place.0)
                (subst (λ (v : ℕ). In (r + 2 + v) (more (g (r + 4 + v)))) (sym us)
                (subst (λ (v : ℕ). In p (more v)) (sym moved.one)
                (subst (λ (xs : List ℕ). In p xs) (sym shifted.joined) (inl refl)))))
            | inr np ↦
                (let k = f (s + 4 + u) in
                let there : In (s + 2 + u) (lists k) = linked.listed s u i (omega arith) lo in
                let code : g (s + 4 + u)
                ≡ k = (let q : s + (4 + u) ≡ s + 4 + u = omega arith in subst (λ (v : ℕ). g v ≡ f v) q
                (kept_word vars len f g refs lists r side to b laid linked spot moved s (4 + u) i (omega arith)
                (inr (omega arith))
                (λ a e. np (omega arith)) (λ a e. omega arith))) in
                subst (λ (v : ℕ). In (s + 2 + u) (more v)) (sym code)
                (elim (cases_eq k n) [
                  | inl e ↦ subst (λ (xs : List ℕ). In (s + 2 + u) xs) (sym (ap more e ∙ shifted.left))
                      (in_cut f n b (lists n) (s + 2 + u) (linked.threads n n_low) spot.link
                      (subst (λ (v : ℕ). In (s + 2 + u) (lists v)) e there) (λ w. np (w ∙ fb)))
                  | inr ne ↦ elim (cases_eq k m) [
                    | inl e ↦ subst (λ (xs : List ℕ). In (s + 2 + u) xs) (sym (ap more e ∙ shifted.joined))
                        (inr (subst (λ (v : ℕ). In (s + 2 + u) (lists v)) e there))
                    | inr nm ↦ subst (λ (xs : List ℕ). In (s + 2 + u) xs) (sym (shifted.others k ne nm)) there
                  ]
                ]))
          ]);
    }
