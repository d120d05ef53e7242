-- A clause is taken out: its watches leave their lists, its reference leaves the references.
use Rattle.std.specs.Prelude.{ℕ, ◌≡◌, ◌≢◌, ◌+◌, ◌*◌, ◌<◌, ◌≤◌, ◌⊎◌, ◌==◌, Bool, true, false, not, List, [], ◌∷◌}
use Rattle.std.specs.Prelude.{length, filter, take, refl}
use Rattle.std.proofs.Common.{sym, ◌∙◌, ap, subst, inl, inr, arith, cond, length-take}
use Rattle.std.proofs.lemmas.Bool.{cases_Bool, cases_eq, ne_eqb}
use Rattle.std.proofs.lemmas.List.{get_or-set_same, get_or-set_other}
use Rattle.std.proofs.Math.Dec.{eqb}
use Rattle.std.proofs.Math.ListN.{set, length-set}
use borrow.Author.Tests.{eqb-true, eq-eqb}
use Rattle.clause_arena.specs.Links.{word, Threads, places, cut}
use Rattle.mw_text.specs.Members.{In}
use Rattle.clause_arena.specs.Store.{Rises, IsWatch, IsLaid, IsLinked, IsSound, store}
use Rattle.clause_arena.specs.Changes.{IsSame}
use Rattle.clause_arena.specs.Deleted.{is_watch_of, unwatched, others, Deletes, IsUnlinked, IsFreed}
use Rattle.clause_arena.proofs.Threads.{threads_from, threads_cut, off_own, off_next, later}
use Rattle.clause_arena.proofs.Words.{same_word, one_list}
use Rattle.clause_arena.proofs.Settling.{settle}

-- ---- lists with what a test keeps

pub in_filter : (keep : ℕ → Bool) (q : ℕ) (xs : List ℕ) → In q xs → keep q ≡ true → In q (filter keep xs)
in_filter keep q [] i k = absurd i
in_filter keep q (x ∷ xs) i k =
    elim (cases_Bool (keep x)) [
      | inl in_it ↦ subst (λ (u : _). In q (cond u (x ∷ filter keep xs) (filter keep xs))) (sym in_it)
          (elim i [ inl e ↦ inl e | inr j ↦ inr (in_filter keep q xs j k) ])
      | inr out ↦ subst (λ (u : _). In q (cond u (x ∷ filter keep xs) (filter keep xs))) (sym out)
          (elim i [
            | inl e ↦ (let z : true ≡ false = sym k ∙ ap keep e ∙ out in absurd (cc))
            | inr j ↦ in_filter keep q xs j k
          ])
    ]

pub of_filter : (keep : ℕ → Bool) (q : ℕ) (xs : List ℕ) → In q (filter keep xs) → In q xs × (keep q ≡ true)
of_filter keep q [] i = absurd i
of_filter keep q (x ∷ xs) i =
    elim (cases_Bool (keep x)) [
      | inl in_it ↦
          (let j : (q ≡ x) ⊎ In q (filter keep xs) =
          subst (λ (u : _). In q (cond u (x ∷ filter keep xs) (filter keep xs))) in_it i in
          elim j [
            | inl e ↦ (inl e, ap keep e ∙ in_it)
            | inr k ↦ (let more = of_filter keep q xs k in (inr more.0, more.1))
          ])
      | inr out ↦
          (let j : In q (filter keep xs) =
          subst (λ (u : _). In q (cond u (x ∷ filter keep xs) (filter keep xs))) out i in
          let more = of_filter keep q xs j in (inr more.0, more.1))
    ]

pub filter_all : (keep : ℕ → Bool) (xs : List ℕ) → ((q : ℕ) → In q xs → keep q ≡ true) → filter keep xs ≡ xs
filter_all keep [] each = refl
filter_all keep (x ∷ xs) each =
    let more : filter keep xs ≡ xs = filter_all keep xs (λ q i. each q (inr i)) in
    rw (each x (inl refl), more) refl

pub rises_filter : (keep : ℕ → Bool) (xs : List ℕ) → Rises xs → Rises (filter keep xs)
rises_filter keep [] up = tt
rises_filter keep (x ∷ xs) up =
    elim (cases_Bool (keep x)) [
      | inl in_it ↦ subst (λ (u : _). Rises (cond u (x ∷ filter keep xs) (filter keep xs))) (sym in_it)
          (λ s i. up.0 s (of_filter keep s xs i).0, rises_filter keep xs up.1)
      | inr out ↦ subst (λ (u : _). Rises (cond u (x ∷ filter keep xs) (filter keep xs))) (sym out)
          (rises_filter keep xs up.1)
    ]

-- a list without what stands behind a place is what a test keeps that refuses that alone
cut_filter : (f : ℕ → ℕ) (keep : ℕ → Bool) (at b : ℕ) (xs : List ℕ) → Threads f at xs → (b ≡ at) ⊎ In b xs → 0 < f b
    → keep (f b) ≡ false → ((q : ℕ) → In q xs → q ≢ f b → keep q ≡ true) → cut b at xs ≡ filter keep xs
cut_filter f keep at b [] t (inl e) h out each = let z : f b ≡ 0 = ap f e ∙ t in absurd (omega arith)
cut_filter f keep at b [] t (inr i) h out each = absurd i
cut_filter f keep at b (q ∷ qs) t here h out each =
    elim (cases_Bool (eqb b at)) [
      | inl at_it ↦
          (let fb : f b ≡ q = ap f (eqb-true b at at_it) ∙ t.0 in
          let gone : keep q ≡ false = ap keep (sym fb) ∙ out in
          let rest : filter keep qs ≡ qs = filter_all keep qs (λ j i. each j (inr i)
          (λ (k : j ≡ f b). off_own f q qs t.2 (subst (λ (u : ℕ). In u qs) (k ∙ fb) i))) in
          rw (at_it, gone, rest) refl)
      | inr off_it ↦
          (let more : (b ≡ q) ⊎ In b qs = later b at (q ∷ qs) off_it here in
          let stays : keep q ≡ true = each q (inl refl)
          (λ (e : q ≡ f b). off_next f q b qs t.2 more t.1 (sym e)) in
          let rest : cut b q qs ≡ filter keep qs = cut_filter f keep q b qs t.2 more h out (λ j i. each j (inr i)) in
          rw (off_it, stays, rest) refl)
    ]

-- ---- the watches of a clause

abbrev keeps : ℕ → ℕ → Bool
keeps r p = not (is_watch_of r p)

keeps_other : (r p : ℕ) → p ≢ r + 2 → p ≢ r + 3 → keeps r p ≡ true
keeps_other r p a b = rw (ne_eqb p (r + 2) a, ne_eqb p (r + 3) b) refl

drops_first : (r p : ℕ) → p ≡ r + 2 → keeps r p ≡ false
drops_first r p e = rw (eq-eqb p (r + 2) e) refl

drops_second : (r p : ℕ) → p ≡ r + 3 → keeps r p ≡ false
drops_second r p e =
    elim (cases_Bool (eqb p (r + 2))) [ inl a ↦ rw a refl | inr b ↦ rw (b, eq-eqb p (r + 3) e) refl ]

kept_first : (r p : ℕ) → keeps r p ≡ true → p ≢ r + 2
kept_first r p k e = let z : true ≡ false = sym k ∙ drops_first r p e in absurd (cc)

kept_second : (r p : ℕ) → keeps r p ≡ true → p ≢ r + 3
kept_second r p k e = let z : true ≡ false = sym k ∙ drops_second r p e in absurd (cc)

-- ---- the writes

pub unlinked_of : (ws : List ℕ) (b p c q : ℕ) → b < length ws → c < length ws → b ≢ c → b ≢ q
    → IsUnlinked (word ws) (word (set (set ws b (word ws p)) c (word (set ws b (word ws p)) q))) b p c q
unlinked_of ws b p c q lb lc bc bq =
    let one = set ws b (word ws p) in
    let v = word one q in
    record {
      one = get_or-set_other one c b v 0 bc ∙ get_or-set_same ws b (word ws p) 0 lb;
      other = get_or-set_same one c v 0 (omega (arith, length-set {A = ℕ}))
          ∙ get_or-set_other ws b q (word ws p) 0 (λ (e : q ≡ b). bq (sym e));
      rest = λ j nb nc. get_or-set_other one c j v 0 nc ∙ get_or-set_other ws b j (word ws p) 0 nb;
    }

-- ---- the links that lead to watches

-- the links of two codes differ
links_apart : (vars len : ℕ) (f : ℕ → ℕ) (refs : List ℕ) (lists : ℕ → List ℕ) (m n b c : ℕ) → IsLaid vars len f refs
    → IsLinked vars f refs lists → m < 2 * vars → n < 2 * vars → m ≢ n → (b ≡ m) ⊎ In b (lists m)
    → (c ≡ n) ⊎ In c (lists n) → b ≢ c
links_apart vars len f refs lists m n b c laid linked lm ln ne hb hc e =
    elim hb [
      | inl x ↦ elim hc [
        | inl y ↦ ne (sym x ∙ e ∙ y)
        | inr y ↦
            (let w = linked.watch n c ln y in
            let high : 2 * vars ≤ w.ref = laid.first w.ref w.held in
            let at : c ≡ w.ref + 2 + w.side = w.place in
            omega arith)
      ]
      | inr x ↦
          (let v = linked.watch m b lm x in
          elim hc [
            | inl y ↦
                (let high : 2 * vars ≤ v.ref = laid.first v.ref v.held in
                let at : b ≡ v.ref + 2 + v.side = v.place in
                omega arith)
            | inr y ↦ ne (one_list vars len f refs m n b laid v
                (subst (λ (u : ℕ). IsWatch f refs n u) (sym e) (linked.watch n c ln y)))
          ])
    ]

-- a link is no other word of a clause
off_content : (vars len : ℕ) (f : ℕ → ℕ) (refs : List ℕ) (lists : ℕ → List ℕ) (n b s k : ℕ) → IsLaid vars len f refs
    → IsLinked vars f refs lists → n < 2 * vars → (b ≡ n) ⊎ In b (lists n) → In s refs → k < 4 + f s
    → (k < 2) ⊎ (4 ≤ k) → s + k ≢ b
off_content vars len f refs lists n b s k laid linked ln link i h content e =
    elim link [
      | inl z ↦ (let high : 2 * vars ≤ s = laid.first s i in omega arith)
      | inr j ↦
          (let w = linked.watch n b ln j in
          let low : w.side < 2 = w.low in
          let at : b ≡ w.ref + 2 + w.side = w.place in
          let same : k ≡ 2 + w.side =
          (same_word vars len f refs s w.ref k (2 + w.side) laid i w.held h (omega arith) (omega arith)).1 in
          elim content [ inl x ↦ omega arith | inr x ↦ omega arith ])
    ]

-- the links that lead to the two watches of a clause
pub record IsHeldBy (f : ℕ → ℕ) (refs : List ℕ) (lists : ℕ → List ℕ) (r m n b c : ℕ) : Type 0 where
  pub held : In r refs
  pub two : 2 ≤ f r
  pub first : m ≡ f (r + 4)
  pub second : n ≡ f (r + 5)
  pub link : (b ≡ m) ⊎ In b (lists m)
  pub leads : f b ≡ r + 2
  pub other_link : (c ≡ n) ⊎ In c (lists n)
  pub other_leads : f c ≡ r + 3

-- as the code has it
pub held_by : (f : ℕ → ℕ) (refs : List ℕ) (lists : ℕ → List ℕ) (r size m n b c : ℕ) → In r refs → size ≡ f r → 2 ≤ size
    → m ≡ f (r + 4 + 0) → n ≡ f (r + 4 + 1) → f b ≡ r + 2 → (b ≡ m) ⊎ In b (lists m) → f c ≡ r + 3
    → (c ≡ n) ⊎ In c (lists n) → IsHeldBy f refs lists r m n b c
held_by f refs lists r size m n b c held e two em en leads link other_leads other_link =
    let z4 : r + 4 + 0 ≡ r + 4 = omega arith in
    let z5 : r + 4 + 1 ≡ r + 5 = omega arith in
    record {
      held = held;
      two = omega arith;
      first = em ∙ ap f z4;
      second = en ∙ ap f z5;
      link = link;
      leads = leads;
      other_link = other_link;
      other_leads = other_leads;
    }

no_one : ◌≡◌ {A = ℕ} 0 1 → ⊥
no_one e = omega (arith, e)

-- what follows of it
pub record IsPair (vars : ℕ) (lists : ℕ → List ℕ) (r m n b c : ℕ) : Type 0 where
  pub low : m < 2 * vars
  pub other_low : n < 2 * vars
  pub apart : m ≢ n
  pub listed : In (r + 2) (lists m)
  pub other_listed : In (r + 3) (lists n)
  pub links : b ≢ c
  pub past : b ≢ r + 3

pub pair : (vars len : ℕ) (f : ℕ → ℕ) (refs : List ℕ) (lists : ℕ → List ℕ) (r m n b c : ℕ) → IsLaid vars len f refs
    → IsLinked vars f refs lists → IsHeldBy f refs lists r m n b c → IsPair vars lists r m n b c
pair vars len f refs lists r m n b c laid linked by =
    let two : 2 ≤ f r = by.two in
    let z4 : r + 4 + 0 ≡ r + 4 = omega arith in
    let z5 : r + 4 + 1 ≡ r + 5 = omega arith in
    let z2 : r + 2 + 0 ≡ r + 2 = omega arith in
    let z3 : r + 2 + 1 ≡ r + 3 = omega arith in
    let em : f (r + 4 + 0) ≡ m = ap f z4 ∙ sym by.first in
    let en : f (r + 4 + 1) ≡ n = ap f z5 ∙ sym by.second in
    let lm : m < 2 * vars = subst (λ (u : ℕ). u < 2 * vars) em (laid.below r 0 by.held (omega arith)) in
    let ln : n < 2 * vars = subst (λ (u : ℕ). u < 2 * vars) en (laid.below r 1 by.held (omega arith)) in
    let ne : m ≢ n = λ e.
    no_one (laid.differ r 0 1 by.held (omega arith) (omega arith) (em ∙ e ∙ sym en)) in
    let i : In (r + 2) (lists m) = subst (λ (u : ℕ). In u (lists m)) z2
    (subst (λ (u : ℕ). In (r + 2 + 0) (lists u)) em (linked.listed r 0 by.held two (omega arith))) in
    let j : In (r + 3) (lists n) = subst (λ (u : ℕ). In u (lists n)) z3
    (subst (λ (u : ℕ). In (r + 2 + 1) (lists u)) en (linked.listed r 1 by.held two (omega arith))) in
    record {
      low = lm;
      other_low = ln;
      apart = ne;
      listed = i;
      other_listed = j;
      links = links_apart vars len f refs lists m n b c laid linked lm ln ne by.link by.other_link;
      past = links_apart vars len f refs lists m n b (r + 3) laid linked lm ln ne by.link (inr j);
    }

-- a clause of two or more literals is freed by two writes
pub freed_two : (vars len : ℕ) (f g : ℕ → ℕ) (refs : List ℕ) (lists : ℕ → List ℕ) (r m n b c : ℕ)
    → IsLaid vars len f refs → IsLinked vars f refs lists → IsHeldBy f refs lists r m n b c
    → IsUnlinked f g b (r + 2) c (r + 3) → IsFreed vars f g refs lists r
freed_two vars len f g refs lists r m n b c laid linked by cleared =
    let p = pair vars len f refs lists r m n b c laid linked by in
    let apart = λ (j k x y : ℕ) (lj : j < 2 * vars) (lk : k < 2 * vars) (ne : j ≢ k) (hx : (x ≡ j) ⊎ In x (lists j))
    (hy : (y ≡ k) ⊎ In y (lists k)). links_apart vars len f refs lists j k x y laid linked lj lk ne hx hy in
    let back : n ≢ m = λ e. p.apart (sym e) in
    record {
      content = λ s k i h w. cleared.rest (s + k)
          (off_content vars len f refs lists m b s k laid linked p.low by.link i h w)
          (off_content vars len f refs lists n c s k laid linked p.other_low by.other_link i h w);
      threads = λ k h. elim (cases_eq k m) [
        | inl e ↦ subst (λ (u : ℕ). Threads g u (unwatched r (lists u))) (sym e)
            (subst (λ (xs : List ℕ). Threads g m xs)
            (cut_filter f (keeps r) m b (lists m) (linked.threads m p.low) by.link (omega (arith, by.leads))
            (drops_first r (f b) by.leads) (λ q i ne. keeps_other r q (λ z. ne (z ∙ sym by.leads))
            (apart m n q (r + 3) p.low p.other_low p.apart (inr i) (inr p.other_listed))))
            (threads_cut f g m b (lists m) (linked.threads m p.low) by.link (omega (arith, by.leads))
            (cleared.one ∙ ap f (sym by.leads))
            (λ j i nb np. cleared.rest j nb (apart m n j c p.low p.other_low p.apart i by.other_link))))
        | inr nm ↦ elim (cases_eq k n) [
          | inl e ↦ subst (λ (u : ℕ). Threads g u (unwatched r (lists u))) (sym e)
              (subst (λ (xs : List ℕ). Threads g n xs)
              (cut_filter f (keeps r) n c (lists n) (linked.threads n p.other_low) by.other_link
              (omega (arith, by.other_leads))
              (drops_second r (f c) by.other_leads) (λ q i ne. keeps_other r q
              (apart n m q (r + 2) p.other_low p.low back (inr i) (inr p.listed))
              (λ z. ne (z ∙ sym by.other_leads))))
              (threads_cut f g n c (lists n) (linked.threads n p.other_low) by.other_link
              (omega (arith, by.other_leads))
              (cleared.other ∙ ap f (sym by.other_leads))
              (λ j i nc np. cleared.rest j (apart n m j b p.other_low p.low back i by.link) nc)))
          | inr nn ↦ subst (λ (xs : List ℕ). Threads g k xs)
              (sym (filter_all (keeps r) (lists k) (λ q i. keeps_other r q
              (apart k m q (r + 2) h p.low nm (inr i) (inr p.listed))
              (apart k n q (r + 3) h p.other_low nn (inr i) (inr p.other_listed)))))
              (threads_from f g k k (lists k) (linked.threads k h)
              (cleared.rest k (apart k m k b h p.low nm (inl refl) by.link)
              (apart k n k c h p.other_low nn (inl refl) by.other_link))
              (λ j i. cleared.rest j (apart k m j b h p.low nm (inr i) by.link)
              (apart k n j c h p.other_low nn (inr i) by.other_link)))
        ]
      ];
    }

-- a clause of fewer literals is in no list
pub freed_few : (vars len : ℕ) (f : ℕ → ℕ) (refs : List ℕ) (lists : ℕ → List ℕ) (r : ℕ) → IsLaid vars len f refs
    → IsLinked vars f refs lists → In r refs → f r < 2 → IsFreed vars f f refs lists r
freed_few vars len f refs lists r laid linked i few =
    let off = λ (k : ℕ) (h : k < 2 * vars) (q side : ℕ) (low : side < 2) (j : In q (lists k)) (e : q ≡ r + (2 + side)).
    (let w = linked.watch k q h j in
    let at : q ≡ w.ref + 2 + w.side = w.place in
    let lo : w.side < 2 = w.low in
    let same : r ≡ w.ref =
    (same_word vars len f refs r w.ref (2 + side) (2 + w.side) laid i w.held (omega arith) (omega arith)
    (omega arith)).0 in
    let two : 2 ≤ f r = subst (λ (u : ℕ). 2 ≤ f u) (sym same) w.two in
    let none : ⊥ = omega arith in none) in
    record {
      content = λ s k j h w. refl;
      threads = λ k h. subst (λ (xs : List ℕ). Threads f k xs)
          (sym (filter_all (keeps r) (lists k) (λ q j. keeps_other r q
          (λ e. off k h q 0 (omega arith) j (omega arith))
          (λ e. off k h q 1 (omega arith) j (omega arith)))))
          (linked.threads k h);
    }

-- ---- the arena without the clause

abbrev remains : ℕ → ℕ → Bool
remains r s = not (s == r)

remains_other : (r s : ℕ) → s ≢ r → remains r s ≡ true
remains_other r s ne = rw (ne_eqb s r ne) refl

pub other_of : (r s : ℕ) (refs : List ℕ) → In s (others r refs) → In s refs × (s ≢ r)
other_of r s refs i =
    let k = of_filter (remains r) s refs i in (
      k.0,
      λ e. (let z : remains r s ≡ false = rw (eq-eqb s r e) refl in
          let bad : true ≡ false = sym k.1 ∙ z in absurd (cc)),
    )

pub kept_of : (vars len : ℕ) (f g : ℕ → ℕ) (refs : List ℕ) (lists : ℕ → List ℕ) (r s : ℕ)
    → IsFreed vars f g refs lists r → In s refs → IsSame f g s
kept_of vars len f g refs lists r s freed i = record {
  size = (let z : s + 0 ≡ s = omega arith in
      subst (λ (u : ℕ). g u ≡ f u) z (freed.content s 0 i (omega arith) (inl (omega arith))));
  number = freed.content s 1 i (omega arith) (inl (omega arith));
  codes = λ k h. (let z : s + (4 + k) ≡ s + 4 + k = omega arith in
      subst (λ (u : ℕ). g u ≡ f u) z (freed.content s (4 + k) i (omega arith) (inr (omega arith))));
}

laid_less : (vars len : ℕ) (f g : ℕ → ℕ) (refs : List ℕ) (lists : ℕ → List ℕ) (r : ℕ) → IsLaid vars len f refs
    → IsFreed vars f g refs lists r → IsLaid vars len g (others r refs)
laid_less vars len f g refs lists r laid freed =
    let was = λ (s : ℕ) (i : In s (others r refs)). (other_of r s refs i).0 in
    let same = λ (s : ℕ) (i : In s (others r refs)). kept_of vars len f g refs lists r s freed (was s i) in
    record {
      heads = laid.heads;
      rising = rises_filter (remains r) refs laid.rising;
      first = λ s i. laid.first s (was s i);
      even = λ s i. laid.even s (was s i);
      inside = λ s i. (let e : g s ≡ f s = (same s i).size in
          let a : s + 4 + f s ≤ len = laid.inside s (was s i) in omega arith);
      apart = λ s t i j h. (let e : g s ≡ f s = (same s i).size in
          let a : s + 4 + f s ≤ t = laid.apart s t (was s i) (was t j) h in omega arith);
      below = λ s k i h. (let e : g s ≡ f s = (same s i).size in
          let c : g (s + 4 + k) ≡ f (s + 4 + k) = (same s i).codes k (omega arith) in
          let a : f (s + 4 + k) < 2 * vars = laid.below s k (was s i) (omega arith) in omega arith);
      differ = λ s j k i hj hk e. (let z : g s ≡ f s = (same s i).size in
          let lj : j < f s = omega arith in let lk : k < f s = omega arith in
          laid.differ s j k (was s i) lj lk (sym ((same s i).codes j lj) ∙ e ∙ (same s i).codes k lk));
      numbers = λ s t i j h. (let a : f (s + 1) < f (t + 1) = laid.numbers s t (was s i) (was t j) h in
          let x : g (s + 1) ≡ f (s + 1) = (same s i).number in
          let y : g (t + 1) ≡ f (t + 1) = (same t j).number in omega arith);
    }

linked_less : (vars len : ℕ) (f g : ℕ → ℕ) (refs : List ℕ) (lists : ℕ → List ℕ) (r : ℕ) → IsLaid vars len f refs
    → IsLinked vars f refs lists → In r refs → IsFreed vars f g refs lists r
    → IsLinked vars g (others r refs) (λ n. unwatched r (lists n))
linked_less vars len f g refs lists r laid linked held freed =
    let same = λ (s : ℕ) (i : In s refs). kept_of vars len f g refs lists r s freed i in
    record {
      threads = freed.threads;
      watch = λ n q h i.
          (let found = of_filter (keeps r) q (lists n) i in
          let w = linked.watch n q h found.0 in
          let low : w.side < 2 = w.low in
          let two : 2 ≤ f w.ref = w.two in
          let at : q ≡ w.ref + 2 + w.side = w.place in
          let a : q ≢ r + 2 = kept_first r q found.1 in
          let b : q ≢ r + 3 = kept_second r q found.1 in
          let ne : w.ref ≢ r = λ e. omega arith in
          record {
            ref = w.ref;
            side = w.side;
            held = in_filter (remains r) w.ref refs w.held (remains_other r w.ref ne);
            low = low;
            two = (let e : g w.ref ≡ f w.ref = (same w.ref w.held).size in omega arith);
            place = w.place;
            code = (same w.ref w.held).codes w.side (omega arith) ∙ w.code;
          });
      listed = λ s side i two low.
          (let k = other_of r s refs i in
          let ne : s ≢ r = k.1 in
          let e : g s ≡ f s = (same s k.0).size in
          let two_old : 2 ≤ f s = omega arith in
          let there : In (s + 2 + side) (lists (f (s + 4 + side))) = linked.listed s side k.0 two_old low in
          let off = λ (u : ℕ) (lu : u < 2) (z : s + 2 + side ≡ r + (2 + u)).
          (let eq : s ≡ r =
          (same_word vars len f refs s r (2 + side) (2 + u) laid k.0 held (omega arith) (omega arith)
          (omega arith)).0 in
          ne eq) in
          subst (λ (u : ℕ). In (s + 2 + side) (unwatched r (lists u)))
          (sym ((same s k.0).codes side (omega arith)))
          (in_filter (keeps r) (s + 2 + side) (lists (f (s + 4 + side))) there
          (keeps_other r (s + 2 + side) (λ z. off 0 (omega arith) (omega arith))
          (λ z. off 1 (omega arith) (omega arith)))));
    }

-- what a deletion leaves
pub record IsLess (vars : ℕ) (ws new refs : List ℕ) (r : ℕ) : Type 0 where
  pub sound : IsSound vars new (others r refs)
  pub deletes : Deletes (store vars ws refs) (store vars new (others r refs)) r

pub less : (vars : ℕ) (ws new refs : List ℕ) (r : ℕ) → IsSound vars ws refs → In r refs → length new ≡ length ws
    → IsFreed vars (word ws) (word new) refs (places ws) r → IsLess vars ws new refs r
less vars ws new refs r sound held len freed =
    let laid = subst (λ (k : ℕ). IsLaid vars k (word new) (others r refs)) (sym len)
    (laid_less vars (length ws) (word ws) (word new) refs (places ws) r sound.laid freed) in
    let x = settle vars new (others r refs) (λ n. unwatched r (places ws n)) laid
    (linked_less vars (length ws) (word ws) (word new) refs (places ws) r sound.laid sound.linked held freed) in
    record {
      sound = x.sound;
      deletes = record {
        vars = refl;
        refs = refl;
        kept = λ s i. kept_of vars (length ws) (word ws) (word new) refs (places ws) r s freed (other_of r s refs i).0;
        watched = x.places_are;
      };
    }

-- ---- how many remain

others_shorter : (x : ℕ) (refs : List ℕ) → length (others x refs) ≤ length refs
others_shorter x [] = omega arith
others_shorter x (s ∷ refs) =
    let h : length (others x refs) ≤ length refs = others_shorter x refs in
    elim (cases_Bool (eqb s x)) [ inl t ↦ rw t (omega arith) | inr t ↦ rw t (omega arith) ]

pub count_kept : (moved refs new : List ℕ) (x n : ℕ) → length moved ≡ length refs → new ≡ others x refs
    → n ≡ length new → length (take n moved) ≡ length new
count_kept moved refs new x n e is en =
    let h : length new ≤ length refs = rw is (others_shorter x refs) in
    omega (arith, length-take n moved)
