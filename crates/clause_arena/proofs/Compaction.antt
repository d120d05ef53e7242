-- Clauses at new places: the words are sound again, and each list has the same watches.
use Rattle.std.specs.Prelude.{ℕ, ◌≡◌, ◌⊎◌, ◌+◌, ◌*◌, ◌%◌, ◌<◌, ◌≤◌, List, [], ◌∷◌, length, map, take, refl}
use Rattle.std.proofs.Common.{sym, ◌∙◌, ap, subst, inl, inr, arith, length-take}
use Rattle.std.proofs.lemmas.Bool.{cases_lt, cases_order}
use Rattle.std.proofs.lemmas.List.{get_or-take}
use Rattle.clause_arena.specs.Links.{word, Threads, places}
use Rattle.mw_text.specs.Members.{In}
use Rattle.clause_arena.specs.Store.{Rises, IsWatch, IsLaid, IsLinked, IsSound, store}
use Rattle.clause_arena.specs.Compacted.{renamed, slid, packed, Compacts, IsPlan, HasSlid}
use Rattle.clause_arena.specs.Compacted.{MendsHeads, SlidesAll, Slides, HasLinks}
use Rattle.clause_arena.proofs.Settling.{settle}
use Rattle.clause_arena.proofs.Walks.{low_or_high}
use Rattle.clause_arena.proofs.Places.{in_at, at_of, rises_to}
use Rattle.clause_arena.proofs.Renaming.{renamed_at, rises_of, slid_place}
use Rattle.clause_arena.proofs.Sliding.{slid_kept, slid_from}

-- ---- the heads first

pub laid_mended : (vars len : ℕ) (f g : ℕ → ℕ) (refs new : List ℕ) → IsLaid vars len f refs
    → MendsHeads refs new f g vars → IsLaid vars len g refs
laid_mended vars len f g refs new laid m =
    let high = λ (r : ℕ) (i : In r refs). laid.first r i in
    let size = λ (r : ℕ) (i : In r refs). m.others r (high r i) in
    let code = λ (r k : ℕ) (i : In r refs). (let h : 2 * vars ≤ r = high r i in m.others (r + 4 + k) (omega arith)) in
    let number = λ (r : ℕ) (i : In r refs). (let h : 2 * vars ≤ r = high r i in m.others (r + 1) (omega arith)) in
    record {
      heads = laid.heads;
      rising = laid.rising;
      first = laid.first;
      even = laid.even;
      inside = λ r i. (let e : g r ≡ f r = size r i in let a : r + 4 + f r ≤ len = laid.inside r i in omega arith);
      apart = λ r s i j h. (let e : g r ≡ f r = size r i in let a : r + 4 + f r ≤ s = laid.apart r s i j h in
          omega arith);
      below = λ r k i h. (let e : g r ≡ f r = size r i in let c : g (r + 4 + k) ≡ f (r + 4 + k) = code r k i in
          let a : f (r + 4 + k) < 2 * vars = laid.below r k i (omega arith) in omega arith);
      differ = λ r j k i hj hk e. (let z : g r ≡ f r = size r i in
          laid.differ r j k i (omega arith) (omega arith) (sym (code r j i) ∙ e ∙ code r k i));
      numbers = λ r s i j h. (let a : f (r + 1) < f (s + 1) = laid.numbers r s i j h in
          let x : g (r + 1) ≡ f (r + 1) = number r i in let y : g (s + 1) ≡ f (s + 1) = number s j in omega arith);
    }

pub plan_mended : (vars len end : ℕ) (f g : ℕ → ℕ) (refs new : List ℕ) → IsLaid vars len f refs
    → MendsHeads refs new f g vars → IsPlan vars len f refs new end → IsPlan vars len g refs new end
plan_mended vars len end f g refs new laid m p =
    let size = λ (j : ℕ) (h : j < length refs). m.others (word refs j) (laid.first (word refs j) (in_at refs j h)) in
    record {
      count = p.count;
      heads = p.heads;
      fits = p.fits;
      even = p.even;
      first = p.first;
      inside = λ j h. (let e : g (word refs j) ≡ f (word refs j) = size j h in
          let a : word new j + 4 + f (word refs j) ≤ end = p.inside j h in omega arith);
      down = p.down;
      apart = λ j k h l. (let e : g (word refs j) ≡ f (word refs j) = size j (omega arith) in
          let a : word new j + 4 + f (word refs j) ≤ word new k = p.apart j k h l in omega arith);
    }

pub links_mended : (vars : ℕ) (ws refs new : List ℕ) (g : ℕ → ℕ) → IsSound vars ws refs
    → MendsHeads refs new (word ws) g vars → HasLinks g refs
links_mended vars ws refs new g s m = record {
  link = λ r side i two low.
      (let high : 2 * vars ≤ r = s.laid.first r i in
      let size : g r ≡ word ws r = m.others r high in
      let e : g (r + 2 + side) ≡ word ws (r + 2 + side) = m.others (r + 2 + side) (omega arith) in
      let n = word ws (r + 4 + side) in
      let below : n < 2 * vars = s.laid.below r side i (omega arith) in
      subst (λ (u : ℕ). (u ≡ 0) ⊎ (3 < u + 2)) (sym e)
      (low_or_high vars ws refs n (r + 2 + side) s below (inr (s.linked.listed r side i (omega arith) low))));
}

pub head_link : (vars : ℕ) (ws refs : List ℕ) (n : ℕ) → IsSound vars ws refs → n < 2 * vars
    → (word ws n ≡ 0) ⊎ (3 < word ws n + 2)
head_link vars ws refs n s h = low_or_high vars ws refs n n s h (inl refl)

pub slides_whole : (vars len : ℕ) (f g h : ℕ → ℕ) (refs new : List ℕ) → IsLaid vars len f refs
    → MendsHeads refs new f g vars → SlidesAll refs new g h vars → Slides refs new f h vars
slides_whole vars len f g h refs new laid m s = record {
  clauses = λ j l.
      (let high : 2 * vars ≤ word refs j = laid.first (word refs j) (in_at refs j l) in
      slid_from refs new f g h (word refs j) (word new j) (s.clauses j l) (λ k b. m.others k (omega arith)));
  heads = λ n l. s.heads n l ∙ m.heads n l;
}

-- ---- the words without their end

pub slides_cut : (vars len end : ℕ) (f : ℕ → ℕ) (refs new ws : List ℕ) → IsPlan vars len f refs new end
    → Slides refs new f (word ws) vars → Slides refs new f (word (take end ws)) vars
slides_cut vars len end f refs new ws p s =
    let high : 2 * vars ≤ end = p.heads in
    record {
      clauses = λ j l. (let a : word new j + 4 + f (word refs j) ≤ end = p.inside j l in
          slid_kept refs new f (word ws) (word (take end ws)) (word refs j) (word new j) (s.clauses j l)
          (λ k b. get_or-take end ws k 0 (omega arith)));
      heads = λ n l. get_or-take end ws n 0 (omega arith) ∙ s.heads n l;
    }

-- ---- clause by clause

-- a clause that was held, at its new place
pub record IsOld (refs new : List ℕ) (f g : ℕ → ℕ) (r : ℕ) : Type 0 where
  pub held : In (renamed refs new r) new
  pub slid : HasSlid refs new f g r (renamed refs new r)

pub old_clause : (vars len end : ℕ) (f g : ℕ → ℕ) (refs new : List ℕ) (r : ℕ) → Rises refs
    → IsPlan vars len f refs new end → Slides refs new f g vars → In r refs → IsOld refs new f g r
old_clause vars len end f g refs new r up p s i =
    let k = at_of refs r i in
    let count : length new ≡ length refs = p.count in
    let w : k.at < length refs = k.within in
    let e : word new k.at ≡ renamed refs new r =
    sym (renamed_at refs new k.at up count w) ∙ ap (renamed refs new) k.value in
    record {
      held = subst (λ (u : ℕ). In u new) e (in_at new k.at (omega arith));
      slid = subst (λ (u : ℕ). HasSlid refs new f g r u) e
          (subst (λ (u : ℕ). HasSlid refs new f g u (word new k.at)) k.value (s.clauses k.at w));
    }

-- a clause that is held now, at its old place
pub record IsNew (vars len : ℕ) (refs new : List ℕ) (f g : ℕ → ℕ) (s : ℕ) : Type 0 where
  pub ref : ℕ
  pub held : In ref refs
  pub is : s ≡ renamed refs new ref
  pub slid : HasSlid refs new f g ref s
  pub even : s % 2 ≡ 0
  pub first : 2 * vars ≤ s
  pub inside : s + 4 + f ref ≤ len

pub new_clause : (vars len end : ℕ) (f g : ℕ → ℕ) (refs new : List ℕ) (s : ℕ) → Rises refs
    → IsPlan vars len f refs new end → Slides refs new f g vars → In s new → IsNew vars end refs new f g s
new_clause vars len end f g refs new s up p x i =
    let k = at_of new s i in
    let count : length new ≡ length refs = p.count in
    let v : k.at < length new = k.within in
    let w : k.at < length refs = omega arith in
    subst (λ (u : ℕ). IsNew vars end refs new f g u) k.value (record {
      ref = word refs k.at;
      held = in_at refs k.at w;
      is = sym (renamed_at refs new k.at up count w);
      slid = x.clauses k.at w;
      even = p.even k.at w;
      first = p.first k.at w;
      inside = p.inside k.at w;
    })

-- clauses stand in the order in which they stood
pub in_order : (vars len end : ℕ) (f : ℕ → ℕ) (refs new : List ℕ) (r q : ℕ) → Rises refs
    → IsPlan vars len f refs new end → In r refs → In q refs → r < q → renamed refs new r + 4 + f r ≤ renamed refs new q
in_order vars len end f refs new r q up p i j h =
    let a = at_of refs r i in
    let b = at_of refs q j in
    let wa : a.at < length refs = a.within in
    let wb : b.at < length refs = b.within in
    let ea : word refs a.at ≡ r = a.value in
    let eb : word refs b.at ≡ q = b.value in
    let count : length new ≡ length refs = p.count in
    let lt : a.at < b.at = elim (cases_lt a.at b.at) [
      | inl l ↦ l
      | inr ge ↦ (let z : word refs b.at ≤ word refs a.at = rises_to refs b.at a.at up ge wa in absurd (omega arith))
    ] in
    let na : word new a.at ≡ renamed refs new r =
    sym (renamed_at refs new a.at up count wa) ∙ ap (renamed refs new) ea in
    let nb : word new b.at ≡ renamed refs new q =
    sym (renamed_at refs new b.at up count wb) ∙ ap (renamed refs new) eb in
    let fa : f (word refs a.at) ≡ f r = ap f ea in
    let c : word new a.at + 4 + f (word refs a.at) ≤ word new b.at = p.apart a.at b.at lt wb in
    omega arith

-- ---- where the clauses stand

laid_anew : (vars len end : ℕ) (f g : ℕ → ℕ) (refs new : List ℕ) → IsLaid vars len f refs
    → IsPlan vars len f refs new end → Slides refs new f g vars → IsLaid vars end g new
laid_anew vars len end f g refs new laid p x =
    let at = λ (s : ℕ) (i : In s new). new_clause vars len end f g refs new s laid.rising p x i in
    let order = λ (r q : ℕ) (i : In r refs) (j : In q refs) (h : r < q).
    in_order vars len end f refs new r q laid.rising p i j h in
    let older = λ (s t : ℕ) (i : In s new) (j : In t new) (h : s < t).
    (let a = at s i in let b = at t j in
    let ea : s ≡ renamed refs new a.ref = a.is in
    let eb : t ≡ renamed refs new b.ref = b.is in
    let lt : a.ref < b.ref = elim (cases_order a.ref b.ref) [
      | inl e ↦ (let z : renamed refs new a.ref ≡ renamed refs new b.ref = ap (renamed refs new) e in
          absurd (omega arith))
      | inr c ↦ elim c [
        | inl l ↦ l
        | inr l ↦ (let z : renamed refs new b.ref + 4 + f b.ref ≤ renamed refs new a.ref =
            order b.ref a.ref b.held a.held l in absurd (omega arith))
      ]
    ] in lt) in
    record {
      heads = p.heads;
      rising = rises_of new (λ j k h l.
          (let count : length new ≡ length refs = p.count in
          let a : word new j + 4 + f (word refs j) ≤ word new k = p.apart j k h (omega arith) in omega arith));
      first = λ s i. (at s i).first;
      even = λ s i. (at s i).even;
      inside = λ s i. (let a = at s i in let e : g s ≡ f a.ref = a.slid.size in
          let b : s + 4 + f a.ref ≤ end = a.inside in omega arith);
      apart = λ s t i j h. (let a = at s i in let b = at t j in
          let lt : a.ref < b.ref = older s t i j h in
          let c : renamed refs new a.ref + 4 + f a.ref ≤ renamed refs new b.ref = order a.ref b.ref a.held b.held lt in
          let ea : s ≡ renamed refs new a.ref = a.is in
          let eb : t ≡ renamed refs new b.ref = b.is in
          let e : g s ≡ f a.ref = a.slid.size in omega arith);
      below = λ s k i h. (let a = at s i in let e : g s ≡ f a.ref = a.slid.size in
          let c : g (s + 4 + k) ≡ f (a.ref + 4 + k) = a.slid.codes k (omega arith) in
          let d : f (a.ref + 4 + k) < 2 * vars = laid.below a.ref k a.held (omega arith) in omega arith);
      differ = λ s j k i hj hk e. (let a = at s i in let z : g s ≡ f a.ref = a.slid.size in
          laid.differ a.ref j k a.held (omega arith) (omega arith)
          (sym (a.slid.codes j (omega arith)) ∙ e ∙ a.slid.codes k (omega arith)));
      numbers = λ s t i j h. (let a = at s i in let b = at t j in
          let lt : a.ref < b.ref = older s t i j h in
          let c : f (a.ref + 1) < f (b.ref + 1) = laid.numbers a.ref b.ref a.held b.held lt in
          let ea : g (s + 1) ≡ f (a.ref + 1) = a.slid.number in
          let eb : g (t + 1) ≡ f (b.ref + 1) = b.slid.number in omega arith);
    }

-- ---- the lists

in_map : (h : ℕ → ℕ) (p : ℕ) (xs : List ℕ) → In p xs → In (h p) (map h xs)
in_map h p [] i = absurd i
in_map h p (x ∷ xs) (inl e) = inl (ap h e)
in_map h p (x ∷ xs) (inr i) = inr (in_map h p xs i)

record IsImage (h : ℕ → ℕ) (q : ℕ) (xs : List ℕ) : Type 0 where
  from : ℕ
  held : In from xs
  is : q ≡ h from

of_map : (h : ℕ → ℕ) (q : ℕ) (xs : List ℕ) → In q (map h xs) → IsImage h q xs
of_map h q [] i = absurd i
of_map h q (x ∷ xs) (inl e) = record { from = x; held = inl refl; is = e }
of_map h q (x ∷ xs) (inr i) = let k = of_map h q xs i in record { from = k.from; held = inr k.held; is = k.is }

-- a list whose links lead to new places leads to the new places of what it led to
threads_slid : (f g h : ℕ → ℕ) (at to : ℕ) (xs : List ℕ) → Threads f at xs → h 0 ≡ 0 → g to ≡ h (f at)
    → ((p : ℕ) → In p xs → 0 < h p) → ((p : ℕ) → In p xs → g (h p) ≡ h (f p)) → Threads g to (map h xs)
threads_slid f g h at to [] t z e pos same = e ∙ ap h t ∙ z
threads_slid f g h at to (q ∷ qs) t z e pos same = (
  e ∙ ap h t.0,
  pos q (inl refl),
  threads_slid f g h q (h q) qs t.2 z (same q (inl refl)) (λ p i. pos p (inr i)) (λ p i. same p (inr i)),
)

-- the link of a watch, at its new place
record IsSlidLink (refs new : List ℕ) (f g : ℕ → ℕ) (p : ℕ) : Type 0 where
  above : 0 < slid refs new p
  leads : g (slid refs new p) ≡ slid refs new (f p)

slid_link : (vars len end : ℕ) (f g : ℕ → ℕ) (refs new : List ℕ) (n p : ℕ) → IsLaid vars len f refs
    → IsPlan vars len f refs new end → Slides refs new f g vars → IsWatch f refs n p → IsSlidLink refs new f g p
slid_link vars len end f g refs new n p laid plan x w =
    let o = old_clause vars len end f g refs new w.ref laid.rising plan x w.held in
    let at : slid refs new p ≡ renamed refs new w.ref + 2 + w.side =
    slid_place refs new p w.ref w.side w.place (laid.even w.ref w.held) w.low in
    record {
      above = omega arith;
      leads = ap g at ∙ o.slid.links w.side w.two w.low ∙ ap (λ (u : ℕ). slid refs new (f u)) (sym w.place);
    }

watch_slid : (vars len end : ℕ) (f g : ℕ → ℕ) (refs new : List ℕ) (n p q : ℕ) → IsLaid vars len f refs
    → IsPlan vars len f refs new end → Slides refs new f g vars → IsWatch f refs n p → q ≡ slid refs new p
    → IsWatch g new n q
watch_slid vars len end f g refs new n p q laid plan x w e =
    let o = old_clause vars len end f g refs new w.ref laid.rising plan x w.held in
    let low : w.side < 2 = w.low in
    let two : 2 ≤ f w.ref = w.two in
    record {
      ref = renamed refs new w.ref;
      side = w.side;
      held = o.held;
      low = w.low;
      two = (let z : g (renamed refs new w.ref) ≡ f w.ref = o.slid.size in omega arith);
      place = e ∙ slid_place refs new p w.ref w.side w.place (laid.even w.ref w.held) w.low;
      code = o.slid.codes w.side (omega arith) ∙ w.code;
    }

linked_anew : (vars len end : ℕ) (f g : ℕ → ℕ) (refs new : List ℕ) (lists : ℕ → List ℕ) → IsLaid vars len f refs
    → IsLinked vars f refs lists → IsPlan vars len f refs new end → Slides refs new f g vars
    → IsLinked vars g new (λ n. map (slid refs new) (lists n))
linked_anew vars len end f g refs new lists laid linked plan x = record {
  threads = λ n h. threads_slid f g (slid refs new) n n (lists n) (linked.threads n h) refl (x.heads n h)
      (λ p i. (slid_link vars len end f g refs new n p laid plan x (linked.watch n p h i)).above)
      (λ p i. (slid_link vars len end f g refs new n p laid plan x (linked.watch n p h i)).leads);
  watch = λ n q h i. (let k = of_map (slid refs new) q (lists n) i in
      watch_slid vars len end f g refs new n k.from q laid plan x (linked.watch n k.from h k.held) k.is);
  listed = λ s side i two low.
      (let a = new_clause vars len end f g refs new s laid.rising plan x i in
      let size : g s ≡ f a.ref = a.slid.size in
      let two_old : 2 ≤ f a.ref = omega arith in
      let there : In (a.ref + 2 + side) (lists (f (a.ref + 4 + side))) = linked.listed a.ref side a.held two_old low in
      let at : slid refs new (a.ref + 2 + side) ≡ s + 2 + side =
      slid_place refs new (a.ref + 2 + side) a.ref side refl (laid.even a.ref a.held) low
      ∙ ap (λ (u : ℕ). u + 2 + side) (sym a.is) in
      subst (λ (u : ℕ). In (s + 2 + side) (map (slid refs new) (lists u))) (sym (a.slid.codes side (omega arith)))
      (subst (λ (u : ℕ). In u (map (slid refs new) (lists (f (a.ref + 4 + side))))) at
      (in_map (slid refs new) (a.ref + 2 + side) (lists (f (a.ref + 4 + side))) there)));
}

-- what a compaction leaves
pub record IsCompacted (vars : ℕ) (ws done refs new : List ℕ) : Type 0 where
  pub sound : IsSound vars done new
  pub compacts : Compacts (store vars ws refs) (store vars done new)

pub compacted : (vars : ℕ) (ws slid_words refs new : List ℕ) (end : ℕ) → IsSound vars ws refs
    → length slid_words ≡ length ws → IsPlan vars (length ws) (word ws) refs new end
    → Slides refs new (word ws) (word slid_words) vars → end ≡ packed (2 * vars) (map (word ws) refs)
    → IsCompacted vars ws (take end slid_words) refs new
compacted vars ws slid_words refs new end sound len plan s dense =
    let done = take end slid_words in
    let x = slides_cut vars (length ws) end (word ws) refs new slid_words plan s in
    let fits : end ≤ length ws = plan.fits in
    let size : length done ≡ end = omega (arith, length-take end slid_words) in
    let laid = subst (λ (k : ℕ). IsLaid vars k (word done) new) (sym size)
    (laid_anew vars (length ws) end (word ws) (word done) refs new sound.laid plan x) in
    let old = λ (r : ℕ) (i : In r refs). old_clause vars (length ws) end (word ws) (word done) refs new r
    sound.laid.rising plan x i in
    let y = settle vars done new (λ n. map (slid refs new) (places ws n)) laid
    (linked_anew vars (length ws) end (word ws) (word done) refs new (places ws) sound.laid sound.linked plan x) in
    record {
      sound = y.sound;
      compacts = record {
        vars = refl;
        count = plan.count;
        held = λ r i. (old r i).held;
        same = λ r i. (let o = old r i in
            record { size = o.slid.size; number = o.slid.number; codes = o.slid.codes });
        watched = y.places_are;
        dense = size ∙ dense;
      };
    }

-- as the code has it: the vectors are read through slices, and what slid is cut and put back
pub compacted_at : (vars : ℕ) (ws ds slid_words done refs drs new out : List ℕ) (end : ℕ) → ds ≡ ws → drs ≡ refs
    → done ≡ take end slid_words → out ≡ new → IsSound vars ws refs → length slid_words ≡ length ds
    → IsPlan vars (length ds) (word ds) drs new end → Slides drs new (word ds) (word slid_words) vars
    → end ≡ packed (2 * vars) (map (word ds) drs) → IsCompacted vars ws done refs out
compacted_at vars ws ds slid_words done refs drs new out end ed er ew eo sound len plan s dense =
    subst (λ (u : List ℕ). IsCompacted vars ws u refs out) (sym ew)
    (subst (λ (u : List ℕ). IsCompacted vars ws (take end slid_words) refs u) (sym eo)
    (compacted vars ws slid_words refs new end sound (len ∙ ap length ed)
    (subst (λ (u : List ℕ). IsPlan vars (length u) (word u) refs new end) ed
    (subst (λ (u : List ℕ). IsPlan vars (length ds) (word ds) u new end) er plan))
    (subst (λ (u : List ℕ). Slides refs new (word u) (word slid_words) vars) ed
    (subst (λ (u : List ℕ). Slides u new (word ds) (word slid_words) vars) er s))
    (dense ∙ ap (λ (u : List ℕ). packed (2 * vars) (map (word ds) u)) er
    ∙ ap (λ (u : List ℕ). packed (2 * vars) (map (word u) refs)) ed)))
