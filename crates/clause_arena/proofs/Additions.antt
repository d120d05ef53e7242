-- A clause behind all clauses.
use Rattle.std.specs.Prelude.{ℕ, ◌≡◌, ◌≢◌, ◌+◌, ◌*◌, ◌%◌, ◌<◌, ◌≤◌, ◌⊎◌, List, [], ◌∷◌, ◌++◌, length, map, true, refl}
use Rattle.std.proofs.Common.{sym, ◌∙◌, ap, subst, inl, inr, arith}
use Rattle.std.proofs.lemmas.Bool.{cases_eq, cases_lt}
use Rattle.clause_arena.specs.Links.{word, Threads, places}
use Rattle.mw_text.specs.Members.{In}
use Rattle.clause_arena.specs.Store.{IsWatch, IsLaid, IsLinked, IsSound, store}
use Rattle.std.proofs.lemmas.List.{length-map}
use Rattle.resolution_check.specs.declared.log.Lit.{Lit}
use Rattle.resolution_check.specs.Clauses.{is_below}
use Rattle.resolution_check.specs.Earned.{vars_differ}
use Rattle.clause_arena.specs.Held.{code_of}
use Rattle.clause_arena.proofs.Codes.{codes_below, codes_differ}
use Rattle.clause_arena.specs.Changes.{IsPlaced, IsSame, Adds}
use Rattle.clause_arena.proofs.Threads.{threads_from}
use Rattle.clause_arena.proofs.Settling.{settle, in_split, in_front, in_end, rises_end}

-- a place and codes at which a clause may be put
pub record IsRoom (vars len : ℕ) (f : ℕ → ℕ) (refs : List ℕ) (r id : ℕ) (codes : List ℕ) : Type 0 where
  pub first : 2 * vars ≤ r
  pub even : r % 2 ≡ 0
  pub behind : (s : ℕ) → In s refs → s + 4 + f s ≤ r
  pub inside : r + 4 + length codes ≤ len
  pub below : (k : ℕ) → k < length codes → word codes k < 2 * vars
  pub differ : (j k : ℕ) → j < length codes → k < length codes → word codes j ≡ word codes k → j ≡ k
  pub above : (s : ℕ) → In s refs → f (s + 1) < id

-- the literal of this code is watched by the clause
pub record IsWatched (codes : List ℕ) (n : ℕ) : Type 0 where
  pub side : ℕ
  pub low : side < 2
  pub two : 2 ≤ length codes
  pub code : n ≡ word codes side

abbrev pub IsOther : List ℕ → ℕ → Type 0
IsOther codes n = (side : ℕ) → side < 2 → 2 ≤ length codes → n ≢ word codes side

which : (codes : List ℕ) (n : ℕ) → IsWatched codes n ⊎ IsOther codes n
which codes n =
    elim (cases_lt (length codes) 2) [
      | inl few ↦ inr (λ side low two e. omega arith)
      | inr two ↦ elim (cases_eq n (word codes 0)) [
        | inl e ↦ inl (record { side = 0; low = omega arith; two = two; code = e })
        | inr a ↦ elim (cases_eq n (word codes 1)) [
          | inl e ↦ inl (record { side = 1; low = omega arith; two = two; code = e })
          | inr b ↦ inr (λ side low w e. elim (cases_eq side 0) [
            | inl z ↦ a (e ∙ ap (word codes) z)
            | inr nz ↦ (let one : side ≡ 1 = omega arith in b (e ∙ ap (word codes) one))
          ])
        ]
      ]
    ]

-- the lists with the clause's watches in front of theirs
pub record IsJoined (lists more : ℕ → List ℕ) (r : ℕ) (codes : List ℕ) : Type 0 where
  pub watched : (side : ℕ) → side < 2 → 2 ≤ length codes → more (word codes side) ≡ (r + 2 + side)
      ∷ lists (word codes side)
  pub others : (n : ℕ) → IsOther codes n → more n ≡ lists n

-- the words of a clause that was there are as they were
pub frame : (vars len : ℕ) (f g : ℕ → ℕ) (refs : List ℕ) (r id : ℕ) (codes : List ℕ)
    → ((s : ℕ) → In s refs → 2 * vars ≤ s)
    → IsRoom vars len f refs r id codes → IsPlaced f g r id codes → (s k : ℕ) → In s refs → k < 4 + f s
    → g (s + k) ≡ f (s + k)
frame vars len f g refs r id codes first room p s k i h =
    let behind : s + 4 + f s ≤ r = room.behind s i in
    let high : 2 * vars ≤ s = first s i in
    p.others (s + k) (omega arith) (λ side low two e.
    let below : word codes side < 2 * vars = room.below side (omega arith) in
    omega arith)

pub same_of : (vars len : ℕ) (f g : ℕ → ℕ) (refs : List ℕ) (r id : ℕ) (codes : List ℕ)
    → ((s : ℕ) → In s refs → 2 * vars ≤ s)
    → IsRoom vars len f refs r id codes → IsPlaced f g r id codes → (s : ℕ) → In s refs → IsSame f g s
same_of vars len f g refs r id codes first room p s i =
    let at = frame vars len f g refs r id codes first room p s in
    record {
      size = (let z : s + 0 ≡ s = omega arith in subst (λ (u : ℕ). g u ≡ f u) z (at 0 i (omega arith)));
      number = at 1 i (omega arith);
      codes = λ k h. (let z : s + (4 + k) ≡ s + 4 + k = omega arith in
          subst (λ (u : ℕ). g u ≡ f u) z (at (4 + k) i (omega arith)));
    }

-- ---- where the clauses stand

pub laid_more : (vars len : ℕ) (f g : ℕ → ℕ) (refs : List ℕ) (r id : ℕ) (codes : List ℕ) (old : ℕ)
    → IsLaid vars old f refs → old ≤ len
    → IsRoom vars len f refs r id codes → IsPlaced f g r id codes → IsLaid vars len g (refs ++ r ∷ [])
laid_more vars len f g refs r id codes old laid longer room p =
    let same = same_of vars len f g refs r id codes laid.first room p in
    record {
      heads = (let h : 2 * vars ≤ old = laid.heads in omega arith);
      rising = rises_end r refs laid.rising (λ s i. (let b : s + 4 + f s ≤ r = room.behind s i in omega arith));
      first = λ s i. elim (in_split s r refs i) [
        | inl k ↦ laid.first s k
        | inr k ↦ subst (λ (u : ℕ). 2 * vars ≤ u)
            (sym k) room.first
      ];
      even = λ s i. elim (in_split s r refs i) [
        | inl k ↦ laid.even s k
        | inr k ↦ subst (λ (u : ℕ). u % 2 ≡ 0)
            (sym k) room.even
      ];
      inside = λ s i. elim (in_split s r refs i) [
        | inl k ↦ (let a : s + 4 + f s ≤ old = laid.inside s k in let e : g s ≡ f s = (same s k).size in omega arith)
        | inr k ↦ subst (λ (u : ℕ). u + 4 + g u ≤ len) (sym k) (let e : g r ≡ length codes = p.size in let a : r + 4
            + length codes ≤ len = room.inside in omega arith)
      ];
      apart = λ s t i j h. elim (in_split s r refs i) [
        | inl k ↦ (let e : g s ≡ f s = (same s k).size in
            elim (in_split t r refs j) [
              | inl l ↦ (let a : s + 4 + f s ≤ t = laid.apart s t k l h in omega arith)
              | inr l ↦ (let a : s + 4 + f s ≤ r = room.behind s k in omega arith)
            ])
        | inr k ↦ elim (in_split t r refs j) [
          | inl l ↦ (let a : t + 4 + f t ≤ r = room.behind t l in absurd (omega arith))
          | inr l ↦ absurd (omega arith)
        ]
      ];
      below = λ s k i h. elim (in_split s r refs i) [
        | inl q ↦ (let z : g s ≡ f s = (same s q).size in
            let e : g (s + 4 + k) ≡ f (s + 4 + k) = (same s q).codes k (omega arith) in
            let a : f (s + 4 + k) < 2 * vars = laid.below s k q (omega arith) in omega arith)
        | inr q ↦ (let h2 : k < g r = subst (λ (u : ℕ). k < g u) q h in let z : g r ≡ length codes = p.size in
            subst (λ (u : ℕ). g (u + 4 + k) < 2 * vars) (sym q)
            (let e : g (r + 4 + k) ≡ word codes k = p.codes_at k (omega arith) in
            let a : word codes k < 2 * vars = room.below k (omega arith) in omega arith))
      ];
      differ = λ s j k i hj hk e. elim (in_split s r refs i) [
        | inl q ↦ (let z : g s ≡ f s = (same s q).size in
            let lj : j < f s = omega arith in let lk : k < f s = omega arith in
            laid.differ s j k q lj lk (sym ((same s q).codes j lj) ∙ e ∙ (same s q).codes k lk))
        | inr q ↦ (let z : g r ≡ length codes = p.size in
            let mj : j < g r = subst (λ (u : ℕ). j < g u) q hj in let mk : k < g r = subst (λ (u : ℕ). k < g u) q hk in
            let lj : j < length codes = omega arith in let lk : k < length codes = omega arith in
            let e2 : g (r + 4 + j) ≡ g (r + 4 + k) = subst (λ (u : ℕ). g (u + 4 + j) ≡ g (u + 4 + k)) q e in
            room.differ j k lj lk (sym (p.codes_at j lj) ∙ e2 ∙ p.codes_at k lk))
      ];
      numbers = λ s t i j h. elim (in_split s r refs i) [
        | inl k ↦ (let e : g (s + 1) ≡ f (s + 1) = (same s k).number in
            elim (in_split t r refs j) [
              | inl l ↦ (let a : f (s + 1) < f (t + 1) = laid.numbers s t k l h in let b : g (t + 1)
                  ≡ f (t + 1) = (same t l).number in omega arith)
              | inr l ↦ subst (λ (u : ℕ). g (s + 1) < g (u + 1)) (sym l)
                  (let a : f (s + 1) < id = room.above s k in let b : g (r + 1) ≡ id = p.number in omega arith)
            ])
        | inr k ↦ elim (in_split t r refs j) [
          | inl l ↦ (let a : t + 4 + f t ≤ r = room.behind t l in absurd (omega arith))
          | inr l ↦ absurd (omega arith)
        ]
      ];
    }

-- ---- the lists

-- a watch that was there is one still
watch_more : (vars len : ℕ) (f g : ℕ → ℕ) (refs : List ℕ) (r id : ℕ) (codes : List ℕ)
    → ((s : ℕ) → In s refs → 2 * vars ≤ s)
    → IsRoom vars len f refs r id codes → IsPlaced f g r id codes → (n q : ℕ) → IsWatch f refs n q
    → IsWatch g (refs ++ r ∷ []) n q
watch_more vars len f g refs r id codes first room p n q w =
    let same = same_of vars len f g refs r id codes first room p w.ref w.held in
    let low : w.side < 2 = w.low in
    let two : 2 ≤ f w.ref = w.two in
    record {
      ref = w.ref;
      side = w.side;
      held = in_front w.ref r refs w.held;
      low = w.low;
      two = (let e : g w.ref ≡ f w.ref = same.size in omega arith);
      place = w.place;
      code = same.codes w.side (omega arith) ∙ w.code;
    }

-- the link of a watch that was there leads where it led
link_same : (vars len : ℕ) (f g : ℕ → ℕ) (refs : List ℕ) (r id : ℕ) (codes : List ℕ)
    → ((s : ℕ) → In s refs → 2 * vars ≤ s)
    → IsRoom vars len f refs r id codes → IsPlaced f g r id codes → (n q : ℕ) → IsWatch f refs n q → g q ≡ f q
link_same vars len f g refs r id codes first room p n q w =
    let low : w.side < 2 = w.low in
    let e : w.ref + (2 + w.side) ≡ q = (let at : q ≡ w.ref + 2 + w.side = w.place in omega arith) in
    subst (λ (u : ℕ). g u ≡ f u) e
    (frame vars len f g refs r id codes first room p w.ref (2 + w.side) w.held (omega arith))

pub linked_more : (vars len : ℕ) (f g : ℕ → ℕ) (refs : List ℕ) (r id : ℕ) (codes : List ℕ) (old : ℕ) (lists more : ℕ
    → List ℕ)
    → IsLaid vars old f refs → IsLinked vars f refs lists → IsRoom vars len f refs r id codes → IsPlaced f g r id codes
    → IsJoined lists more r codes → IsLinked vars g (refs ++ r ∷ []) more
linked_more vars len f g refs r id codes old lists more laid linked room p joined =
    let same = same_of vars len f g refs r id codes laid.first room p in
    let link = λ (n : ℕ) (h : n < 2 * vars) (j : ℕ)
    (i : In j (lists n)). link_same vars len f g refs r id codes laid.first room p n j (linked.watch n j h i) in
    let high : 2 * vars ≤ r = room.first in
    record {
      threads = λ n h. elim (which codes n) [
        | inl w ↦
            (let low : w.side < 2 = w.low in let two : 2 ≤ length codes = w.two in
            let e : more n ≡ (r + 2 + w.side)
            ∷ lists n = subst (λ (u : ℕ). more u ≡ (r + 2 + w.side) ∷ lists u) (sym w.code)
            (joined.watched w.side low two) in
            let gn : g n ≡ r + 2 + w.side = ap g w.code ∙ p.heads w.side two low in
            let gp : g (r + 2 + w.side) ≡ f n = p.links w.side two low ∙ ap f (sym w.code) in
            subst (λ (xs : List ℕ). Threads g n xs) (sym e)
            (gn, omega arith, threads_from f g n (r + 2 + w.side) (lists n) (linked.threads n h) gp (link n h)))
        | inr o ↦ subst (λ (xs : List ℕ). Threads g n xs) (sym (joined.others n o))
            (threads_from f g n n (lists n) (linked.threads n h) (p.others n (omega arith) o) (link n h))
      ];
      watch = λ n q h i. elim (which codes n) [
        | inl w ↦
            (let low : w.side < 2 = w.low in let two : 2 ≤ length codes = w.two in
            let e : more n ≡ (r + 2 + w.side)
            ∷ lists n = subst (λ (u : ℕ). more u ≡ (r + 2 + w.side) ∷ lists u) (sym w.code)
            (joined.watched w.side low two) in
            let i2 : (q ≡ r + 2 + w.side) ⊎ In q (lists n) = subst (λ (xs : List ℕ). In q xs) e i in
            elim i2 [
              | inl k ↦ record {
                ref = r;
                side = w.side;
                held = in_end r refs;
                low = low;
                two = (let z : g r ≡ length codes = p.size in omega arith);
                place = k;
                code = p.codes_at w.side (omega arith) ∙ sym w.code;
              }
              | inr k ↦ watch_more vars len f g refs r id codes laid.first room p n q (linked.watch n q h k)
            ])
        | inr o ↦ watch_more vars len f g refs r id codes laid.first room p n q
            (linked.watch n q h (subst (λ (xs : List ℕ). In q xs) (joined.others n o) i))
      ];
      listed = λ s side i two low. elim (in_split s r refs i) [
        | inl k ↦
            (let z : g s ≡ f s = (same s k).size in
            let e : g (s + 4 + side) ≡ f (s + 4 + side) = (same s k).codes side (omega arith) in
            let n = f (s + 4 + side) in
            let there : In (s + 2 + side) (lists n) = linked.listed s side k (omega arith) low in
            subst (λ (u : ℕ). In (s + 2 + side) (more u)) (sym e)
            (elim (which codes n) [
              | inl w ↦
                  (let e2 : more n ≡ (r + 2 + w.side)
                  ∷ lists n = subst (λ (u : ℕ). more u ≡ (r + 2 + w.side) ∷ lists u) (sym w.code)
                  (joined.watched w.side w.low w.two) in
                  subst (λ (xs : List ℕ). In (s + 2 + side) xs) (sym e2) (inr there))
              | inr o ↦ subst (λ (xs : List ℕ). In (s + 2 + side) xs) (sym (joined.others n o)) there
            ]))
        | inr k ↦
            (let two2 : 2 ≤ g r = subst (λ (u : ℕ). 2 ≤ g u) k two in
            let z : g r ≡ length codes = p.size in
            let w : 2 ≤ length codes = omega arith in
            subst (λ (u : ℕ). In (u + 2 + side) (more (g (u + 4 + side)))) (sym k)
            (subst (λ (u : ℕ). In (r + 2 + side) (more u)) (sym (p.codes_at side (omega arith)))
            (subst (λ (xs : List ℕ). In (r + 2 + side) xs) (sym (joined.watched side low w)) (inl refl))))
      ];
    }

-- ---- the lists that are made so

more_by : (lists : ℕ → List ℕ) (r : ℕ) (codes : List ℕ) (n : ℕ) → IsWatched codes n ⊎ IsOther codes n → List ℕ
more_by lists r codes n (inl w) = (r + 2 + w.side) ∷ lists n
more_by lists r codes n (inr o) = lists n

more_lists : (ℕ → List ℕ) → ℕ → List ℕ → ℕ → List ℕ
more_lists lists r codes n = more_by lists r codes n (which codes n)

more_watched : (lists : ℕ → List ℕ) (r : ℕ) (codes : List ℕ) (side : ℕ) → side < 2 → 2 ≤ length codes
    → ((j k : ℕ) → j < length codes → k < length codes → word codes j ≡ word codes k → j ≡ k)
    → (choice : IsWatched codes (word codes side) ⊎ IsOther codes (word codes side))
    → more_by lists r codes (word codes side) choice ≡ (r + 2 + side) ∷ lists (word codes side)
unfolding more_by
more_watched lists r codes side low two differ (inl w) =
    let a : w.side < 2 = w.low in
    let e : side ≡ w.side = differ side w.side (omega arith) (omega arith) w.code in
    ap (λ (k : ℕ). (r + 2 + k) ∷ lists (word codes side)) (sym e)
more_watched lists r codes side low two differ (inr o) = absurd (o side low two refl)

more_other : (lists : ℕ → List ℕ) (r : ℕ) (codes : List ℕ) (n : ℕ) → IsOther codes n
    → (choice : IsWatched codes n ⊎ IsOther codes n)
    → more_by lists r codes n choice ≡ lists n
unfolding more_by
more_other lists r codes n o (inl w) = absurd (o w.side w.low w.two w.code)
more_other lists r codes n o (inr q) = refl

joined_so : (lists : ℕ → List ℕ) (r : ℕ) (codes : List ℕ)
    → ((j k : ℕ) → j < length codes → k < length codes → word codes j ≡ word codes k → j ≡ k)
    → IsJoined lists (more_lists lists r codes) r codes
unfolding more_lists
joined_so lists r codes differ = record {
  watched = λ side low two. more_watched lists r codes side low two differ (which codes (word codes side));
  others = λ n o. more_other lists r codes n o (which codes n);
}

-- ---- the whole addition

placed_from : (f h g : ℕ → ℕ) (r id : ℕ) (codes : List ℕ) → ((k : ℕ) → k < r → h k ≡ f k)
    → ((side : ℕ) → 2 ≤ length codes → side < 2 → word codes side < r) → IsPlaced h g r id codes
    → IsPlaced f g r id codes
placed_from f h g r id codes same low p = record {
  size = p.size;
  number = p.number;
  codes_at = p.codes_at;
  links = λ side two s. p.links side two s ∙ same (word codes side) (low side two s);
  heads = p.heads;
  others = λ j b o. p.others j b o ∙ same j b;
}

-- what an addition leaves
pub record IsAdded (vars : ℕ) (ws refs new : List ℕ) (r id : ℕ) (codes : List ℕ) : Type 0 where
  pub sound : IsSound vars new (refs ++ r ∷ [])
  pub adds : Adds (store vars ws refs) (store vars new (refs ++ r ∷ [])) r id codes

pub added : (vars : ℕ) (ws grown new refs : List ℕ) (r id : ℕ) (codes : List ℕ) → IsSound vars ws refs
    → ((k : ℕ) → k < r → word grown k ≡ word ws k)
    → length ws ≤ length new → IsRoom vars (length new) (word ws) refs r id codes
    → IsPlaced (word grown) (word new) r id codes
    → IsAdded vars ws refs new r id codes
added vars ws grown new refs r id codes sound same longer room placed =
    let p = placed_from (word ws) (word grown) (word new) r id codes same
    (λ side two low. (let b : word codes side < 2 * vars = room.below side (omega arith) in
    let first : 2 * vars ≤ r = room.first in omega arith)) placed in
    let joined = joined_so (places ws) r codes room.differ in
    let s = settle vars new (refs ++ r ∷ []) (more_lists (places ws) r codes)
    (laid_more vars (length new) (word ws) (word new) refs r id codes (length ws) sound.laid longer room p)
    (linked_more vars (length new) (word ws) (word new) refs r id codes (length ws) (places ws)
    (more_lists (places ws) r codes) sound.laid sound.linked room p joined) in
    record {
      sound = s.sound;
      adds = record {
        vars = refl;
        refs = refl;
        size = p.size;
        number = p.number;
        codes_at = p.codes_at;
        kept = same_of vars (length new) (word ws) (word new) refs r id codes sound.laid.first room p;
        watched = λ side low two. s.places_are (word codes side) (room.below side (omega arith))
            ∙ joined.watched side low two;
        others = λ n h o. s.places_are n h ∙ joined.others n o;
      };
    }

-- behind all clauses there is room for one more
pub room_behind : (vars : ℕ) (ws new refs : List ℕ) (r id : ℕ) (lits : List Lit) → IsSound vars ws refs
    → r ≡ length ws + length ws % 2
    → length new ≡ r + 4 + length lits → is_below vars lits ≡ true → vars_differ lits ≡ true
    → ((s : ℕ) → In s refs → word ws (s + 1) < id)
    → IsRoom vars (length new) (word ws) refs r id (map code_of lits)
room_behind vars ws new refs r id lits sound at size below differ above =
    let heads : 2 * vars ≤ length ws = sound.laid.heads in
    record {
      first = omega arith;
      even = omega arith;
      behind = λ s i. (let a : s + 4 + word ws s ≤ length ws = sound.laid.inside s i in omega arith);
      inside = (let l : length (map code_of lits) ≡ length lits = length-map lits code_of in omega arith);
      below = λ k h. codes_below vars lits k below h;
      differ = λ j k a b e. codes_differ lits j k differ a b e;
      above = above;
    }
