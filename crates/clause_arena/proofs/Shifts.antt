-- The move of a watch, from the writes to what a caller sees.
use Rattle.std.specs.Prelude.{ℕ, ◌≡◌, ◌≢◌, ◌+◌, ◌*◌, ◌<◌, ◌≤◌, ◌⊎◌, List, ◌∷◌, length, Option, refl}
use Rattle.std.proofs.Common.{sym, ◌∙◌, subst, inl, inr, arith, cond}
use Rattle.std.proofs.lemmas.Bool.{ne_eqb}
use Rattle.std.proofs.Math.Dec.{eqb}
use borrow.Author.Tests.{eq-eqb}
use Rattle.std.proofs.lemmas.List.{get_or-set_same, get_or-set_other}
use Rattle.std.proofs.Math.ListN.{set, length-set}
use Rattle.clause_arena.specs.declared.names.Watch.{Watch}
use Rattle.clause_arena.specs.Links.{word, Threads, places, after, cut}
use Rattle.mw_text.specs.Members.{In}
use Rattle.clause_arena.specs.Store.{IsLaid, IsSound, store}
use Rattle.clause_arena.specs.Watched.{place, own, Stands, head, left, link_of}
use Rattle.clause_arena.specs.Changes.{IsMoved, IsClear, IsRelinked, IsTwo}
use Rattle.clause_arena.specs.Moved.{Moves}
use Rattle.clause_arena.proofs.Threads.{off_own, next_in, after_threads, first_threads, after_cut, in_cut}
use Rattle.clause_arena.proofs.Settling.{settle, within_words}
use Rattle.clause_arena.proofs.Walks.{followed, code_below}
use Rattle.clause_arena.proofs.Moves.{IsSpot, IsShifted, turn, off_link, kept_word, size_kept, laid_moved, linked_moved}

-- ---- the writes

pub relinked_of : (ws : List ℕ) (b p m : ℕ) → b < length ws → p < length ws → m < length ws → b ≢ p → b ≢ m → p ≢ m
    → IsRelinked (word ws) (word (set (set (set ws b (word ws p)) p (word (set ws b (word ws p)) m)) m p)) b p m
relinked_of ws b p m lb lp lm bp bm pm =
    let one = set ws b (word ws p) in
    let two = set one p (word one m) in
    let kept : word one m ≡ word ws m = get_or-set_other ws b m (word ws p) 0 (λ (e : m ≡ b). bm (sym e)) in
    record {
      link = get_or-set_other two m b p 0 bm ∙ get_or-set_other one p b (word one m) 0 bp
          ∙ get_or-set_same ws b (word ws p) 0 lb;
      place = get_or-set_other two m p p 0 pm
          ∙ get_or-set_same one p (word one m) 0 (omega (arith, length-set {A = ℕ})) ∙ kept;
      head = get_or-set_same two m p 0 (omega (arith, length-set {A = ℕ}));
      others = λ j nb np nm. get_or-set_other two m j p 0 nm ∙ get_or-set_other one p j (word one m) 0 np
          ∙ get_or-set_other ws b j (word ws p) 0 nb;
    }

pub two_of : (ws : List ℕ) (x m y n : ℕ) → x < length ws → y < length ws → x ≢ y
    → IsTwo (word ws) (word (set (set ws x m) y n)) x m y n
two_of ws x m y n lx ly ne = record {
  one = get_or-set_other (set ws x m) y x n 0 ne ∙ get_or-set_same ws x m 0 lx;
  other = get_or-set_same (set ws x m) y n 0 (omega (arith, length-set {A = ℕ}));
  others = λ j nx ny. get_or-set_other (set ws x m) y j n 0 ny ∙ get_or-set_other ws x j m 0 nx;
}

pub moved_of : (len : ℕ) (f h g : ℕ → ℕ) (b p m n x y : ℕ) → IsClear len b p m x y → IsRelinked f h b p m
    → IsTwo h g x m y n → IsMoved f g b p m n x y
moved_of len f h g b p m n x y c r t = record {
  link = t.others b (λ e. c.one_link (sym e)) (λ e. c.other_link (sym e)) ∙ r.link;
  place = t.others p (λ e. c.one_place (sym e)) (λ e. c.other_place (sym e)) ∙ r.place;
  head = t.others m (λ e. c.one_head (sym e)) (λ e. c.other_head (sym e)) ∙ r.head;
  one = t.one;
  other = t.other;
  others = λ j nb np nm nx ny. t.others j nx ny ∙ r.others j nb np nm;
}

-- ---- what is asked of a caller

pub spot_of : (vars : ℕ) (ws refs : List ℕ) (before : Option Watch) (w : Watch) (to : ℕ) → IsSound vars ws refs
    → Stands (store vars ws refs) (own (store vars ws refs) w) w
    → head (store vars ws refs) before (own (store vars ws refs) w) ≡ place w
    → 2 ≤ to → to < word ws w.clause.0
    → IsSpot vars (word ws) refs (places ws) w.clause.0 w.side to (link_of before (own (store vars ws refs) w))
spot_of vars ws refs before w to s st e behind within =
    let n = own (store vars ws refs) w in
    let b = link_of before n in
    let t : Threads (word ws) n (places ws n) = s.linked.threads n (code_below vars ws refs w s st) in
    let pos : 0 < place w = omega arith in
    let here : (b ≡ n) ⊎ In b (places ws n) =
    followed (word ws) n b (places ws n) (subst (λ (k : ℕ). 0 < k) (sym e) pos) in
    record {
      held = st.held;
      low = st.low;
      behind = behind;
      within = within;
      link = here;
      leads = sym (first_threads (word ws) b (after b n (places ws n))
          (after_threads (word ws) n b (places ws n) t here)) ∙ e;
    }

pub clear_of : (vars : ℕ) (ws refs : List ℕ) (r side to b : ℕ) → IsSound vars ws refs
    → IsSpot vars (word ws) refs (places ws) r side to b
    → IsClear (length ws) b (r + 2 + side) (word ws (r + 4 + to)) (r + 4 + side) (r + 4 + to)
clear_of vars ws refs r side to b s spot =
    let f = word ws in
    let n = f (r + 4 + side) in
    let t = turn vars (length ws) f refs (places ws) r side to b s.laid spot in
    let low : side < 2 = spot.low in let behind : 2 ≤ to = spot.behind in let within : to < f r = spot.within in
    let high : 2 * vars ≤ r = t.high in
    let m_low : f (r + 4 + to) < 2 * vars = t.new_low in
    let n_low : n < 2 * vars = t.old_low in
    let inside : r + 4 + f r ≤ length ws = s.laid.inside r spot.held in
    let fb : f b ≡ r + 2 + side = spot.leads in
    let off = λ (k : ℕ) (h : k < 4 + f r) (c : (k < 2) ⊎ (4 ≤ k)). off_link vars (length ws) f refs
    (places ws) r side to b s.laid s.linked spot r k spot.held h c in
    let follows : Threads f b (after b n (places ws n)) =
    after_threads f n b (places ws n) (s.linked.threads n n_low) spot.link in
    record {
      link = elim spot.link [
        | inl z ↦ omega (arith, s.laid.heads)
        | inr j ↦ within_words vars ws refs n b s.laid
            (s.linked.watch n b n_low j)
      ];
      place = omega arith;
      head = omega arith;
      one = omega arith;
      other = omega arith;
      link_place = λ e. off_own f b (after b n (places ws n)) follows
          (subst (λ (u : ℕ). In u (after b n (places ws n))) (fb ∙ sym e)
          (next_in f b b (after b n (places ws n)) follows (inl refl) (omega arith)));
      link_head = λ e. elim spot.link [
        | inl z ↦ t.apart (sym e ∙ z)
        | inr j ↦ (let w = s.linked.watch n b n_low j in let wl : 2 * vars ≤ w.ref = s.laid.first w.ref w.held in
            let at : b ≡ w.ref + 2 + w.side = w.place in omega arith)
      ];
      place_head = omega arith;
      one_link = λ e. off (4 + side) (omega arith) (inr (omega arith)) (omega arith);
      one_place = omega arith;
      one_head = omega arith;
      other_link = λ e. off (4 + to) (omega arith) (inr (omega arith)) (omega arith);
      other_place = omega arith;
      other_head = omega arith;
      one_other = omega arith;
    }

-- ---- what a caller sees

shift : (ℕ → List ℕ) → ℕ → ℕ → ℕ → ℕ → ℕ → List ℕ
shift lists b p m n k = cond (eqb k n) (cut b n (lists n)) (cond (eqb k m) (p ∷ lists m) (lists k))

shifted_so : (lists : ℕ → List ℕ) (b p m n : ℕ) → m ≢ n → IsShifted lists (shift lists b p m n) b p m n
unfolding shift
shifted_so lists b p m n ne = record {
  left = rw (eq-eqb n n refl) refl;
  joined = rw (ne_eqb m n ne, eq-eqb m m refl) refl;
  others = λ k a c. rw (ne_eqb k n a, ne_eqb k m c) refl;
}

-- what a move leaves
pub record IsDone (vars : ℕ) (ws new refs : List ℕ) (before : Option Watch) (w : Watch) (to : ℕ) : Type 0 where
  pub sound : IsSound vars new refs
  pub moves : Moves (store vars ws refs) (store vars new refs) before w to
  pub below : own (store vars ws refs) w < 2 * vars
  pub link : (link_of before (own (store vars ws refs) w) ≡ own (store vars ws refs) w)
      ⊎ In (link_of before (own (store vars ws refs) w)) (places new (own (store vars ws refs) w))
  pub fewer : left (store vars new refs) before (own (store vars ws refs) w) < left (store vars ws refs) before
      (own (store vars ws refs) w)

pub done : (vars : ℕ) (ws new refs : List ℕ) (before : Option Watch) (w : Watch) (to : ℕ) → IsSound vars ws refs
    → Stands (store vars ws refs) (own (store vars ws refs) w) w
    → head (store vars ws refs) before (own (store vars ws refs) w) ≡ place w
    → 2 ≤ to → to < word ws w.clause.0 → length new ≡ length ws
    → IsMoved (word ws) (word new) (link_of before (own (store vars ws refs) w)) (place w)
    (word ws (w.clause.0 + 4 + to)) (own (store vars ws refs) w)
    (w.clause.0 + 4 + w.side) (w.clause.0 + 4 + to)
    → IsDone vars ws new refs before w to
done vars ws new refs before w to s st e behind within len moved =
    let r = w.clause.0 in
    let side = w.side in
    let n = own (store vars ws refs) w in
    let m = word ws (r + 4 + to) in
    let b = link_of before n in
    let p = r + 2 + side in
    let spot = spot_of vars ws refs before w to s st e behind within in
    let t = turn vars (length ws) (word ws) refs (places ws) r side to b s.laid spot in
    let c = clear_of vars ws refs r side to b s spot in
    let more = shift (places ws) b p m n in
    let shifted = shifted_so (places ws) b p m n t.apart in
    let low : side < 2 = st.low in
    let fb : word ws b ≡ p = spot.leads in
    let laid = subst (λ (k : ℕ). IsLaid vars k (word new) refs) (sym len)
    (laid_moved vars (length ws) (word ws) (word new) refs (places ws) r side to b s.laid s.linked spot moved) in
    let x = settle vars new refs more laid
    (linked_moved vars (length ws) (word ws) (word new) refs
    (places ws) more r side to b s.laid s.linked spot moved shifted) in
    let left_is : places new n ≡ cut b n (places ws n) = x.places_are n t.old_low ∙ shifted.left in
    record {
      sound = x.sound;
      moves = record {
        vars = refl;
        refs = refl;
        left = left_is;
        joined = x.places_are m t.new_low ∙ shifted.joined;
        others = λ k h a d. x.places_are k h ∙ shifted.others k a d;
        one = moved.one;
        other = moved.other;
        sizes = size_kept vars (length ws) (word ws) (word new) refs (places ws) r side to b s.laid s.linked spot moved;
        numbers = λ q i. kept_word vars (length ws) (word ws) (word new) refs
            (places ws) r side to b s.laid s.linked spot moved q 1 i
            (omega arith) (inl (omega arith)) (λ z y. omega arith) (λ z y. omega arith);
        codes = λ q k i h one other. (let z : q + (4 + k) ≡ q + 4 + k = omega arith in
            subst (λ (u : ℕ). word new u ≡ word ws u) z
            (kept_word vars (length ws) (word ws) (word new) refs (places ws) r side to b s.laid s.linked spot moved q
            (4 + k) i
            (omega arith) (inr (omega arith)) (λ z y. one z (omega arith)) (λ z y. other z (omega arith))));
      };
      below = t.old_low;
      link = elim spot.link [
        | inl z ↦ inl z
        | inr j ↦ inr (subst (λ (xs : List ℕ). In b xs) (sym left_is)
            (in_cut (word ws) n b (places ws n) b (s.linked.threads n t.old_low) spot.link j
            (λ q. c.link_place (q ∙ fb))))
      ];
      fewer = subst (λ (xs : List ℕ). length (after b n xs) < length (after b n (places ws n))) (sym left_is)
          (after_cut (word ws) n b (places ws n) (s.linked.threads n t.old_low) spot.link (omega arith));
    }

-- ---- as the code has it

pub clear_at : (vars : ℕ) (ws refs : List ℕ) (before : Option Watch) (w : Watch) (to b p m : ℕ) → IsSound vars ws refs
    → Stands (store vars ws refs) (own (store vars ws refs) w) w
    → head (store vars ws refs) before (own (store vars ws refs) w) ≡ place w
    → 2 ≤ to → to < word ws w.clause.0
    → b ≡ link_of before (own (store vars ws refs) w) → p ≡ place w → m ≡ word ws (w.clause.0 + 4 + to)
    → IsClear (length ws) b p m (w.clause.0 + 4 + w.side) (w.clause.0 + 4 + to)
clear_at vars ws refs before w to b p m s st e behind within eb ep em =
    let x = w.clause.0 + 4 + w.side in
    let y = w.clause.0 + 4 + to in
    let n = own (store vars ws refs) w in
    let c = clear_of vars ws refs w.clause.0 w.side to (link_of before n) s
    (spot_of vars ws refs before w to s st e behind within) in
    subst (λ (u : ℕ). IsClear (length ws) u p m x y) (sym eb)
    (subst (λ (u : ℕ). IsClear (length ws) (link_of before n) u m x y) (sym ep)
    (subst (λ (u : ℕ). IsClear (length ws) (link_of before n) (place w) u x y) (sym em) c))

pub done_at : (vars : ℕ) (ws new refs : List ℕ) (before : Option Watch) (w : Watch) (to b p m n : ℕ)
    → IsSound vars ws refs
    → Stands (store vars ws refs) (own (store vars ws refs) w) w
    → head (store vars ws refs) before (own (store vars ws refs) w) ≡ place w
    → 2 ≤ to → to < word ws w.clause.0 → length new ≡ length ws
    → b ≡ link_of before (own (store vars ws refs) w) → p ≡ place w → m ≡ word ws (w.clause.0 + 4 + to)
    → n ≡ own (store vars ws refs) w
    → IsMoved (word ws) (word new) b p m n (w.clause.0 + 4 + w.side) (w.clause.0 + 4 + to)
    → IsDone vars ws new refs before w to
done_at vars ws new refs before w to b p m n s st e behind within len eb ep em en moved =
    let x = w.clause.0 + 4 + w.side in
    let y = w.clause.0 + 4 + to in
    let f = word ws in
    let g = word new in
    let k = own (store vars ws refs) w in
    done vars ws new refs before w to s st e behind within len
    (subst (λ (u : ℕ). IsMoved f g u (place w) (f y) k x y) eb
    (subst (λ (u : ℕ). IsMoved f g b u (f y) k x y) ep
    (subst (λ (u : ℕ). IsMoved f g b p u k x y) em
    (subst (λ (u : ℕ). IsMoved f g b p m u x y) en moved))))
