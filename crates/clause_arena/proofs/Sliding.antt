-- Clauses slide down one after another.
use Rattle.std.specs.Prelude.{ℕ, ◌≡◌, ◌+◌, ◌*◌, ◌<◌, ◌≤◌, List, length, refl}
use Rattle.std.proofs.Common.{sym, ◌∙◌, subst, inl, inr, arith}
use Rattle.std.proofs.lemmas.Bool.{cases_eq}
use Rattle.clause_arena.specs.Links.{word}
use Rattle.clause_arena.specs.Store.{IsLaid}
use Rattle.clause_arena.specs.Compacted.{slid, IsPlan, HasSlid, SlidesOne, SlidesAll, HasLinks, IsLinkWord}
use Rattle.clause_arena.proofs.Places.{in_at, rises_at}

-- the first so many clauses have slid, and the words from the next on are as they were
pub record HasSlidTo (refs new : List ℕ) (f g : ℕ → ℕ) (vars i : ℕ) : Type 0 where
  pub clauses : (j : ℕ) → j < i → HasSlid refs new f g (word refs j) (word new j)
  pub rest : (k j : ℕ) → i ≤ k → k < length refs → word refs k ≤ j → g j ≡ f j
  pub heads : (n : ℕ) → n < 2 * vars → g n ≡ f n

pub slid_none : (refs new : List ℕ) (f : ℕ → ℕ) (vars : ℕ) → HasSlidTo refs new f f vars 0
slid_none refs new f vars = record {
  clauses = λ j h. absurd (omega arith);
  rest = λ k j a b c. refl;
  heads = λ n h. refl;
}

-- what slid stays where no word of it changes
pub slid_kept : (refs new : List ℕ) (f g h : ℕ → ℕ) (r s : ℕ) → HasSlid refs new f g r s
    → ((j : ℕ) → j < s + 4 + f r → h j ≡ g j) → HasSlid refs new f h r s
slid_kept refs new f g h r s x same = record {
  size = same s (omega arith) ∙ x.size;
  number = same (s + 1) (omega arith) ∙ x.number;
  codes = λ k l. same (s + 4 + k) (omega arith) ∙ x.codes k l;
  links = λ side two low. same (s + 2 + side) (omega arith) ∙ x.links side two low;
}

-- one clause as it was in the words before all
pub slid_from : (refs new : List ℕ) (f g h : ℕ → ℕ) (r s : ℕ) → HasSlid refs new g h r s
    → ((j : ℕ) → r ≤ j → g j ≡ f j) → HasSlid refs new f h r s
slid_from refs new f g h r s x same =
    let size : g r ≡ f r = same r (omega arith) in
    record {
      size = x.size ∙ size;
      number = x.number ∙ same (r + 1) (omega arith);
      codes = λ k l. x.codes k (omega arith) ∙ same (r + 4 + k) (omega arith);
      links = λ side two low. subst (λ (u : ℕ). h (s + 2 + side) ≡ slid refs new u) (same (r + 2 + side) (omega arith))
          (x.links side (omega arith) low);
    }

pub slid_more : (vars len end : ℕ) (refs new : List ℕ) (f g h : ℕ → ℕ) (i : ℕ) → IsLaid vars len f refs
    → IsPlan vars len f refs new end → i < length refs → HasSlidTo refs new f g vars i
    → SlidesOne refs new g h (word refs i) (word new i) → HasSlidTo refs new f h vars (i + 1)
slid_more vars len end refs new f g h i laid plan l done one =
    let r = word refs i in
    let s = word new i in
    let size : g r ≡ f r = done.rest i r (omega arith) l (omega arith) in
    let high : 2 * vars ≤ s = plan.first i l in
    record {
      clauses = λ j w. elim (cases_eq j i) [
        | inl e ↦ subst (λ (u : ℕ). HasSlid refs new f h (word refs u) (word new u)) (sym e)
            (slid_from refs new f g h r s one.slid (λ k b. done.rest i k (omega arith) l b))
        | inr ne ↦ (let lt : j < i = omega arith in
            let a : word new j + 4 + f (word refs j) ≤ s = plan.apart j i lt l in
            slid_kept refs new f g h (word refs j) (word new j) (done.clauses j lt)
            (λ k b. one.below k (omega arith)))
      ];
      rest = λ k j a b w.
          (let up : r < word refs k = rises_at refs i k laid.rising (omega arith) b in
          let far : r + 4 + f r ≤ word refs k = laid.apart r (word refs k) (in_at refs i l) (in_at refs k b) up in
          one.behind j (omega arith) ∙ done.rest k j (omega arith) b w);
      heads = λ n b. one.below n (omega arith) ∙ done.heads n b;
    }

pub slid_all : (refs new : List ℕ) (f g : ℕ → ℕ) (vars i : ℕ) → HasSlidTo refs new f g vars i → i ≡ length refs
    → SlidesAll refs new f g vars
slid_all refs new f g vars i done e =
    record { clauses = λ j h. done.clauses j (omega arith); heads = done.heads }

-- ---- what one clause asks

pub inside_next : (vars len end : ℕ) (refs new : List ℕ) (f g : ℕ → ℕ) (i now : ℕ) → IsLaid vars len f refs
    → i < length refs → HasSlidTo refs new f g vars i → now ≡ len → word refs i + 4 + g (word refs i) ≤ now
inside_next vars len end refs new f g i now laid l done e =
    let r = word refs i in
    let size : g r ≡ f r = done.rest i r (omega arith) l (omega arith) in
    let a : r + 4 + f r ≤ len = laid.inside r (in_at refs i l) in
    omega arith

pub links_next : (vars : ℕ) (refs new : List ℕ) (f g : ℕ → ℕ) (i side : ℕ) → HasLinks f refs → i < length refs
    → HasSlidTo refs new f g vars i → 2 ≤ g (word refs i) → side < 2 → IsLinkWord (g (word refs i + 2 + side))
links_next vars refs new f g i side links l done two low =
    let r = word refs i in
    let size : g r ≡ f r = done.rest i r (omega arith) l (omega arith) in
    subst (λ (u : ℕ). IsLinkWord u) (sym (done.rest i (r + 2 + side) (omega arith) l (omega arith)))
    (links.link r side (in_at refs i l) (omega arith) low)
