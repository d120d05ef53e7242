-- New references, and what follows of them for places.
use Rattle.std.specs.Prelude.{ℕ, zero, suc, ◌≡◌, ◌≢◌, ◌+◌, ◌-◌, ◌%◌, ◌<◌, ◌≤◌, List, [], ◌∷◌, length, refl}
use Rattle.std.proofs.Common.{sym, ◌∙◌, ap, subst, inl, inr, arith}
use Rattle.std.proofs.lemmas.Bool.{cases_Bool, cases_eq, ne_eqb}
use Rattle.std.proofs.lemmas.List.{get_or-set_same, get_or-set_other}
use Rattle.std.proofs.Math.Dec.{eqb}
use Rattle.std.proofs.Math.ListN.{set}
use borrow.Author.Tests.{eqb-true, eq-eqb}
use Rattle.clause_arena.specs.Links.{word}
use Rattle.mw_text.specs.Members.{In}
use Rattle.clause_arena.specs.Store.{Rises}
use Rattle.clause_arena.specs.Compacted.{renamed, slid, IsCopied, IsMended, SlidesOne, IsLinkWord}
use Rattle.clause_arena.proofs.Places.{in_at, at_of}

-- ---- new references

-- what stands at a place has what stands there in the other list
pub renamed_at : (refs new : List ℕ) (j : ℕ) → Rises refs → length new ≡ length refs → j < length refs
    → renamed refs new (word refs j) ≡ word new j
renamed_at [] new j up e h = absurd (omega arith)
renamed_at (r ∷ rs) [] j up e h = absurd (omega arith)
renamed_at (r ∷ rs) (s ∷ ss) zero up e h = rw (eq-eqb r r refl) refl
renamed_at (r ∷ rs) (s ∷ ss) (suc j) up e h =
    let l : r < word rs j = up.0 (word rs j) (in_at rs j (omega arith)) in
    let rest : renamed rs ss (word rs j) ≡ word ss j = renamed_at rs ss j up.1 (omega arith) (omega arith) in
    rw (ne_eqb (word rs j) r (λ z. omega arith)) rest

-- what stands nowhere has none
pub renamed_none : (refs new : List ℕ) (x : ℕ) → ((q : ℕ) → In q refs → q ≢ x) → renamed refs new x ≡ 0
renamed_none [] new x out = refl
renamed_none (r ∷ rs) [] x out = refl
renamed_none (r ∷ rs) (s ∷ ss) x out =
    let rest : renamed rs ss x ≡ 0 = renamed_none rs ss x (λ q i. out q (inr i)) in
    rw (ne_eqb x r (λ z. out r (inl refl) (sym z))) rest

-- no new reference is above the old one
pub renamed_down : (refs new : List ℕ) (x : ℕ) → ((j : ℕ) → j < length refs → word new j ≤ word refs j)
    → renamed refs new x ≤ x
renamed_down [] new x down = omega arith
renamed_down (r ∷ rs) [] x down = omega arith
renamed_down (r ∷ rs) (s ∷ ss) x down =
    elim (cases_Bool (eqb x r)) [
      | inl t ↦ rw t (let a : s ≤ r = down 0 (omega arith) in let e : x ≡ r = eqb-true x r t in omega arith)
      | inr t ↦ rw t (renamed_down rs ss x (λ j h. down (suc j) (omega arith)))
    ]

-- ---- new places

-- the place of a watch
pub slid_place : (refs new : List ℕ) (p r side : ℕ) → p ≡ r + 2 + side → r % 2 ≡ 0 → side < 2
    → slid refs new p ≡ renamed refs new r + 2 + side
slid_place refs new p r side e even low =
    let a : p - 2 - p % 2 ≡ r = omega arith in
    let b : p % 2 ≡ side = omega arith in
    rw (ne_eqb p 0 (λ z. omega arith), a, b) refl

-- a list of references that rises by places
pub rises_of : (xs : List ℕ) → ((j k : ℕ) → j < k → k < length xs → word xs j < word xs k) → Rises xs
rises_of [] up = tt
rises_of (x ∷ xs) up = (
  λ s i. (let k = at_of xs s i in
      let v : word xs k.at ≡ s = k.value in
      let w : k.at < length xs = k.within in
      let a : x < word xs k.at = up 0 (suc k.at) (omega arith) (omega arith) in
      omega arith),
  rises_of xs (λ j k h l. up (suc j) (suc k) (omega arith) (omega arith)),
)

-- ---- the writes

pub mended_of : (refs new ws : List ℕ) (at v : ℕ) → at < length ws → v ≡ slid refs new (word ws at)
    → IsMended refs new (word ws) (word (set ws at v)) at
mended_of refs new ws at v h e = record {
  link = get_or-set_same ws at v 0 h ∙ e;
  others = λ j ne. get_or-set_other ws at j v 0 ne;
}

-- a clause of fewer than two literals has no links
pub slides_few : (refs new : List ℕ) (f g : ℕ → ℕ) (r s size : ℕ) → IsCopied f g r s (4 + size) → s ≤ r → size ≡ f r
    → size < 2 → SlidesOne refs new f g r s
slides_few refs new f g r s size c down e few = record {
  slid = record {
    size = (let x : s + 0 ≡ s = omega arith in let y : r + 0 ≡ r = omega arith in
        subst (λ (u : ℕ). g u ≡ f r) x (subst (λ (u : ℕ). g (s + 0) ≡ f u) y (c.copied 0 (omega arith))));
    number = c.copied 1 (omega arith);
    codes = λ k h. (let x : s + (4 + k) ≡ s + 4 + k = omega arith in let y : r + (4 + k) ≡ r + 4 + k = omega arith in
        subst (λ (u : ℕ). g u ≡ f (r + 4 + k)) x (subst (λ (u : ℕ). g (s + (4 + k)) ≡ f u) y
        (c.copied (4 + k) (omega arith))));
    links = λ side two low. absurd (omega arith);
  };
  below = c.below;
  behind = λ j h. c.behind j (omega arith);
}

-- a clause of two or more has two
pub slides_two : (refs new : List ℕ) (f g h i : ℕ → ℕ) (r s size : ℕ) → IsCopied f g r s (4 + size) → s ≤ r
    → size ≡ f r → 2 ≤ size → IsMended refs new g h (s + 2) → IsMended refs new h i (s + 3) → SlidesOne refs new f i r s
slides_two refs new f g h i r s size c down e two m n =
    let keep : (j : ℕ) → j ≢ s + 2 → j ≢ s + 3 → i j ≡ g j = λ j a b. n.others j b ∙ m.others j a in
    let one : i (s + 2) ≡ slid refs new (f (r + 2)) = n.others (s + 2) (omega arith) ∙ m.link
    ∙ ap (slid refs new) (c.copied 2 (omega arith)) in
    let other : i (s + 3) ≡ slid refs new (f (r + 3)) = n.link ∙ ap (slid refs new) (m.others (s + 3) (omega arith)
    ∙ c.copied 3 (omega arith)) in
    record {
      slid = record {
        size = (let x : s + 0 ≡ s = omega arith in let y : r + 0 ≡ r = omega arith in
            keep s (omega arith) (omega arith) ∙ subst (λ (u : ℕ). g u ≡ f r) x
            (subst (λ (u : ℕ). g (s + 0) ≡ f u) y (c.copied 0 (omega arith))));
        number = keep (s + 1) (omega arith) (omega arith) ∙ c.copied 1 (omega arith);
        codes = λ k h. (let x : s + (4 + k) ≡ s + 4 + k = omega arith in
            let y : r + (4 + k) ≡ r + 4 + k = omega arith in
            keep (s + 4 + k) (omega arith) (omega arith) ∙ subst (λ (u : ℕ). g u ≡ f (r + 4 + k)) x
            (subst (λ (u : ℕ). g (s + (4 + k)) ≡ f u) y (c.copied (4 + k) (omega arith))));
        links = λ side w low. elim (cases_eq side 0) [
          | inl z ↦ subst (λ (u : ℕ). i (s + 2 + u) ≡ slid refs new (f (r + 2 + u))) (sym z)
              (let x : s + 2 ≡ s + 2 + 0 = omega arith in let y : r + 2 ≡ r + 2 + 0 = omega arith in
              subst (λ (u : ℕ). i u ≡ slid refs new (f (r + 2 + 0))) x
              (subst (λ (u : ℕ). i (s + 2) ≡ slid refs new (f u)) y one))
          | inr nz ↦ (let k : side ≡ 1 = omega arith in
              subst (λ (u : ℕ). i (s + 2 + u) ≡ slid refs new (f (r + 2 + u))) (sym k)
              (let x : s + 3 ≡ s + 2 + 1 = omega arith in let y : r + 3 ≡ r + 2 + 1 = omega arith in
              subst (λ (u : ℕ). i u ≡ slid refs new (f (r + 2 + 1))) x
              (subst (λ (u : ℕ). i (s + 3) ≡ slid refs new (f u)) y other)))
        ];
      };
      below = λ j l. keep j (omega arith) (omega arith) ∙ c.below j l;
      behind = λ j l. keep j (omega arith) (omega arith) ∙ c.behind j (omega arith);
    }

-- the two links of a clause that was copied are links still
pub link_copied : (f g : ℕ → ℕ) (r s size side : ℕ) → IsCopied f g r s (4 + size) → side < 2
    → IsLinkWord (f (r + 2 + side)) → IsLinkWord (g (s + 2 + side))
link_copied f g r s size side c low link =
    let x : s + (2 + side) ≡ s + 2 + side = omega arith in
    let y : r + (2 + side) ≡ r + 2 + side = omega arith in
    let e : g (s + 2 + side) ≡ f (r + 2 + side) = subst (λ (u : ℕ). g u ≡ f (r + 2 + side)) x
    (subst (λ (u : ℕ). g (s + (2 + side)) ≡ f u) y (c.copied (2 + side) (omega arith))) in
    subst (λ (u : ℕ). IsLinkWord u) (sym e) link

-- the second link is one still when the first is mended
pub link_second : (refs new : List ℕ) (f g h : ℕ → ℕ) (r s size : ℕ) → IsCopied f g r s (4 + size)
    → IsMended refs new g h (s + 2) → IsLinkWord (f (r + 3)) → IsLinkWord (h (s + 3))
link_second refs new f g h r s size c m link =
    subst (λ (u : ℕ). IsLinkWord u) (sym (m.others (s + 3) (omega arith) ∙ c.copied 3 (omega arith))) link
