-- A loop that changes each channel by the change at its place.
use Rattle.std.proofs.Common.{◌≡◌, ◌∙◌, ◌≢◌, ◌⊎◌, ℕ, zero, suc, ◌+◌, ◌<◌, ◌≤◌, List, [], ◌∷◌, length, get_or, set, refl, ap, sym, subst, arith, inl, inr}
use Rattle.std.proofs.Common.{get_or-set_other, get_or-set_same}
use Rattle.std.specs.Prelude.{All}
use Rattle.std.proofs.Math.ListN.{length-set}
use Rattle.std.proofs.lemmas.Bool.{cases_eq}
use Rattle.std.proofs.lemmas.List.{ext_get_or}
use Rattle.mw_text.proofs.Found.{get_or-any}
use Rattle.machine_channels.specs.declared.channels.Change.{Change}
use Rattle.machine_laws.specs.declared.state.Channel.{Channel}
use Rattle.machine_channels.specs.Changes.{all_changed, changed}
use Rattle.machine_laws.specs.Channels.{silent}

pub record IsChanging {M : Type 0} (cs : List (Channel M)) (changes : List (Change M)) (at : ℕ) (now : List (Channel M))
    (left : List (Change M)) : Type 0 where
  pub as_many : length changes ≡ length cs
  pub many : length left ≡ length cs
  pub long : length now ≡ length cs
  pub front : (k : ℕ) (d : Channel M) → k < at → get_or now k d ≡ get_or (all_changed cs changes) k d
  pub rest : (k : ℕ) (d : Channel M) → at ≤ k → get_or now k d ≡ get_or cs k d
  pub more : (k : ℕ) (d : Change M) → at ≤ k → get_or left k d ≡ get_or changes k d

pub changing_start : {M : Type 0} (cs : List (Channel M)) (changes : List (Change M)) → length changes ≡ length cs →
    IsChanging cs changes 0 cs changes
changing_start cs changes many = record {
  as_many = many;
  many = many;
  long = refl;
  front = λ k d h. absurd (omega arith);
  rest = λ k d h. refl;
  more = λ k d h. refl;
}

changed_at : {M : Type 0} (cs : List (Channel M)) (changes : List (Change M)) (k : ℕ) (d : Channel M) (e : Change M) → k < length cs →
    length changes ≡ length cs → get_or (all_changed cs changes) k d ≡ changed (get_or changes k e) (get_or cs k d)
changed_at [] changes k d e h many = absurd (omega arith)
changed_at (c ∷ cs) [] k d e h many = absurd (omega arith)
changed_at (c ∷ cs) (x ∷ changes) zero d e h many = refl
changed_at (c ∷ cs) (x ∷ changes) (suc k) d e h many = changed_at cs changes k d e (omega arith) (omega arith)

length_changed : {M : Type 0} (cs : List (Channel M)) (changes : List (Change M)) → length (all_changed cs changes) ≡ length cs
length_changed [] changes = refl
length_changed (c ∷ cs) [] = refl
length_changed (c ∷ cs) (x ∷ changes) = ap (λ n. suc n) (length_changed cs changes)

front_at : {M : Type 0} (cs : List (Channel M)) (changes : List (Change M)) (at : ℕ) (now : List (Channel M)) (c new : Channel M) (k : ℕ)
    (d : Channel M) → (k ≡ at) ⊎ (k ≡ at → ⊥) → k < at + 1 → at < length cs → length now ≡ length cs →
    new ≡ get_or (all_changed cs changes) at c →
    ((j : ℕ) (e : Channel M) → j < at → get_or now j e ≡ get_or (all_changed cs changes) j e) →
    get_or (set now at new) k d ≡ get_or (all_changed cs changes) k d
front_at cs changes at now c new k d (inl same) below h long made front =
    let lt : at < length now = omega arith in
    let into : at < length (all_changed cs changes) = omega (arith, length_changed cs changes) in
    rw same (rw get_or-set_same (made ∙ get_or-any (all_changed cs changes) at c d into))
front_at cs changes at now c new k d (inr ne) below h long made front =
    rw get_or-set_other (front k d (omega (arith, ne)))

pub changing_next : {M : Type 0} (cs : List (Channel M)) (changes : List (Change M)) (at : ℕ) (now : List (Channel M)) (left : List (Change M))
    (c new : Channel M) (x y : Change M) → IsChanging cs changes at now left → at < length cs → c ≡ get_or now at c → x ≡ get_or left at x →
    new ≡ changed x c → IsChanging cs changes (at + 1) (set now at new) (set left at y)
changing_next cs changes at now left c new x y i h here by is =
    let c_is : c ≡ get_or cs at c = here ∙ i.rest at c (omega arith) in
    let x_is : x ≡ get_or changes at x = by ∙ i.more at x (omega arith) in
    let made : new ≡ get_or (all_changed cs changes) at c =
    is ∙ (ap (λ z. changed z c) x_is ∙ (ap (λ z. changed (get_or changes at x) z) c_is ∙ sym (changed_at cs changes at c x h i.as_many))) in
    record {
      as_many = i.as_many;
      many = length-set left at y ∙ i.many;
      long = length-set now at new ∙ i.long;
      front = λ k d below. front_at cs changes at now c new k d (cases_eq k at) below h i.long made i.front;
      rest = λ k d above. let ne : k ≢ at = omega arith in rw get_or-set_other (i.rest k d (omega arith));
      more = λ k d above. let ne : k ≢ at = omega arith in rw get_or-set_other (i.more k d (omega arith));
    }

pub changing_end : {M : Type 0} (cs : List (Channel M)) (changes : List (Change M)) (at : ℕ) (now : List (Channel M)) (left : List (Change M)) →
    IsChanging cs changes at now left → length cs ≤ at → now ≡ all_changed cs changes
changing_end cs changes at now left i h =
    ext_get_or silent now (all_changed cs changes) (i.long ∙ sym (length_changed cs changes)) (λ k k_in. i.front k silent (omega (arith, i.long)))

-- what holds of each of the items holds of one that has not changed
pub small_here : {X : Type 0} (P : X → Type 0) (xs now : List X) (at : ℕ) (x d : X) → All P xs → at < length xs → x ≡ get_or now at d →
    get_or now at d ≡ get_or xs at d → P x
small_here P xs now at x d all h is same = subst P (sym (is ∙ same)) (all at d h)
