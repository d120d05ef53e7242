-- Marks of the variables of a clause.
use Rattle.std.proofs.Common.{◌≡◌, ℕ, zero, suc, ◌+◌, ◌<◌, ◌==◌, Bool, true, false, cond, ◌||◌, List, [], ◌∷◌}
use Rattle.std.proofs.Common.{◌&&◌, take, slice_get, Some, refl, sym, ap, ◌∙◌, subst}
use Rattle.std.proofs.lemmas.Bool.{or_left, or_right, and_from}
use Rattle.std.proofs.lemmas.List.Folds.{list_any-append, list_all-append}
use Rattle.std.proofs.Math.Bool.{and-false}
use Rattle.mw_text.proofs.Found.{take_at}
use Rattle.resolution_check.specs.declared.log.Lit.{Lit}
use Rattle.resolution_check.specs.Clauses.{is_same, has, is_below}
use Rattle.resolution_check.specs.Earned.{has_var}
use Rattle.resolution_check.proofs.Literals.{same_refl}
use Rattle.resolution_check.proofs.Values.{below_at}
use Rattle.conflict_analysis.specs.Levels.{others_marked}

-- what stands at a place of a clause is one of its literals
pub has_at : (c : List Lit) (k : ℕ) (l : Lit) → slice_get c k ≡ Some l → has c l ≡ true
has_at [] k l h = absurd (cc)
has_at (m ∷ c) zero l h =
    let e : m ≡ l = cc in or_left _ _ (ap (is_same l) e ∙ same_refl l)
has_at (m ∷ c) (suc k) l h = or_right (is_same l m) _ (has_at c k l h)

pub var_within : (limit len : ℕ) (c : List Lit) (k : ℕ) (l : Lit) → is_below limit c ≡ true → slice_get c k ≡ Some l
    → len ≡ limit → l.var < len
var_within limit len c k l below h e = subst (λ n. l.var < n) (sym e) (below_at limit c l below (has_at c k l h))

turned : (b h o : Bool) → cond b true (h || o) ≡ ((h || (b || false)) || o)
turned true true o = refl
turned true false o = refl
turned false true o = refl
turned false false o = refl

-- one literal more is marked
pub marked_more : (c : List Lit) (at : ℕ) (l : Lit) (old now next : ℕ → Bool) → slice_get c at ≡ Some l
    → ((v : ℕ) → now v ≡ (has_var (take at c) v || old v)) → ((v : ℕ) → next v ≡ cond (l.var == v) true (now v))
    → (v : ℕ) → next v ≡ (has_var (take (at + 1) c) v || old v)
marked_more c at l old now next h before more v =
    let e : has_var (take (at + 1) c) v ≡ (has_var (take at c) v || ((l.var == v) || false)) =
    ap (λ xs. has_var xs v) (take_at c at l h) ∙ list_any-append (λ (m : Lit). m.var == v) (take at c) (l ∷ []) in
    more v ∙ ap (cond (l.var == v) true) (before v) ∙ turned (l.var == v) (has_var (take at c) v) (old v)
    ∙ ap (λ b. b || old v) (sym e)

-- the literal of a step is the only one there
pub mark_of : (ss : List Lit) (at : ℕ) (t : Lit) (marks : ℕ → Bool) → slice_get ss at ≡ Some t
    → (l : Lit) → slice_get ss at ≡ Some l → marks l.var ≡ marks t.var
mark_of ss at t marks there l here = let e : l ≡ t = cc in ap (λ (k : Lit). marks k.var) e

-- ---- whether all variables of a clause but one are marked

pub others_more : (marks : ℕ → Bool) (var : ℕ) (c : List Lit) (at : ℕ) (l : Lit) → slice_get c at ≡ Some l
    → others_marked marks var (take at c) ≡ true → ((l.var == var) || marks l.var) ≡ true
    → others_marked marks var (take (at + 1) c) ≡ true
others_more marks var c at l there before one =
    ap (others_marked marks var) (take_at c at l there)
    ∙ list_all-append (λ (k : Lit). (k.var == var) || marks k.var) (take at c) (l ∷ [])
    ∙ and_from _ _ before (and_from _ _ one refl)

pub others_missing : (marks : ℕ → Bool) (var : ℕ) (c : List Lit) (at : ℕ) (l : Lit) → slice_get c at ≡ Some l
    → ((l.var == var) || marks l.var) ≡ false → others_marked marks var c ≡ false
others_missing marks var [] at l there none = absurd (cc)
others_missing marks var (m ∷ c) zero l there none =
    let e : m ≡ l = cc in
    ap (λ b. b && others_marked marks var c) (ap (λ (k : Lit). (k.var == var) || marks k.var) e ∙ none)
others_missing marks var (m ∷ c) (suc at) l there none =
    ap (λ b. ((m.var == var) || marks m.var) && b) (others_missing marks var c at l there none)
    ∙ and-false ((m.var == var) || marks m.var)
