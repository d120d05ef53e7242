-- The codes of literals.
use Rattle.std.specs.Prelude.{ℕ, zero, suc, ◌≡◌, ◌≢◌, ◌*◌, ◌/◌, ◌<◌, true, false, not, nat_lt, List, [], ◌∷◌, length}
use Rattle.std.specs.Prelude.{map, refl}
use Rattle.std.proofs.Common.{sym, ◌∙◌, ap, inl, inr, arith}
use Rattle.std.proofs.lemmas.Bool.{and_parts, cases_Bool}
use Rattle.std.proofs.lemmas.Bool.Decides.{nat_tests}
use Rattle.resolution_check.specs.declared.log.Lit.{Lit}
use Rattle.resolution_check.specs.Clauses.{is_below}
use Rattle.resolution_check.specs.Earned.{has_var, vars_differ}
use Rattle.clause_arena.specs.Links.{word}
use Rattle.clause_arena.specs.Held.{code_of}

code_half : (l : Lit) → code_of l / 2 ≡ l.var
code_half l = elim (cases_Bool l.negated) [ inl t ↦ rw t (omega arith) | inr f ↦ rw f (omega arith) ]

-- the code of a literal over the variables below a limit
pub code_low : (vars : ℕ) (l : Lit) → l.var < vars → code_of l < 2 * vars
code_low vars l h = elim (cases_Bool l.negated) [ inl t ↦ rw t (omega arith) | inr f ↦ rw f (omega arith) ]

var_low : (vars : ℕ) (l : Lit) (c : List Lit) → is_below vars (l ∷ c) ≡ true → l.var < vars
var_low vars l c h = let t : nat_lt l.var vars ≡ true = (and_parts (nat_lt l.var vars) (is_below vars c) h).0 in
    grind (arith, nat_tests)

-- the codes of a clause are those of heads
pub codes_below : (vars : ℕ) (c : List Lit) (k : ℕ) → is_below vars c ≡ true → k < length (map code_of c)
    → word (map code_of c) k < 2 * vars
codes_below vars [] k h b = absurd (omega arith)
codes_below vars (l ∷ c) zero h b = code_low vars l (var_low vars l c h)
codes_below vars (l ∷ c) (suc k) h b =
    codes_below vars c k (and_parts (nat_lt l.var vars) (is_below vars c) h).1 (omega arith)

-- a literal of another variable
other_var : (c : List Lit) (var k : ℕ) → has_var c var ≡ false → k < length (map code_of c)
    → word (map code_of c) k / 2 ≢ var
other_var [] var k h b e = absurd (omega arith)
other_var (l ∷ c) var zero h b e =
    let same : l.var ≡ var = sym (code_half l) ∙ e in
    grind (arith, nat_tests)
other_var (l ∷ c) var (suc k) h b e =
    let tail : has_var c var ≡ false = grind (arith, nat_tests) in
    other_var c var k tail (omega arith) e

-- clauses of different variables have different codes
pub codes_differ : (c : List Lit) (j k : ℕ) → vars_differ c ≡ true → j < length (map code_of c)
    → k < length (map code_of c)
    → word (map code_of c) j ≡ word (map code_of c) k → j ≡ k
codes_differ [] j k h a b e = absurd (omega arith)
codes_differ (l ∷ c) zero zero h a b e = refl
codes_differ (l ∷ c) zero (suc k) h a b e =
    let out : has_var c l.var ≡ false = grind (arith, nat_tests) in
    absurd (other_var c l.var k out (omega arith) (ap (λ (u : ℕ). u / 2) (sym e) ∙ code_half l))
codes_differ (l ∷ c) (suc j) zero h a b e =
    let out : has_var c l.var ≡ false = grind (arith, nat_tests) in
    absurd (other_var c l.var j out (omega arith) (ap (λ (u : ℕ). u / 2) e ∙ code_half l))
codes_differ (l ∷ c) (suc j) (suc k) h a b e =
    let tail : vars_differ c ≡ true = (and_parts (not (has_var c l.var)) (vars_differ c) h).1 in
    ap suc (codes_differ c j k tail (omega arith) (omega arith) e)
