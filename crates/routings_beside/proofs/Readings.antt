-- Readings with other values of nodes that a store does not have.
use Rattle.std.proofs.Common.{◌≡◌, ◌∙◌, ℕ, ◌<◌, ◌&&◌, ◌||◌, Bool, not, if◌then◌else◌, List, ap, arith, refl, subst, sym}
use Rattle.std.proofs.lemmas.Option.{slice_get_within}
use Rattle.term_store.specs.declared.Node.{Node}
use Rattle.term_store.specs.declared.Node.TheVariants.{Const, Var, Not, And, Or, Xor, Ite}
use Rattle.term_store.specs.Reading.{Reads}
use Rattle.term_store.specs.Terms.{Agrees, IsBelow, IsSound, Reading, Store, differ, gate, size}

-- of equally many variables
pub agrees_so_many : (w : Reading) (valuation : List Bool) (m n : ℕ) → m ≡ n → Agrees w valuation m →
    Agrees w valuation n
agrees_so_many w valuation m n same agrees = subst (λ (k : ℕ). Agrees w valuation k) same agrees

-- a node's kind has its value by operands of the same values
same_gate : (u : Reading) (f : ℕ → Bool) (limit vars : ℕ) (n : Node) → ((i : ℕ) → i < limit → f i ≡ u.node i) →
    IsBelow limit vars n → gate u n ≡ gate (record { variable = u.variable; node = f }) n
same_gate u f limit vars (Const b) same below = refl
same_gate u f limit vars (Var k) same below = refl
same_gate u f limit vars (Not a) same below = ap not (sym (same a.0 below))
same_gate u f limit vars (And a b) same below = λ i. sym (same a.0 below.0) i && sym (same b.0 below.1) i
same_gate u f limit vars (Or a b) same below = λ i. sym (same a.0 below.0) i || sym (same b.0 below.1) i
same_gate u f limit vars (Xor a b) same below = λ i. differ (sym (same a.0 below.0) i) (sym (same b.0 below.1) i)
same_gate u f limit vars (Ite c a b) same below =
    λ i. if sym (same c.0 below.0) i then sym (same a.0 below.1) i else sym (same b.0 below.2) i

-- values that are a reading's at the nodes of the store read it too
pub reads_by : (s : Store) (u : Reading) (f : ℕ → Bool) → IsSound s.nodes s.vars → Reads u s →
    ((i : ℕ) → i < size s → f i ≡ u.node i) → Reads (record { variable = u.variable; node = f }) s
unfolding Reads
reads_by s u f sound reads same i n there =
    let within = slice_get_within s.nodes i n there in
    same i within
    ∙ reads i n there
    ∙ same_gate u f i s.vars n (λ k less. same k (omega (arith, less, within))) (sound.below i n there)
