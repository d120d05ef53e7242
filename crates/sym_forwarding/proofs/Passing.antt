-- Walks that pass a router by: those over the hops of the others.
use Rattle.std.proofs.Common.{◌≡◌, ◌≢◌, ℕ, zero, suc, Bool, true, false, cond, List, [], ◌∷◌, ◌++◌, ◌⊎◌, inl, inr}
use Rattle.std.proofs.Common.{Some, refl}
use Rattle.std.proofs.Common.{sym, ap, subst, arith, eqb, eq-eqb, set}
use Rattle.std.specs.Prelude.{Contains, slice_get}
use Rattle.std.specs.List.{AllByRecursion}
use Rattle.std.proofs.lemmas.Bool.{eqb-true}
use Rattle.std.proofs.lemmas.List.{length-set}
use Rattle.question_lang.specs.declared.question.Start.{Start}
use Rattle.question_lang.specs.declared.walk.End.{End}
use Rattle.question_lang.specs.declared.walk.Hop.{Hop}
use Rattle.question_lang.specs.declared.walk.Hop.TheVariants.{To, Ends}
use Rattle.question_lang.specs.Walks.{GoesOn}
use Rattle.walk_def.specs.Marks.{is_end, is_inside}
use Rattle.walk_def.proofs.Ends.{may_end, must_end}
use Rattle.sym_forwarding.specs.Layers.{Forwarding, silent}
use Rattle.sym_forwarding.specs.Forwardings.{IsForwarding}
use Rattle.sym_forwarding.proofs.Edges.{Stands}

-- the hops of all routers but one
abbrev pub without : ℕ → (ℕ → List Hop) → ℕ → List Hop
without via hops router = cond (eqb router via) [] (hops router)

-- a hop of these is one of a router that is not the one
has_kept : (own : List Hop) (b : Bool) (hop : Hop) → Contains (cond b [] own) hop → Contains own hop × (b ≡ false)
has_kept own true hop (k, within, is) = absurd (omega arith)
has_kept own false hop has = (has, refl)

kept : (via : ℕ) (hops : ℕ → List Hop) (router : ℕ) (hop : Hop) → Contains (without via hops router) hop →
    Contains (hops router) hop × (router ≢ via)
kept via hops router hop has =
    let parts = has_kept (hops router) (eqb router via) hop has in
    (parts.0, λ same. let here = eq-eqb router via same in let not_here = parts.1 in cc)

other : (via : ℕ) (hops : ℕ → List Hop) (router : ℕ) (hop : Hop) → Contains (hops router) hop → router ≢ via →
    Contains (without via hops router) hop
other via hops router hop has differs = by_same (eqb router via) refl where
  by_same : (b : Bool) → eqb router via ≡ b → Contains (cond b [] (hops router)) hop
  by_same true is = absurd (differs (eqb-true router via is))
  by_same false is = has

-- a walk over these hops is one that passes the router by
pub passes : (via : ℕ) (hops : ℕ → List Hop) (before : List Start) (now : Start) (rest : List Start) (end : End) →
    is_end end ≡ true → GoesOn (without via hops) before (now ∷ rest) end →
    GoesOn hops before (now ∷ rest) end × AllByRecursion (λ s. s.router ≢ via) (now ∷ rest)
passes via hops before now [] end proper may =
    let (has, differs) = kept via hops now.router (Ends end) (must_end (without via hops) before now end proper may) in
    (may_end hops before now end proper has, (differs, tt))
passes via hops before now (then ∷ rest) end proper ((at, is, has), on) =
    let (own, differs) = kept via hops now.router (To (record { router = then.router; at = at })) has in
    let later = passes via hops (before ++ now ∷ []) then rest end proper on in
    (((at, is, own), later.0), (differs, later.1))

pub passed : (via : ℕ) (hops : ℕ → List Hop) (before : List Start) (now : Start) (rest : List Start) (end : End) →
    is_end end ≡ true → GoesOn hops before (now ∷ rest) end → AllByRecursion (λ s. s.router ≢ via) (now ∷ rest) →
    GoesOn (without via hops) before (now ∷ rest) end
passed via hops before now [] end proper may (differs, _) =
    may_end (without via hops) before now end proper
    (other via hops now.router (Ends end) (must_end hops before now end proper may) differs)
passed via hops before now (then ∷ rest) end proper ((at, is, has), on) (differs, later) = (
  (at, is, other via hops now.router (To (record { router = then.router; at = at })) has differs),
  passed via hops (before ++ now ∷ []) then rest end proper on later,
)

-- ---- the table without the router

set_cases : {A : Type 0} (xs : List A) (at : ℕ) (x : A) (k : ℕ) (y : A) → slice_get (set xs at x) k ≡ Some y →
    ((k ≡ at) × (x ≡ y)) ⊎ ((k ≢ at) × (slice_get xs k ≡ Some y))
set_cases [] at x k y found = cc
set_cases (z ∷ zs) zero x zero y found = let same : x ≡ y = cc in inl (refl, same)
set_cases (z ∷ zs) zero x (suc k) y found = inr ((λ same. omega (arith, same)), found)
set_cases (z ∷ zs) (suc at) x zero y found = inr ((λ same. omega (arith, same)), found)
set_cases (z ∷ zs) (suc at) x (suc k) y found =
    elim (set_cases zs at x k y found) [
      | inl (same, is) ↦ inl (ap suc same, is)
      | inr (differs, is) ↦ inr ((λ same. differs (omega (arith, same))), is)
    ]

is_silent : (Sought : End → Type 0) → IsForwarding [] Sought silent
is_silent Sought = record {
  sent = λ router h. cc;
  all_sent = λ i (k, within, is). absurd (omega arith);
  ends = λ h. cc;
  all_ends = λ end (k, within, is). absurd (omega arith);
}

pub stands_without : {Sought : ℕ → End → Type 0} (hops : ℕ → List Hop) (table : List Forwarding)
    → Stands hops Sought table → (via : ℕ) → Stands (without via hops) Sought (set table via silent)
stands_without {Sought} hops table stands via = record {
  each = λ router f found. by_cases router f (set_cases table via silent router f found);
  own = λ router hop has.
      let long = length-set table via silent in
      let below = stands.own router hop (kept via hops router hop has).0 in omega (arith, long, below);
  inside = λ router hop has.
      let P : ℕ → Type 0 = λ n. is_inside n hop ≡ true in
      subst P (sym (length-set table via silent)) (stands.inside router hop (kept via hops router hop has).0);
} where
  by_cases : (router : ℕ) (f : Forwarding) → ((router ≡ via) × (silent ≡ f))
      ⊎ ((router ≢ via) × (slice_get table router ≡ Some f)) →
      IsForwarding (without via hops router) (Sought router) f
  by_cases router f (inl (same, is)) =
      let none : [] ≡ without via hops router =
      ap (λ b. cond b [] (hops router)) (sym (eq-eqb router via same)) in
      let P : List Hop → Type 0 = λ own. IsForwarding own (Sought router) silent in
      let Q : Forwarding → Type 0 = λ g. IsForwarding (without via hops router) (Sought router) g in
      subst Q is (subst P none (is_silent (Sought router)))
  by_cases router f (inr (differs, found)) = by_same (eqb router via) refl where
    by_same : (b : Bool) → eqb router via ≡ b → IsForwarding (cond b [] (hops router)) (Sought router) f
    by_same true is = absurd (differs (eqb-true router via is))
    by_same false is = stands.each router f found
