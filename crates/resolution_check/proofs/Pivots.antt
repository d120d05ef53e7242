-- Marks against clauses: the pivots, and the literals of the resolvent.
use Rattle.std.proofs.Common.{◌≡◌, ◌↔◌, refl, sym, ◌∙◌, ap, ap₂, inl, inr, take-append-drop, ℕ, ◌<◌, Bool, true, false}
use Rattle.std.proofs.Common.{not, ◌&&◌, ◌||◌, arith, List, [], ◌∷◌, ◌++◌, map, take, drop, get_or, length, Option}
use Rattle.std.proofs.Common.{Some, None, MatchOption, IsTrue}
use Rattle.std.specs.List.{filter, list_any}
use Rattle.std.proofs.Math.Bool.{and_comm, or_comm}
use Rattle.std.specs.Ordering.{nat_cmp}
use Rattle.std.specs.BTreeMap.{is_at}
use Rattle.std.proofs.lemmas.Grind.{common_steps}
use Rattle.std.proofs.lemmas.Bool.{cases_Bool, and_parts, and_from, true≢false, false≢true, or_left}
use Rattle.std.proofs.lemmas.Bool.{false_from_ne_true, cond_both}
use Rattle.std.proofs.lemmas.List.Folds.{list_any_at}
use Rattle.resolution_check.specs.declared.log.Lit.{Lit}
use Rattle.resolution_check.specs.declared.marks.Marks.{Marks}
use Rattle.resolution_check.specs.Clauses.{opposite, is_same, has, is_inside, clashing, the_one, without}
use Rattle.resolution_check.specs.Marked.{marked, Shows}
use Rattle.resolution_check.proofs.Literals.{IsOne, the_one-at, the_one-Some, the_one-same, has-filter, has-append}
use Rattle.resolution_check.proofs.Literals.{has-opposites, same_lit, same_refl, all_at, all_from, opposite_twice}

-- the negations of the clause's literals that are marked
abbrev pub met : Marks → List Lit → List Lit
met m d = filter (marked m) (map opposite d)

-- the negations that are met
pub has-met : (m : Marks) (d : List Lit) (l : Lit) → has (met m d) l ≡ (marked m l && has d (opposite l))
has-met m d l = has-filter (marked m) (map opposite d) l ∙ ap (λ b. marked m l && b) (has-opposites d l)

-- they are the clashing literals of the clause that the marks show
pub the_one-met : (m : Marks) (r d : List Lit) → Shows m r → the_one (met m d) ≡ the_one (clashing r d)
the_one-met m r d shows = the_one-same (met m d) (clashing r d) (λ l.
    has-met m d l
    ∙ ap (λ b. b && has d (opposite l)) (shows l)
    ∙ and_comm (has r l) (has d (opposite l))
    ∙ sym (has-filter (λ k. has d (opposite k)) r l))

-- what a look at each literal leaves
pub found_one : (xs : List Lit) (o : Option Lit) → MatchOption o (xs ≡ []) (λ p. IsOne xs p) → o ≡ the_one xs
found_one xs None h = sym (ap the_one h)
found_one xs (Some p) h = sym (the_one-at xs p h)

not_one : (xs : List Lit) (p q : Lit) → has xs p ≡ true → has xs q ≡ true → is_same p q ≡ false → (o : Option Lit)
    → the_one xs ≡ o → None ≡ o
not_one xs p q h k apart None e = refl
not_one xs p q h k apart (Some l) e =
    let one = the_one-Some xs l e in
    absurd (false≢true (sym apart
    ∙ ap₂ is_same (sym (same_lit l p (one.only p h))) (sym (same_lit l q (one.only q k))) ∙ same_refl l))

-- two literals that are not the same are not one
pub two_found : (xs : List Lit) (p q : Lit) → has xs p ≡ true → has xs q ≡ true → is_same p q ≡ false
    → None ≡ the_one xs
two_found xs p q h k apart = not_one xs p q h k apart (the_one xs) refl

-- what is met by the first literals is met by all
pub met-later : (m : Marks) (d : List Lit) (i : ℕ) (l : Lit) → has (met m (take i d)) l ≡ true → has (met m d) l ≡ true
met-later m d i l h =
    let both = and_parts _ _ (sym (has-met m (take i d) l) ∙ h) in
    has-met m d l
    ∙ and_from _ _ both.0 (ap (λ c. has c (opposite l)) (sym (take-append-drop i d))
    ∙ has-append (take i d) (drop i d) (opposite l) ∙ or_left _ _ both.1)

-- a literal that is met
pub met-at : (m : Marks) (d : List Lit) (i : ℕ) (none k : Lit) → i < length d → k ≡ opposite (get_or d i none)
    → marked m k ≡ true → has (met m d) k ≡ true
met-at m d i none k h e is_marked =
    has-met m d k
    ∙ and_from _ _ is_marked
    (list_any_at (is_same (opposite k)) d i none h (ap (λ l. is_same (opposite l) (get_or d i none)) e
    ∙ ap (λ l. is_same l (get_or d i none)) (opposite_twice (get_or d i none)) ∙ same_refl (get_or d i none)))

-- after the pivot is unmarked and the other clause marked, the resolvent is shown
pub resolvent_shown : (old new : Marks) (r d : List Lit) (p : Lit) → Shows old r
    → ((l : Lit) → marked new l ≡ (has (without d (opposite p)) l || (not (is_same p l) && marked old l)))
    → Shows new (without r p ++ without d (opposite p))
resolvent_shown old new r d p shows marks l =
    marks l ∙ or_comm (has (without d (opposite p)) l) (not (is_same p l) && marked old l)
    ∙ ap (λ b. (not (is_same p l) && b) || has (without d (opposite p)) l) (shows l)
    ∙ ap (λ b. b || has (without d (opposite p)) l) (sym (has-filter (λ k. not (is_same p k)) r l))
    ∙ sym (has-append (without r p) (without d (opposite p)) l)

-- a list that has no number is empty
no_number : (xs : List ℕ) → ((n : ℕ) → list_any (is_at (nat_cmp n)) xs ≡ false) → xs ≡ []
no_number [] h = refl
no_number (x ∷ xs) h =
    absurd (true≢false (sym (or_left (is_at (nat_cmp x) x) (list_any (is_at (nat_cmp x)) xs) (at_itself x)) ∙ h x))
  where
    at_itself : (n : ℕ) → is_at (nat_cmp n) n ≡ true
    at_itself n = grind (arith, common_steps)

-- no literal is marked exactly where no variable is marked in either sign
pub none_marked : (m : Marks) → m.positive.keys ≡ [] → m.negative.keys ≡ [] → (l : Lit) → marked m l ≡ false
none_marked m p n l =
    let here = list_any (is_at (nat_cmp l.var)) in
    cond_both l.negated (here m.negative.keys) (here m.positive.keys) (λ b. b ≡ false) (λ _. ap here n) (λ _. ap here p)

-- where no literal is marked no variable is
pub no_variables : (m : Marks) → ((l : Lit) → marked m l ≡ false) → (m.positive.keys ≡ []) × (m.negative.keys ≡ [])
no_variables m h = (
  no_number m.positive.keys (λ v. h (record { var = v; negated = false })),
  no_number m.negative.keys (λ v. h (record { var = v; negated = true })),
)

-- nothing is left of r without d exactly where r is inside d
pub covered : (r d : List Lit) (m : Marks) (b : Bool) → ((l : Lit) → marked m l ≡ (not (has d l) && has r l))
    → (IsTrue b ↔ ((l : Lit) → marked m l ≡ false)) → b ≡ is_inside r d
covered r d m b left empty =
    elim (cases_Bool (is_inside r d)) [
      | inl inside ↦ empty.1 (λ l. left l ∙ gone (has d l) (has r l) (all_at (has d) r inside l)) ∙ sym inside
      | inr outside ↦ false_from_ne_true b
          (λ e. false≢true (sym outside
          ∙ all_from (has d) r (λ l there. kept (has d l) (has r l) there (sym (left l) ∙ empty.0 e l))))
          ∙ sym outside
    ]
  where
    gone : (x y : Bool) → (y ≡ true → x ≡ true) → (not x && y) ≡ false
    gone true y h = refl
    gone false true h = sym (h refl)
    gone false false h = refl

    kept : (x y : Bool) → y ≡ true → (not x && y) ≡ false → x ≡ true
    kept true y h k = refl
    kept false y h k = sym k ∙ h
