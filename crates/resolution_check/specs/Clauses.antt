-- Clauses as sets of literals, and their resolvents.
use Rattle.std.specs.Prelude.{◌≡◌, ℕ, true, Bool, nat_lt, not, ◌&&◌, ◌==◌, if◌then◌else◌, List, [], ◌∷◌, ◌++◌, filter}
use Rattle.std.specs.Option.{option_map}
use Rattle.std.specs.List.{list_any, list_all}
use Rattle.std.specs.Bool.{beq}
use Rattle.std.specs.Prelude.{Option, Some, None}
use Rattle.resolution_check.specs.declared.log.Lit.{Lit}

-- the same variable in the other sign
abbrev pub opposite : Lit → Lit
opposite l = record { var = l.var; negated = not l.negated }

-- whether the two are one literal
abbrev pub is_same : Lit → Lit → Bool
is_same k l = (k.var == l.var) && beq k.negated l.negated

-- whether the literal stands in the clause
abbrev pub has : List Lit → Lit → Bool
has c l = list_any (is_same l) c

-- whether the variables of the clause are below the limit
abbrev pub is_below : ℕ → List Lit → Bool
is_below limit c = list_all (λ l. nat_lt l.var limit) c

-- whether each literal of the first clause stands in the second
abbrev pub is_inside : List Lit → List Lit → Bool
is_inside c d = list_all (has d) c

-- the literals of the first clause whose negation stands in the second
abbrev pub clashing : List Lit → List Lit → List Lit
clashing c d = filter (λ l. has d (opposite l)) c

-- the one literal that stands in the list, once or more often
abbrev pub the_one : List Lit → Option Lit
the_one [] = None
the_one (l ∷ ls) = if list_all (is_same l) ls then Some l else None

-- the clause without a literal
abbrev pub without : List Lit → Lit → List Lit
without c l = filter (λ k. not (is_same l k)) c

-- there exactly where one literal of the first clause has its negation in the second: the first without
-- that literal, together with the second without its negation
abbrev pub resolvent : List Lit → List Lit → Option (List Lit)
resolvent c d = option_map (λ l. without c l ++ without d (opposite l)) (the_one (clashing c d))

-- the two have the same literals
abbrev pub IsSameSet : List Lit → List Lit → Type 0
IsSameSet c d = (l : Lit) → has c l ≡ has d l

-- exactly this literal of the first clause has its negation in the second
pub record IsPivot (c d : List Lit) (p : Lit) : Type 0 where
  pub first : has c p ≡ true
  pub second : has d (opposite p) ≡ true
  pub only : (l : Lit) → has c l ≡ true → has d (opposite l) ≡ true → l ≡ p
