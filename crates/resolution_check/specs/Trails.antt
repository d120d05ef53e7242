-- Clauses under a trail: the literals that were made true, in their order.
use Rattle.std.specs.Prelude.{◌≡◌, ◌⊎◌, ℕ, ◌<◌, ◌==◌, Bool, true, false, not, if◌then◌else◌, List, [], ◌∷◌, Option}
use Rattle.std.specs.Prelude.{Some, None, is_some}
use Rattle.std.specs.Bool.{beq}
use Rattle.resolution_check.specs.declared.log.Lit.{Lit}
use Rattle.resolution_check.specs.Clauses.{is_same, has}

-- the value of a variable under the trail, if it has one
abbrev pub value_of : List Lit → ℕ → Option Bool
value_of [] var = None
value_of (l ∷ trail) var = if l.var == var then Some (not l.negated) else value_of trail var

-- whether the variable has this value
abbrev pub is_value : Option Bool → Bool → Bool
is_value None b = false
is_value (Some a) b = beq a b

-- whether the literal is true, and whether it is false
abbrev pub holds : List Lit → Lit → Bool
holds trail l = is_value (value_of trail l.var) (not l.negated)

abbrev pub fails : List Lit → Lit → Bool
fails trail l = is_value (value_of trail l.var) l.negated

-- each literal of the clause is false
abbrev pub AllFail : List Lit → List Lit → Type 0
AllFail trail c = (l : Lit) → has c l ≡ true → fails trail l ≡ true

-- each literal of the clause but this one is false
abbrev pub OthersFail : List Lit → List Lit → Lit → Type 0
OthersFail trail c l = (k : Lit) → has c k ≡ true → (k ≡ l) ⊎ (fails trail k ≡ true)

-- this literal of the clause has no value, and all others are false
pub record IsUnit (trail c : List Lit) (l : Lit) : Type 0 where
  pub inside : has c l ≡ true
  pub free : value_of trail l.var ≡ None
  pub others : OthersFail trail c l

-- a literal of the clause is true
pub record HasTrue (trail c : List Lit) : Type 0 where
  pub lit : Lit
  pub inside : has c lit ≡ true
  pub is_true : holds trail lit ≡ true

-- two literals of the clause have no value
pub record HasTwoFree (trail c : List Lit) : Type 0 where
  pub one : Lit
  pub two : Lit
  pub inside_one : has c one ≡ true
  pub inside_two : has c two ≡ true
  pub apart : is_same one two ≡ false
  pub free_one : value_of trail one.var ≡ None
  pub free_two : value_of trail two.var ≡ None

-- the clause is neither false, nor is it unit
abbrev pub IsSettled : List Lit → List Lit → Type 0
IsSettled trail c = HasTrue trail c ⊎ HasTwoFree trail c

-- a variable that had a value has one
abbrev pub Keeps : List Lit → List Lit → Type 0
Keeps old new = (var : ℕ) → is_some (value_of old var) ≡ true → is_some (value_of new var) ≡ true

-- each variable has a value
abbrev pub IsTotal : ℕ → List Lit → Type 0
IsTotal vars trail = (var : ℕ) → var < vars → is_some (value_of trail var) ≡ true
