-- Levels of variables, and values under the steps up to a level.
use Rattle.std.proofs.Common.{◌≡◌, ℕ, zero, suc, ◌+◌, ◌<◌, ◌≤◌, ◌==◌, Bool, true, false, not, cond, leb, List, [], ◌∷◌}
use Rattle.std.proofs.Common.{length, take, slice_get, Option, Some, None, is_some, inl, inr, refl, sym, ap, ◌∙◌, subst}
use Rattle.std.proofs.Common.{arith, leb-true, leb-false, le-leb, eqb-true}
use Rattle.std.proofs.lemmas.Bool.{cases_Bool, cases_lt, eq-eqb, false≢true}
use Rattle.std.proofs.Math.Seq.{take-length}
use Rattle.resolution_check.specs.declared.log.Lit.{Lit}
use Rattle.resolution_check.specs.Trails.{value_of}
use Rattle.clause_arena.specs.Links.{word}
use Rattle.conflict_analysis.specs.Steps.{NeverFalls, OpensLevel}
use Rattle.conflict_analysis.specs.Levels.{level_of, count_to, steps_to}
use Rattle.conflict_analysis.proofs.Fits.{other_var}

-- a step of a variable that had no value before it
pub record IsStepOf (steps : List Lit) (v at : ℕ) : Type 0 where
  pub lit : Lit
  pub there : slice_get steps at ≡ Some lit
  pub own : lit.var ≡ v
  pub fresh : value_of (take at steps) v ≡ None

some_not_none : (b : Bool) → Some b ≡ None → ⊥
some_not_none b h = absurd (cc)

-- the values behind the first step
tail_value : (s : Lit) (v : ℕ) (rest : Option Bool) → (s.var == v) ≡ false
    → cond (s.var == v) (Some (not s.negated)) rest ≡ rest
tail_value s v rest other = ap (λ b. cond b (Some (not s.negated)) rest) other

tail_level : (s : Lit) (v n rest : ℕ) → (s.var == v) ≡ false → cond (s.var == v) n rest ≡ rest
tail_level s v n rest other = ap (λ b. cond b n rest) other

step_behind : (s : Lit) (ss : List Lit) (v at : ℕ) → (s.var == v) ≡ false → IsStepOf ss v at
    → IsStepOf (s ∷ ss) v (suc at)
step_behind s ss v at other f = record {
  lit = f.lit;
  there = f.there;
  own = f.own;
  fresh = tail_value s v (value_of (take at ss) v) other ∙ f.fresh;
}

-- a variable with a value has a step
pub step_of : (ss : List Lit) (n v : ℕ) → is_some (value_of (take n ss) v) ≡ true
    → (at : ℕ) × (at < n) × IsStepOf ss v at
step_of [] zero v h = absurd (false≢true h)
step_of [] (suc n) v h = absurd (false≢true h)
step_of (s ∷ ss) zero v h = absurd (false≢true h)
step_of (s ∷ ss) (suc n) v h = elim (cases_Bool (s.var == v)) [
  | inl here ↦ (zero, omega arith, record { lit = s; there = refl; own = eqb-true s.var v here; fresh = refl })
  | inr other ↦
      let found = step_of ss n v (ap is_some (sym (tail_value s v (value_of (take n ss) v) other)) ∙ h) in
      let low = found.1 in
      (suc found.0, omega arith, step_behind s ss v found.0 other found.2)
]

pub step_there : (ss : List Lit) (v : ℕ) → is_some (value_of ss v) ≡ true
    → (at : ℕ) × (at < length ss) × IsStepOf ss v at
step_there ss v h = step_of ss (length ss) v (ap (λ ls. is_some (value_of ls v)) (take-length ss) ∙ h)

-- a variable that had no value yet has a later step
pub step_later : (ss : List Lit) (n v : ℕ) → value_of (take n ss) v ≡ None → is_some (value_of ss v) ≡ true
    → (at : ℕ) × (n ≤ at) × IsStepOf ss v at
step_later ss zero v none h = let found = step_there ss v h in (found.0, omega arith, found.2)
step_later [] (suc n) v none h = absurd (false≢true h)
step_later (s ∷ ss) (suc n) v none h =
    let both = other_var s (record { var = v; negated = false }) (value_of (take n ss) v) none in
    let found = step_later ss n v both.1 (ap is_some (sym (tail_value s v (value_of ss v) both.0)) ∙ h) in
    let late = found.1 in
    (suc found.0, omega arith, step_behind s ss v found.0 both.0 found.2)

-- the level of a variable is that of its step
pub level_there : (ss : List Lit) (levels : List ℕ) (v at : ℕ) → length levels ≡ length ss → IsStepOf ss v at
    → level_of ss levels v ≡ word levels at
level_there [] levels v at same f = let there = f.there in absurd (cc)
level_there (s ∷ ss) [] v at same f = absurd (omega arith)
level_there (s ∷ ss) (n ∷ levels) v zero same f =
    let e : s ≡ f.lit = (let there = f.there in cc) in
    ap (λ b. cond b n (level_of ss levels v)) (eq-eqb s.var v (ap (λ (l : Lit). l.var) e ∙ f.own))
level_there (s ∷ ss) (n ∷ levels) v (suc at) same f =
    let both = other_var s (record { var = v; negated = false }) (value_of (take at ss) v) f.fresh in
    tail_level s v n (level_of ss levels v) both.0
    ∙ level_there ss levels v at (omega arith)
    (record { lit = f.lit; there = f.there; own = f.own; fresh = both.1 })

-- ---- up to a level

rising_behind : (n : ℕ) (levels : List ℕ) → NeverFalls (n ∷ levels) → NeverFalls levels
rising_behind n levels rising j k low within = rising (suc j) (suc k) (omega arith) (omega arith)

-- the first level is none of the highest
first_lowest : (ss : List Lit) (levels : List ℕ) (n v : ℕ) → length levels ≡ length ss → NeverFalls (n ∷ levels)
    → is_some (value_of ss v) ≡ true → n ≤ level_of ss levels v
first_lowest ss levels n v same rising h =
    let found = step_there ss v h in
    let within = found.1 in
    let level : level_of ss levels v ≡ word levels found.0 = level_there ss levels v found.0 same found.2 in
    let low : n ≤ word levels found.0 = rising zero (suc found.0) (omega arith) (omega arith) in omega arith

-- a variable of a level up to this one has its value there
pub value_low : (ss : List Lit) (levels : List ℕ) (level v : ℕ) → length levels ≡ length ss → NeverFalls levels
    → is_some (value_of ss v) ≡ true → level_of ss levels v ≤ level
    → value_of (steps_to ss levels level) v ≡ value_of ss v
value_low [] levels level v same rising h low = absurd (false≢true h)
value_low (s ∷ ss) [] level v same rising h low = absurd (omega arith)
value_low (s ∷ ss) (n ∷ levels) level v same rising h low = elim (cases_Bool (s.var == v)) [
  | inl here ↦
      let e : level_of (s ∷ ss) (n ∷ levels) v ≡ n = ap (λ b. cond b n (level_of ss levels v)) here in
      let is : leb n level ≡ true = le-leb n level (omega arith) in
      ap (λ b. value_of (take (cond b (suc (count_to levels level)) 0) (s ∷ ss)) v) is
      ∙ ap (λ b. cond b (Some (not s.negated)) (value_of (steps_to ss levels level) v)) here
      ∙ sym (ap (λ b. cond b (Some (not s.negated)) (value_of ss v)) here)
  | inr other ↦
      let some : is_some (value_of ss v) ≡ true = ap is_some (sym (tail_value s v (value_of ss v) other)) ∙ h in
      let e : level_of (s ∷ ss) (n ∷ levels) v ≡ level_of ss levels v =
      tail_level s v n (level_of ss levels v) other in
      let least : n ≤ level_of ss levels v = first_lowest ss levels n v (omega arith) rising some in
      let is : leb n level ≡ true = le-leb n level (omega arith) in
      ap (λ b. value_of (take (cond b (suc (count_to levels level)) 0) (s ∷ ss)) v) is
      ∙ tail_value s v (value_of (steps_to ss levels level) v) other
      ∙ value_low ss levels level v (omega arith) (rising_behind n levels rising) some (omega arith)
      ∙ sym (tail_value s v (value_of ss v) other)
]

-- a variable of a higher level has no value there
pub value_high : (ss : List Lit) (levels : List ℕ) (level v : ℕ) → length levels ≡ length ss
    → level < level_of ss levels v → value_of (steps_to ss levels level) v ≡ None
value_high [] levels level v same high = absurd (omega arith)
value_high (s ∷ ss) [] level v same high = absurd (omega arith)
value_high (s ∷ ss) (n ∷ levels) level v same high = elim (cases_Bool (leb n level)) [
  | inr past ↦ ap (λ b. value_of (take (cond b (suc (count_to levels level)) 0) (s ∷ ss)) v) past
  | inl within ↦
      let low : n ≤ level = leb-true n level within in
      elim (cases_Bool (s.var == v)) [
        | inl here ↦
            let e : level_of (s ∷ ss) (n ∷ levels) v ≡ n = ap (λ b. cond b n (level_of ss levels v)) here in
            absurd (omega arith)
        | inr other ↦
            let e : level_of (s ∷ ss) (n ∷ levels) v ≡ level_of ss levels v =
            tail_level s v n (level_of ss levels v) other in
            ap (λ b. value_of (take (cond b (suc (count_to levels level)) 0) (s ∷ ss)) v) within
            ∙ tail_value s v (value_of (steps_to ss levels level) v) other
            ∙ value_high ss levels level v (omega arith) (omega arith)
      ]
]

-- the steps up to a level are of no higher one
pub count_low : (levels : List ℕ) (level j : ℕ) → j < count_to levels level → word levels j ≤ level
count_low [] level j low = absurd (omega arith)
count_low (n ∷ levels) level zero low = elim (cases_Bool (leb n level)) [
  | inl within ↦ leb-true n level within
  | inr past ↦
      let e : count_to (n ∷ levels) level ≡ 0 = ap (λ b. cond b (suc (count_to levels level)) 0) past in
      absurd (omega arith)
]
count_low (n ∷ levels) level (suc j) low = elim (cases_Bool (leb n level)) [
  | inl within ↦
      let e : count_to (n ∷ levels) level ≡ suc (count_to levels level) =
      ap (λ b. cond b (suc (count_to levels level)) 0) within in
      count_low levels level j (omega arith)
  | inr past ↦
      let e : count_to (n ∷ levels) level ≡ 0 = ap (λ b. cond b (suc (count_to levels level)) 0) past in
      absurd (omega arith)
]

-- the first step behind them is of a higher one
pub count_next : (levels : List ℕ) (level : ℕ) → count_to levels level < length levels
    → level < word levels (count_to levels level)
count_next [] level within = absurd (omega arith)
count_next (n ∷ levels) level within = elim (cases_Bool (leb n level)) [
  | inr past ↦
      let e : count_to (n ∷ levels) level ≡ 0 = ap (λ b. cond b (suc (count_to levels level)) 0) past in
      subst (λ (k : ℕ). level < word (n ∷ levels) k) (sym e) (leb-false n level past)
  | inl low ↦
      let e : count_to (n ∷ levels) level ≡ suc (count_to levels level) =
      ap (λ b. cond b (suc (count_to levels level)) 0) low in
      subst (λ (k : ℕ). level < word (n ∷ levels) k) (sym e) (count_next levels level (omega arith))
]

-- a level above 0 that some step has was opened by the first step behind the lower levels
pub opened : (levels : List ℕ) (below at : ℕ) → NeverFalls levels → at < length levels
    → word levels at ≡ below + 1 → OpensLevel levels (count_to levels below) × (count_to levels below < length levels)
opened levels below at rising within own = elim (cases_lt at (count_to levels below)) [
  | inl low ↦ let h : word levels at ≤ below = count_low levels below at low in absurd (omega arith)
  | inr here ↦
      let inside : count_to levels below < length levels = omega arith in
      let next : below < word levels (count_to levels below) = count_next levels below inside in (
        record {
          above = omega arith;
          first = λ j low. (let h : word levels j ≤ below = count_low levels below j low in omega arith);
        },
        inside,
      )
]

-- a step has given its variable a value
pub seen_before : (ss : List Lit) (n at : ℕ) (l : Lit) → at < n → slice_get ss at ≡ Some l
    → is_some (value_of (take n ss) l.var) ≡ true
seen_before [] n at l low h = absurd (cc)
seen_before (s ∷ ss) zero at l low h = absurd (omega arith)
seen_before (s ∷ ss) (suc n) zero l low h =
    let e : s ≡ l = cc in
    ap (λ b. is_some (cond b (Some (not s.negated)) (value_of (take n ss) l.var)))
    (eq-eqb s.var l.var (ap (λ (k : Lit). k.var) e))
seen_before (s ∷ ss) (suc n) (suc at) l low h = elim (cases_Bool (s.var == l.var)) [
  | inl here ↦ ap (λ b. is_some (cond b (Some (not s.negated)) (value_of (take n ss) l.var))) here
  | inr other ↦
      ap (λ b. is_some (cond b (Some (not s.negated)) (value_of (take n ss) l.var))) other
      ∙ seen_before ss n at l (omega arith) h
]
