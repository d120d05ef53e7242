-- What a reading that came out says of its steps.
use Rattle.std.proofs.Common.{◌≡◌, ℕ, ◌+◌, List, [], ◌∷◌, ◌++◌, Bool, true, false, cond, Option, Some, None}
use Rattle.std.proofs.Common.{Result, Ok, Err, refl, sym, ap, ◌∙◌, subst}
use Rattle.serde_json.specs.Data.{Data, Items, no_items, item}
use Rattle.cex_json.specs.declared.refused.CexRefused.{CexRefused}
use Rattle.cex_json.specs.Fields.{◌>>=◌, in_order, passing, required, with_one}

-- two values
ok_or : {A : Type 0} → A → Result A CexRefused → A
ok_or d (Ok x) = x
ok_or d (Err why) = d

-- a value as a result of a reading
abbrev pub result_of : {A : Type 0} → A → Result A CexRefused
result_of x = Ok x

is_ok : {A : Type 0} → Result A CexRefused → Bool
is_ok (Ok x) = true
is_ok (Err why) = false

is_there : {A : Type 0} → Option A → Bool
is_there (Some x) = true
is_there None = false

some_or : {A : Type 0} → A → Option A → A
some_or d (Some x) = x
some_or d None = d

never_true : false ≡ true → ⊥
never_true same = absurd cc

pub same_ok : {A : Type 0} (x y : A) → result_of x ≡ result_of y → x ≡ y
unfolding ok_or
same_ok x y same = ap (ok_or x) same

pub same_some : {A : Type 0} (x y : A) → Some x ≡ Some y → x ≡ y
unfolding some_or
same_some x y same = ap (some_or x) same

pub no_value : {A : Type 0} (x : A) → None ≡ Some x → ⊥
unfolding is_there
no_value x same = never_true (ap is_there same)

pub no_ok : {A : Type 0} (why : CexRefused) (x : A) → Err why ≡ Ok x → ⊥
unfolding is_ok
no_ok why x same = never_true (ap is_ok same)

-- a step and what follows it
pub bound : {A B : Type 0} (r : Result A CexRefused) (next : A → Result B CexRefused) (y : B) → (r >>= next) ≡ Ok y →
    (x : A) × (r ≡ Ok x) × (next x ≡ Ok y)
bound (Ok x) next y same = (x, refl, same)
bound (Err why) next y same = absurd (no_ok why y same)

-- a field
pub field : {A : Type 0} (at name : List ℕ) (found : Option A) (x : A) → required at name found ≡ Ok x → found ≡ Some x
field at name (Some y) x same = ap Some (same_ok y x same)
field at name None x same = absurd (no_ok _ x same)

-- a test
pub passed : {A : Type 0} (test : A → Bool) (found : Option A) (x : A) → passing test found ≡ Some x →
    (found ≡ Some x) × (test x ≡ true)
passed test None x same = absurd (no_value x same)
passed test (Some y) x same = by_test (test y) refl same where
  by_test : (b : Bool) → test y ≡ b → cond b (Some y) None ≡ Some x → (Some y ≡ Some x) × (test x ≡ true)
  by_test true is same = (same, ap test (sym (same_some y x same)) ∙ is)
  by_test false is same = absurd (no_value x same)

-- one value more
pub grown : {A : Type 0} (at name : List ℕ) (so_far : List A) (found : Option A) (next : List A) →
    with_one at name so_far found ≡ Ok next → (x : A) × (found ≡ Some x) × (next ≡ so_far ++ x ∷ [])
grown at name so_far found next same =
    let step = bound (required at name found) (λ x. Ok (so_far ++ x ∷ [])) next same in
    (step.0, field at name found step.0 step.1, sym (same_ok (so_far ++ step.0 ∷ []) next step.2))

-- what each step keeps, all keep
pub kept : {S : Type 0} (P : S → Type 0) (step : ℕ → S → Data → Result S CexRefused) →
    ((i : ℕ) (state : S) (d : Data) (next : S) → P state → step i state d ≡ Ok next → P next) →
    (i : ℕ) (state : S) (items : Items) (last : S) → P state → in_order step i state items ≡ Ok last → P last
kept P step keeps i state no_items last holds same = subst P (same_ok state last same) holds
kept P step keeps i state (item d rest) last holds same =
    let one = bound (step i state d) (λ next. in_order step (i + 1) next rest) last same in
    kept P step keeps (i + 1) one.0 rest last (keeps i state d one.0 holds one.1) one.2
