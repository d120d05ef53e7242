-- Which routers are marked, as a list of Booleans.
use Rattle.std.proofs.Common.{◌≡◌, ℕ, zero, suc, ◌<◌, Bool, true, false, List, [], ◌∷◌, ◌++◌, length, get_or, set}
use Rattle.std.proofs.Common.{refl, ap, arith, ◌∙◌, sym, cond}
use Rattle.std.specs.Prelude.{sum_by, replicate, unwrap_or, Any}
use Rattle.std.proofs.lemmas.Option.{slice_get_read}
use Rattle.std.proofs.lemmas.List.Quantifiers.{Any-push}
use Rattle.std.proofs.lemmas.List.Sums.{sum_by-set}
use Rattle.question_lang.specs.declared.question.Start.{Start}
use Rattle.walk_def.specs.Marks.{known}

-- how many are not known
abbrev pub unknown_count : List Bool → ℕ
unknown_count xs = sum_by (λ b. cond b 0 1) xs

pub known-replicate : (n router : ℕ) → known (replicate n false) router ≡ false
known-replicate zero router = refl
known-replicate (suc n) zero = refl
known-replicate (suc n) (suc router) = known-replicate n router

length-replicate : (n : ℕ) → length (replicate n false) ≡ n
length-replicate zero = refl
length-replicate (suc n) = ap suc (length-replicate n)

-- marks that are not set: one for each router, and none is known
pub unmarked-length : (marks : List Bool) (n : ℕ) → marks ≡ replicate n false → length marks ≡ n
unmarked-length marks n none = ap length none ∙ length-replicate n

pub unmarked : (P : Type 0) (marks : List Bool) (n router : ℕ) → marks ≡ replicate n false → known marks router ≡ true
    → P
unmarked P marks n router none marked =
    let not_known = known-replicate n router in
    let is_known : known (replicate n false) router ≡ true = ap (λ xs. known xs router) (sym none) ∙ marked in cc

-- a router that is known after one is marked was known, or is that one
pub known-set : (P : ℕ → Type 0) (xs : List Bool) (at router : ℕ) → P at → (known xs router ≡ true → P router) →
    known (set xs at true) router ≡ true → P router
known-set P [] at router here before h = before h
known-set P (x ∷ xs) zero zero here before h = here
known-set P (x ∷ xs) zero (suc router) here before h = before h
known-set P (x ∷ xs) (suc at) zero here before h = before h
known-set P (x ∷ xs) (suc at) (suc router) here before h =
    known-set (λ r. P (suc r)) xs at router here before h

-- marking one that is not known leaves fewer
pub fewer : (xs : List Bool) (at : ℕ) (x : Bool) → at < length xs → x ≡ get_or xs at x → x ≡ false →
    unknown_count (set xs at true) < unknown_count xs
fewer xs at x within is unknown =
    let sums = sum_by-set (λ b. cond b 0 1) xs at true x within in
    let weight : Bool → ℕ = λ b. cond b 0 1 in
    let one : weight (get_or xs at x) ≡ 1 = ap weight (sym is ∙ unknown) in
    omega (arith, sums, one)

known-read : (xs : List Bool) (at : ℕ) → at < length xs → known xs at ≡ false → get_or xs at false ≡ false
known-read [] at within unknown = refl
known-read (x ∷ xs) zero within unknown = unknown
known-read (x ∷ xs) (suc at) within unknown = known-read xs at (omega arith) unknown

pub fewer_known : (xs read : List Bool) (at : ℕ) → read ≡ xs → at < length xs → known read at ≡ false →
    unknown_count (set xs at true) < unknown_count xs
fewer_known xs read at same within unknown =
    fewer xs at false within (sym (known-read xs at within (ap (λ ys. known ys at) (sym same) ∙ unknown))) refl

-- what was read of a mark
pub known-from_read : (xs : List Bool) (at : ℕ) (x : Bool) → at < length xs → x ≡ get_or xs at x → x ≡ true
    → known xs at ≡ true
known-from_read xs at x within is marked =
    ap (λ o. unwrap_or o false) (slice_get_read xs (length xs) at x refl within is) ∙ marked

any-later : {A : Type 0} (P : A → Type 0) (y : A) (xs : List A) → Any P xs → Any P (y ∷ xs)
any-later P y xs (k, x, within, is, holds) = (suc k, x, omega arith, is, holds)

any-front : {A : Type 0} (P : A → Type 0) (xs ys : List A) → Any P xs → Any P (xs ++ ys)
any-front P [] ys (k, x, within, is, holds) = absurd (omega arith)
any-front P (y ∷ xs) ys (zero, x, within, is, holds) = (zero, x, omega arith, is, holds)
any-front P (y ∷ xs) ys (suc k, x, within, is, holds) =
    any-later P y (xs ++ ys) (any-front P xs ys (k, x, omega arith, is, holds))

-- a router that was stood at is seen
pub seen-marked : (seen : List Bool) (stood : List Start) (now : Start) →
    ((router : ℕ) → known seen router ≡ true → Any (λ s. s.router ≡ router) stood) →
    (router : ℕ) → known (set seen now.router true) router ≡ true → Any (λ s. s.router ≡ router) (stood ++ now ∷ [])
seen-marked seen stood now before router marked =
    known-set (λ r. Any (λ s. s.router ≡ r) (stood ++ now ∷ [])) seen now.router router
    (Any-push (λ s. s.router ≡ now.router) stood now refl)
    (λ h. any-front (λ s. s.router ≡ router) stood (now ∷ []) (before router h)) marked
