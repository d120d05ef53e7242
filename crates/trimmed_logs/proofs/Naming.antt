-- Additions under new numbers.
use Rattle.std.proofs.Common.{◌≡◌, ◌≢◌, ◌∙◌, refl, ap, ap₂, sym, ℕ, ◌+◌, ◌==◌, Bool, true, false, cond, List, [], ◌∷◌, ◌++◌, map, length}
use Rattle.std.proofs.Common.{append_assoc, Option, Some, unwrap_or, length-append}
use Rattle.resolution_check.specs.declared.log.Clause.{Clause}
use Rattle.resolution_check.specs.declared.log.Entry.{Entry}
use Rattle.resolution_check.specs.declared.log.Entry.TheVariants.{Input, Add, Delete, End}
use Rattle.trimmed_logs.specs.Trimmed.{is_addition}
use Rattle.trimmed_logs.specs.Kept.{named, numbered, with_name}

pub numbered-none : (next : ℕ) (names : ℕ → ℕ) → numbered next names [] ≡ []
unfolding numbered
numbered-none next names = refl

-- an addition takes the next number
pub numbered-add : (next : ℕ) (names : ℕ → ℕ) (id : ℕ) (clause : Clause) (chain : List ℕ) (es : List Entry) →
    numbered next names (Add id clause chain ∷ es)
    ≡ Add next clause (map names chain) ∷ numbered (next + 1) (with_name names id next) es
unfolding numbered
numbered-add next names id clause chain es = refl

-- and no other entry
pub numbered-other : (next : ℕ) (names : ℕ → ℕ) (e : Entry) (es : List Entry) → is_addition e ≡ false →
    numbered next names (e ∷ es) ≡ numbered next names es
unfolding numbered
numbered-other next names (Input id clause) es h = refl
numbered-other next names (Add id clause chain) es h = absurd (cc)
numbered-other next names (Delete id) es h = refl
numbered-other next names End es h = refl

-- what is appended, and what the rest comes to
pub pushed : (out more : List Entry) (old new : ℕ → Option ℕ) (id : ℕ) (clause : Clause) (chain : List ℕ)
    (rest : List Entry) → more ≡ out ++ Add (length out + 1) clause (map (named old) chain) ∷ [] →
    ((n : ℕ) → new n ≡ cond (id == n) (Some (length out + 1)) (old n)) →
    more ++ numbered (length more + 1) (named new) rest
    ≡ out ++ numbered (length out + 1) (named old) (Add id clause chain ∷ rest)
pushed out more old new id clause chain rest is names =
    let next = length out + 1 in
    let same : named new ≡ with_name (named old) id next =
    λ i n. (ap (λ o. unwrap_or o n) (names n) ∙ choose (id == n) next (old n) n) i in
    let long : length more ≡ next = ap length is ∙ length-append out (Add next clause (map (named old) chain) ∷ []) in
    ap₂ (λ xs k. xs ++ numbered (k + 1) (named new) rest) is long
    ∙ append_assoc out (Add next clause (map (named old) chain) ∷ []) (numbered (next + 1) (named new) rest)
    ∙ ap (λ f. out ++ Add next clause (map (named old) chain) ∷ numbered (next + 1) f rest) same
    ∙ ap (λ xs. out ++ xs) (sym (numbered-add next (named old) id clause chain rest))
  where
    choose : (b : Bool) (k : ℕ) (o : Option ℕ) (n : ℕ) →
        unwrap_or (cond b (Some k) o) n ≡ cond b k (unwrap_or o n)
    choose true k o n = refl
    choose false k o n = refl

pub no_addition : (e : Entry) → ((id : ℕ) (clause : Clause) (chain : List ℕ) → e ≢ Add id clause chain) →
    is_addition e ≡ false
no_addition (Input id clause) h = refl
no_addition (Add id clause chain) h = absurd (h id clause chain refl)
no_addition (Delete id) h = refl
no_addition End h = refl
