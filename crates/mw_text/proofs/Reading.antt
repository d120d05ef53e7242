-- Reading items one after another.
use Rattle.std.proofs.Common.{◌≡◌, ℕ, ◌+◌, ◌<◌, ◌≤◌, List, [], ◌∷◌, ◌++◌, length, take, drop, take-append-drop, get_or}
use Rattle.std.proofs.Common.{Result, Ok, Err, refl, ap, sym, ◌∙◌}
use Rattle.std.proofs.lemmas.List.{take_all, take_more}
use Rattle.mw_text.proofs.Lists.{drop-read}
use Rattle.mw_text.specs.Reading.{following, in_turn, with_value}

-- the first items were read, to that state
abbrev pub ReadTo : {S A E : Type 0} → (S → A → Result S E) → S → List A → ℕ → S → Type 0
ReadTo step start items i state = in_turn step start (take i items) ≡ Ok state

in_turn-append : {S A E : Type 0} (step : S → A → Result S E) (start : S) (xs ys : List A) →
    in_turn step start (xs ++ ys) ≡ following (λ state. in_turn step state ys) (in_turn step start xs)
unfolding in_turn
in_turn-append step start [] ys = refl
in_turn-append {S = S} {E = E} step start (x ∷ xs) ys = by_first (step start x) (λ next. in_turn-append step next xs ys)
  where
    by_first : (first : Result S E) → ((next : S) →
        in_turn step next (xs ++ ys) ≡ following (λ state. in_turn step state ys) (in_turn step next xs)) →
        following (λ next. in_turn step next (xs ++ ys)) first
        ≡ following (λ state. in_turn step state ys) (following (λ next. in_turn step next xs) first)
    by_first (Ok next) same = same next
    by_first (Err why) same = refl

in_turn-first : {S A E : Type 0} (step : S → A → Result S E) (state : S) (x : A) (rest : List A) →
    in_turn step state (x ∷ rest) ≡ following (λ next. in_turn step next rest) (step state x)
unfolding in_turn
in_turn-first step state x rest = refl

-- no item is read
pub read-none : {S A E : Type 0} (step : S → A → Result S E) (start : S) → in_turn step start [] ≡ Ok start
unfolding in_turn
read-none step start = refl

-- the items are the first, the one that was read and those after it
pub split-read : {A : Type 0} (items : List A) (i : ℕ) (x : A) → i < length items → x ≡ get_or items i x →
    items ≡ take i items ++ x ∷ drop (i + 1) items
split-read items i x within is =
    sym (take-append-drop i items) ∙ ap (λ rest. take i items ++ rest) (drop-read items i x within is)

-- one item more at the end of the first
pub take-read : {A : Type 0} (items : List A) (i : ℕ) (x : A) → i < length items → x ≡ get_or items i x →
    take (i + 1) items ≡ take i items ++ x ∷ []
take-read items i x within is = take_more items i x within ∙ ap (λ y. take i items ++ y ∷ []) (sym is)

-- one item more is taken
pub read-one : {S A E : Type 0} (step : S → A → Result S E) (start : S) (items : List A) (i : ℕ) (x : A)
    (state next : S) →
    ReadTo step start items i state → i < length items → x ≡ get_or items i x → step state x ≡ Ok next →
    ReadTo step start items (i + 1) next
read-one step start items i x state next before within is taken =
    ap (in_turn step start) (take-read items i x within is)
    ∙ in_turn-append step start (take i items) (x ∷ [])
    ∙ ap (following (λ s. in_turn step s (x ∷ []))) before
    ∙ in_turn-first step state x []
    ∙ ap (following (λ s. in_turn step s [])) taken
    ∙ read-none step next

-- one item is refused
pub read-refused : {S A E : Type 0} (step : S → A → Result S E) (start : S) (items : List A) (i : ℕ) (x : A)
    (state : S) (why : E) →
    ReadTo step start items i state → i < length items → x ≡ get_or items i x → step state x ≡ Err why →
    in_turn step start items ≡ Err why
read-refused step start items i x state why before within is refused =
    ap (in_turn step start) (split-read items i x within is)
    ∙ in_turn-append step start (take i items) (x ∷ drop (i + 1) items)
    ∙ ap (following (λ s. in_turn step s (x ∷ drop (i + 1) items))) before
    ∙ in_turn-first step state x (drop (i + 1) items)
    ∙ ap (following (λ s. in_turn step s (drop (i + 1) items))) refused

-- no item is left
pub read-done : {S A E : Type 0} (step : S → A → Result S E) (start : S) (items : List A) (i : ℕ) (state : S) →
    ReadTo step start items i state → length items ≤ i → in_turn step start items ≡ Ok state
read-done step start items i state before done = ap (in_turn step start) (sym (take_all i items done)) ∙ before

-- the first items have these values
abbrev pub EachTo : {A B E : Type 0} → (A → Result B E) → List A → ℕ → List B → Type 0
EachTo become items i values = ReadTo (with_value become) [] items i values

-- one item more has a value
pub each-one : {A B E : Type 0} (become : A → Result B E) (items : List A) (i : ℕ) (x : A) (values : List B) (y : B) →
    EachTo become items i values → i < length items → x ≡ get_or items i x → become x ≡ Ok y →
    EachTo become items (i + 1) (values ++ y ∷ [])
each-one become items i x values y before within is has =
    read-one (with_value become) [] items i x values (values ++ y ∷ []) before within is
    (ap (following (λ z. Ok (values ++ z ∷ []))) has)

-- one item has none
pub each-refused : {A B E : Type 0} (become : A → Result B E) (items : List A) (i : ℕ) (x : A) (values : List B)
    (why : E) →
    EachTo become items i values → i < length items → x ≡ get_or items i x → become x ≡ Err why →
    in_turn (with_value become) [] items ≡ Err why
each-refused become items i x values why before within is refused =
    read-refused (with_value become) [] items i x values why before within is
    (ap (following (λ z. Ok (values ++ z ∷ []))) refused)
