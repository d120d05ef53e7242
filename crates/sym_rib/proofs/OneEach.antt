-- Lists of records that may be there, one for each line.
use Rattle.std.proofs.Common.{◌≡◌, ℕ, ◌+◌, ◌<◌, max, List, [], ◌∷◌, ◌++◌, take, get_or, length, map, refl, ap}
use Rattle.std.proofs.Common.{ap₂, drop, subst, sym}
use Rattle.std.proofs.Common.{Option, Some, None, ◌∙◌, arith}
use Rattle.std.specs.Prelude.{All, IfSome}
use Rattle.std.specs.List.{filter_map}
use Rattle.std.specs.Option.{option_and_then, option_map, option_to_list}
use Rattle.std.proofs.lemmas.List.{append_assoc, drop_more, map-append, take_more}
use Rattle.std.proofs.lemmas.List.Elements.{All-append, All-cons, All-nil, filter_map-append}
use Rattle.sym_rib.specs.Into.{list_end}

-- one more record for one more line
pub line_step : {X A B : Type 0} (f : A → Option B) (g : X → Option B) (made : List A) (rec : A) (xs : List X) (i : ℕ)
    (x : X) → i < length xs → x ≡ get_or xs i x → f rec ≡ g x
    → filter_map f made ≡ filter_map g (take i xs)
    → filter_map f (made ++ rec ∷ []) ≡ filter_map g (take (i + 1) xs)
line_step f g made rec xs i x h is same so_far =
    filter_map-append f made (rec ∷ [])
    ∙ ap₂ (λ a b. a ++ b) so_far (ap (λ o. filter_map (λ u. u) (o ∷ [])) same)
    ∙ sym (filter_map-append g (take i xs) (x ∷ []))
    ∙ ap (filter_map g) (ap (λ y. take i xs ++ y ∷ []) is ∙ sym (take_more xs i x h))

-- an item of a list, and those from it on
pub items_at : {A : Type 0} (xs : List A) (i : ℕ) (d : A) → i < length xs →
    (get_or xs i d ≡ get_or xs i d) × (drop i xs ≡ get_or xs i d ∷ drop (i + 1) xs)
items_at xs i d within = (refl, drop_more xs i d within)

-- the end of a list with one more record
pub list_end_push : {A : Type 0} (end : A → ℕ) (xs : List A) (x : A)
    → list_end end (xs ++ x ∷ []) ≡ max (list_end end xs) (end x)
list_end_push end [] x = omega arith
list_end_push end (y ∷ xs) x = let rest = list_end_push end xs x in omega arith

one : {B : Type 0} (o : Option B) → filter_map (λ u. u) (o ∷ []) ≡ option_to_list o
one None = refl
one (Some b) = refl

-- what a list with one more record reads as
pub filter_map_push : {A B : Type 0} (f : A → Option B) (xs : List A) (x : A)
    → filter_map f (xs ++ x ∷ []) ≡ filter_map f xs ++ option_to_list (f x)
filter_map_push f xs x = filter_map-append f xs (x ∷ []) ∙ ap (λ l. filter_map f xs ++ l) (one (f x))

-- ---- lists that skip a line where no record can be there

-- the end of two lists is that of the later one
pub list_end-append : {A : Type 0} (end : A → ℕ) (xs ys : List A)
    → list_end end (xs ++ ys) ≡ max (list_end end xs) (list_end end ys)
list_end-append end [] ys = omega arith
list_end-append end (x ∷ xs) ys = let rest = list_end-append end xs ys in omega arith

of_option : {A B : Type 0} (f : A → Option B) (o : Option A)
    → filter_map f (option_to_list o) ≡ option_to_list (option_and_then f o)
of_option f None = refl
of_option f (Some a) = one (f a)

-- what is true of each record is true with one more
pub all_put : {A : Type 0} (P : A → Type 0) (made longer : List A) (rec : Option A) →
    longer ≡ made ++ option_to_list rec → All P made → IfSome rec P → All P longer
all_put P made longer rec is before here =
    subst (All P) (sym is) (All-append P made (option_to_list rec) before (last rec here))
  where
    last : (o : Option _) → IfSome o P → All P (option_to_list o)
    last None none = All-nil P
    last (Some a) holds = All-cons P a [] holds (All-nil P)

mapped_one : {X B C : Type 0} (v : C → B) (g : X → Option C) (x : X)
    → map v (filter_map g (x ∷ [])) ≡ option_to_list (option_map v (g x))
mapped_one v g x = by (g x)
  where
    by : (o : Option _) → map v (filter_map (λ u. u) (o ∷ [])) ≡ option_to_list (option_map v o)
    by None = refl
    by (Some c) = refl

-- what some lines give, behind what was there before, with one more line
pub lines_step : {X A B C : Type 0} (f : A → Option B) (v : C → B) (g : X → Option C) (before : List B) (made : List A)
    (rec : Option A) (xs : List X) (i : ℕ) (x : X) → i < length xs → x ≡ get_or xs i x
    → option_and_then f rec ≡ option_map v (g x)
    → filter_map f made ≡ before ++ map v (filter_map g (take i xs))
    → filter_map f (made ++ option_to_list rec) ≡ before ++ map v (filter_map g (take (i + 1) xs))
lines_step f v g before made rec xs i x h is same so_far =
    filter_map-append f made (option_to_list rec)
    ∙ ap₂ (λ a b. a ++ b) so_far (of_option f rec ∙ ap option_to_list same ∙ sym (mapped_one v g x))
    ∙ append_assoc before _ _
    ∙ ap (λ l. before ++ l)
    (sym (map-append v (filter_map g (take i xs)) (filter_map g (x ∷ [])))
    ∙ ap (map v) (sym (filter_map-append g (take i xs) (x ∷ []))
    ∙ ap (filter_map g) (ap (λ y. take i xs ++ y ∷ []) is ∙ sym (take_more xs i x h))))
