-- The values of arguments, as code has them and as the rows of a parse do.
use Rattle.std.proofs.Common.{◌≡◌, List, [], Option, Some, None, option_map, sym, ap, ◌∙◌}
use Rattle.std.specs.Prelude.{unwrap_or}

-- the value of what is there
pub some_value : {A B : Type 0} (f : A → List B) (found : Option A) (x : A) (wanted : Option (List B)) →
    found ≡ Some x → option_map f found ≡ wanted → f x ≡ unwrap_or wanted []
some_value f found x wanted is same = ap (λ o. unwrap_or o []) (ap (option_map f) (sym is) ∙ same)

-- and where there is none
pub no_value : {A B : Type 0} (f : A → List B) (found : Option A) (wanted : Option (List B)) → found ≡ None →
    option_map f found ≡ wanted → [] ≡ unwrap_or wanted []
no_value f found wanted is same = ap (λ o. unwrap_or o []) (ap (option_map f) (sym is) ∙ same)

-- what is asked for by the rows that were found
pub asked_from : {M R Q : Type 0} (f : M → R) (by : R → Q) (found : Option M) (m : M) (due : Option R) (q : Q) →
    found ≡ Some m → option_map f found ≡ due → q ≡ by (f m) → Some q ≡ option_map by due
asked_from f by found m due q is same one =
    ap Some one ∙ ap (option_map by) (ap (option_map f) (sym is) ∙ same)

-- three equations at once, and two
pub three : {A B C D : Type 0} (F : A → B → C → D) (a a' : A) (b b' : B) (c c' : C) → a ≡ a' → b ≡ b' → c ≡ c' →
    F a b c ≡ F a' b' c'
three F a a' b b' c c' x y z = ap (λ v. F v b c) x ∙ ap (λ v. F a' v c) y ∙ ap (F a' b') z

pub two : {A B C : Type 0} (F : A → B → C) (a a' : A) (b b' : B) → a ≡ a' → b ≡ b' → F a b ≡ F a' b'
two F a a' b b' x y = ap (λ v. F v b) x ∙ ap (F a') y
