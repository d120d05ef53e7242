-- What is known of an option that a call gives.
use Rattle.std.proofs.Common.{◌≡◌, true, not, Option, Some, None, refl, subst}
use Rattle.std.specs.Prelude.{IfSome, is_some, option_and_then}
use Rattle.std.proofs.lemmas.Option.{same_Some}

-- what holds of the value, if there is one, holds of it
pub if_is : {X : Type 0} (P : X → Type 0) (o : Option X) (x : X) → IfSome o P → o ≡ Some x → P x
if_is P None x holds is = absurd cc
if_is P (Some y) x holds is = subst P (same_Some y x is) holds

-- a value of two calls is one of the second, at a value of the first
pub chained : {X Y : Type 0} (f : X → Option Y) (o : Option X) (y : Y) → option_and_then f o ≡ Some y →
    (x : X) × (o ≡ Some x) × (f x ≡ Some y)
chained f None y is = absurd cc
chained f (Some x) y is = (x, refl, is)

pub not_some : {X : Type 0} (o : Option X) → not (is_some o) ≡ true → o ≡ None
not_some None is = refl
not_some (Some x) is = absurd cc
