-- Reading items one after another, up to the first that is refused.
use Rattle.std.specs.Prelude.{List, [], ◌∷◌, ◌++◌, Result, Ok, Err}

-- what follows a value, where there is one
abbrev pub following : {A B E : Type 0} → (A → Result B E) → Result A E → Result B E
following next (Ok x) = next x
following next (Err why) = Err why

-- the state after the items in their order, or the refusal of the first that the state before it does not take
unfoldable pub in_turn : {S A E : Type 0} → (S → A → Result S E) → S → List A → Result S E
in_turn step state [] = Ok state
in_turn step state (x ∷ rest) = following (λ next. in_turn step next rest) (step state x)

-- one value more at the end, where the item has one
abbrev pub with_value : {A B E : Type 0} → (A → Result B E) → List B → A → Result (List B) E
with_value become so_far x = following (λ y. Ok (so_far ++ y ∷ [])) (become x)

-- the values of the items in their order, or the refusal of the first that has none
abbrev pub each : {A B E : Type 0} → (A → Result B E) → List A → Result (List B) E
each become items = in_turn (with_value become) [] items
