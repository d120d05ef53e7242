-- Texts as bytes.
use Rattle.std.specs.Prelude.{ℕ, Bool, List, nat_eq}
use lib.Pointwise.{pointwise}

-- the same bytes
abbrev pub same_text : List ℕ → List ℕ → Bool
same_text = pointwise nat_eq
