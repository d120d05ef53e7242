-- What the gates fold.
use Rattle.std.specs.Prelude.{◌≡◌, Bool, not, ⊤}
use Rattle.term_arith.specs.declared.gates.Tie.{Tie}
use Rattle.term_arith.specs.declared.gates.Tie.TheVariants.{First, Second, Same, Opposite, Free}

-- what the tie of two nodes says of their values
abbrev pub Ties : Tie → Bool → Bool → Type 0
Ties (First v) x y = x ≡ v
Ties (Second v) x y = y ≡ v
Ties Same x y = x ≡ y
Ties Opposite x y = x ≡ not y
Ties Free x y = ⊤
