-- What a `redistribute` line of an OSPF process takes.
use Rattle.std.specs.Prelude.{◌≡◌, ℕ, max, List, [], ◌∷◌, Option, Some, None}
use Rattle.ios_ast.specs.declared.ospf.Source.{Source}
use Rattle.ios_ast.specs.declared.ospf.Source.TheVariants as source

-- the number of the source of the entries that a line takes
abbrev pub source_taken : Source → Option ℕ
source_taken source.Connected = Some 0
source_taken source.Static = Some 1
source_taken (source.Bgp asn) = Some 2
source_taken (source.Ospf process) = None

-- the greatest of the items' ends
abbrev pub list_end : {A : Type 0} → (A → ℕ) → List A → ℕ
list_end end [] = 0
list_end end (x ∷ xs) = max (end x) (list_end end xs)
