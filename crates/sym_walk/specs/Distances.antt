-- Where walks read interior distances: at slots that hold a BGP route.
use Rattle.std.specs.Prelude.{◌≡◌, true, All, List}
use Rattle.ios_ast.specs.declared.file.File.{File}
use Rattle.term_store.specs.Terms.{Reading, at}
use Rattle.sym_ospf.specs.Rows.{HasDistances}
use Rattle.sym_policy.specs.declared.records.SymNet.{SymNet}
use Rattle.sym_rib.specs.declared.slots.SymSlot.{SymSlot}

-- the rows are the interior distances, if the slot holds a BGP route
abbrev pub DistancesIfNeeded : Reading → List File → SymNet → SymSlot → Type 0
DistancesIfNeeded w files sym s = at w s.bgp.valid ≡ true → HasDistances w files sym

-- they are if one of the slots does
abbrev pub DistancesWhereNeeded : Reading → List File → SymNet → List SymSlot → Type 0
DistancesWhereNeeded w files sym slots = All (DistancesIfNeeded w files sym) slots
