-- What a reading makes of what is open of slots.
use Rattle.std.specs.Prelude.{ℕ, ◌+◌, max, List, [], ◌∷◌}
use Rattle.term_store.specs.Terms.{Reading, at}
use Rattle.sym_policy.specs.Held.{ospf_of, ospf_end}
use Rattle.world_variables.specs.declared.opens.SymOpen.{SymOpen}
use Rattle.world_variables.specs.declared.unknowns.Unknown.{Unknown}

-- what is open of a slot
abbrev pub open_of : Reading → SymOpen → Unknown
open_of w s = record { ospf = ospf_of w s.ospf; dynamic = at w s.dynamic }

-- the least size of a store that has its nodes, and those of several
abbrev pub open_end : SymOpen → ℕ
open_end s = max (ospf_end s.ospf) (s.dynamic.0 + 1)

abbrev pub opens_end : List SymOpen → ℕ
opens_end [] = 0
opens_end (s ∷ rest) = max (open_end s) (opens_end rest)
