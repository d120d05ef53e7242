-- What a reading makes of the best of some numbers.
use Rattle.std.specs.Prelude.{ℕ, ◌+◌, max, if◌then◌else◌, Option, Some, None}
use Rattle.term_store.specs.Terms.{Reading, at}
use Rattle.term_arith.specs.Bits.{number, ids_end}
use Rattle.sym_bgp.specs.declared.parts.SymBest.{SymBest}

abbrev pub best_at : Reading → SymBest → Option ℕ
best_at w best = if at w best.there then Some (number w best.number.nodes.items) else None

abbrev pub best_end : SymBest → ℕ
best_end best = max (best.there.0 + 1) (ids_end best.number.nodes.items)
