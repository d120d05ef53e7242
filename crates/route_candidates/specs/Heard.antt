-- What was heard over adjacencies, as a list.
use Rattle.std.specs.Prelude.{ℕ, List, Option, option_and_then, slice_get}
use Rattle.route_record.specs.declared.OspfRec.{OspfRec}
use Rattle.net_parts.specs.declared.adjacencies.Adjacency.{Adjacency}

-- over the adjacency at a place what stands there, and nothing past the list
abbrev pub heard_in : List (Option OspfRec) → ℕ → Adjacency → Option OspfRec
heard_in heard at a = option_and_then (λ rec. rec) (slice_get heard at)
