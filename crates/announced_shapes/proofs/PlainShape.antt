-- The shape of a path whose length 32 bits tell has that length.
use Rattle.std.proofs.Common.{◌≡◌, ℕ, ◌^◌, ◌<◌, List, length, map, sym, ap}
use Rattle.ios_ast.specs.Deciding.{carries}
use Rattle.ios_ast.specs.Paths.{first_of, last_of}
use Rattle.route_record.proofs.Saturated.{saturated-small}
use Rattle.route_shapes.specs.Shapes.{PathShape, path_shape}

abbrev pub plain_shape : List ℕ → List ℕ → PathShape
plain_shape tracked path = record {
  len = length path;
  first = first_of path;
  last = last_of path;
  numbers = map (carries path) tracked;
}

pub plain : (tracked path : List ℕ) → length path < 2 ^ 32 → path_shape tracked path ≡ plain_shape tracked path
plain tracked path short = ap (λ n. record {
  len = n;
  first = first_of path;
  last = last_of path;
  numbers = map (carries path) tracked;
}) (sym (saturated-small (length path) short))
