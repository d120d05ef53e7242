-- Whether external peers may announce what they do, by end and then by length.
use Rattle.std.specs.Prelude.{ℕ, ◌&&◌, Bool, true, List, [], ◌∷◌, drop, take, Option, if◌then◌else◌}
use Rattle.std.specs.List.{list_all}
use Rattle.std.specs.Option.{option_map_or}
use Rattle.ios_ast.specs.declared.bgp.Neighbour.{Neighbour}
use Rattle.ios_ast.specs.declared.file.File.{File}
use Rattle.route_record.specs.declared.tracked.Tracked.{Tracked}
use Rattle.net_parts.specs.declared.sessions.SessionEnd.{SessionEnd}
use Rattle.net_parts.specs.Sessions.{is_outside, neighbour_of}
use Rattle.route_shapes.specs.Bgp.{BgpShape}
use Rattle.bgp_variables.specs.Announced.{is_announced}

-- the peer of that neighbour line may announce the route, if it is there
abbrev pub may_come : Tracked → Option Neighbour → Option BgpShape → Bool
may_come tracked line x =
    option_map_or (λ neighbour. option_map_or (is_announced tracked neighbour.asn) x true) line true

-- of each external end so many things pass the test of its neighbour line
unfoldable pub rows_pass : {X : Type 0} → (Option Neighbour → X → Bool) → List File → ℕ → List SessionEnd → List X → Bool
rows_pass test files count [] xs = true
rows_pass test files count (end ∷ ends) xs =
    if is_outside end.far
    then list_all (test (neighbour_of files end)) (take count xs) && rows_pass test files count ends (drop count xs)
    else rows_pass test files count ends xs
