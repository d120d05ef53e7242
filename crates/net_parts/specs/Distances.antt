-- Interior distances (RFC 2328, section 16.1, as sums over adjacencies).
use Rattle.std.specs.Prelude.{◌≡◌, ℕ, zero, suc, ◌+◌, ◌≤◌, List, [], ◌∷◌, ◌++◌, Contains, fold, length, map, min}
use Rattle.std.specs.Prelude.{Option, Some, None, MatchOption, option_map}
use Rattle.std.specs.List.{filter_map}
use Rattle.std.specs.Option.{option_map_or, option_to_list}
use Rattle.mw_text.specs.declared.address.Prefix.{Prefix}
use Rattle.ios_ast.specs.declared.file.File.{File}
use Rattle.route_record.specs.declared.Failures.{Failures}
use Rattle.net_parts.specs.declared.adjacencies.Adjacency.{Adjacency}
use Rattle.net_parts.specs.Ospf.{origin_interfaces, up_adjacencies}

-- the least of some numbers
abbrev pub least : List ℕ → Option ℕ
least ns = fold (λ best n. Some (option_map_or (min n) best n)) None ns

-- the least cost of an interface by which the router originates the prefix
unfoldable pub own_cost : List File → Failures → Prefix → ℕ → Option ℕ
own_cost files failures p router = least (map (λ x. x.cost) (origin_interfaces files failures router p))

-- the sum of a walk from the router over these adjacencies, each of which is up and leads on from the router where the
-- one before it came to, and which ends at a router that originates the prefix: the receivers' costs and that one's
-- own
abbrev pub IsWalkSum : List File → Failures → Prefix → ℕ → List Adjacency → ℕ → Type 0
IsWalkSum files failures p router [] sum = own_cost files failures p router ≡ Some sum
IsWalkSum files failures p router (a ∷ rest) sum =
    Contains (up_adjacencies files failures router) a
    × (further : ℕ) × IsWalkSum files failures p a.to.router rest further × (sum ≡ a.cost + further)

-- the least sum of all walks, or none where there is no walk
abbrev pub IsInteriorDistance : List File → Failures → Prefix → ℕ → Option ℕ → Type 0
IsInteriorDistance files failures p router distance =
    MatchOption distance ((walk : List Adjacency) (sum : ℕ) → IsWalkSum files failures p router walk sum → ⊥)
    (λ d. (walk : List Adjacency) × IsWalkSum files failures p router walk d
    × ((other : List Adjacency) (sum : ℕ) → IsWalkSum files failures p router other sum → d ≤ sum))

-- the least sum of the walks with at most so many adjacencies
unfoldable pub distance_within : List File → Failures → Prefix → ℕ → ℕ → Option ℕ
distance_within files failures p zero router = own_cost files failures p router
distance_within files failures p (suc most) router =
    least (option_to_list (own_cost files failures p router)
    ++ filter_map (λ a. option_map (λ d. a.cost + d) (distance_within files failures p most a.to.router))
    (up_adjacencies files failures router))

-- A walk that comes back to a router is longer than one that does not, so the least has fewer adjacencies than there
-- are routers: this is the interior distance
unfoldable pub interior_distance : List File → Failures → ℕ → Prefix → Option ℕ
interior_distance files failures router p = distance_within files failures p (length files) router

-- how far it is over an adjacency, by the distances of the routers
abbrev pub beyond : (ℕ → Option ℕ) → Adjacency → Option ℕ
beyond d a = option_map (λ n. a.cost + n) (d a.to.router)

-- the least of the router's own cost and of what its adjacencies lead to
abbrev pub nearest : List File → Failures → Prefix → (ℕ → Option ℕ) → ℕ → Option ℕ
nearest files failures p d router =
    least (option_to_list (own_cost files failures p router)
    ++ filter_map (beyond d) (up_adjacencies files failures router))

-- each distance is that least: the equations of the distances
abbrev pub AreDistances : List File → Failures → Prefix → (ℕ → Option ℕ) → Type 0
AreDistances files failures p d = (router : ℕ) → d router ≡ nearest files failures p d router
