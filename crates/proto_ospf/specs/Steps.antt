-- Over which adjacencies least walks go on.
use Rattle.std.specs.Prelude.{ℕ, ◌+◌, ◌==◌, Bool, false, List, [], Option, filter}
use Rattle.std.specs.List.{find}
use Rattle.std.specs.Option.{option_map_or}
use Rattle.mw_text.specs.declared.address.Addr.{Addr}
use Rattle.mw_text.specs.Address.{covers}
use Rattle.net_parts.specs.declared.adjacencies.Adjacency.{Adjacency}
use Rattle.proto_ospf.specs.declared.reached.Reached.{Reached}
use Rattle.proto_ospf.specs.Rounds.{of_router}

-- the distance is the adjacency's cost, and then the far router's distance
abbrev pub goes_on : List (Option ℕ) → ℕ → Adjacency → Bool
goes_on distances d a = option_map_or (λ further. d == a.cost + further) (of_router distances a.to.router) false

-- the adjacency is the first of a least walk from the router
abbrev pub is_step : List (Option ℕ) → ℕ → Adjacency → Bool
is_step distances router a = option_map_or (λ d. goes_on distances d a) (of_router distances router) false

-- those which are, towards the first prefix that contains the address
abbrev pub steps : List Reached → List Adjacency → ℕ → Addr → List Adjacency
steps all up router a = option_map_or (λ x. filter (is_step x.distances router) up) (find (λ x. covers x.to a) all) []
