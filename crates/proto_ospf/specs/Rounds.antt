-- The interior distances of all routers to one prefix, in rounds: each round allows one adjacency more.
use Rattle.std.specs.Prelude.{ℕ, zero, suc, ◌+◌, ◌≤◌, All, IfSome, List, fold, length, map, min, slice_get, Option}
use Rattle.std.specs.Prelude.{Some, option_and_then, option_map}
use Rattle.std.specs.List.{filter_map, range_with_len}
use Rattle.std.specs.Option.{option_map_or}
use Rattle.mw_text.specs.declared.address.Prefix.{Prefix}
use Rattle.ios_ast.specs.declared.file.File.{File}
use Rattle.route_record.specs.declared.Failures.{Failures}
use Rattle.net_parts.specs.declared.adjacencies.Adjacency.{Adjacency}
use Rattle.net_parts.specs.Distances.{interior_distance}
use Rattle.net_parts.specs.Ospf.{up_adjacencies}
use Rattle.proto_ospf.specs.declared.rounds.Receiver.{Receiver}

-- the distance of a router
abbrev pub of_router : List (Option ℕ) → ℕ → Option ℕ
of_router distances router = option_and_then (λ d. d) (slice_get distances router)

-- the cost over an adjacency, where the far router has a distance
abbrev pub over : List (Option ℕ) → Adjacency → Option ℕ
over before a = option_map (λ d. a.cost + d) (of_router before a.to.router)

-- the lower one
abbrev pub lower : Option ℕ → ℕ → Option ℕ
lower best n = Some (option_map_or (min n) best n)

-- the least of the router's own cost and the costs over its adjacencies
abbrev pub nearest : List (Option ℕ) → List (Option ℕ) → Receiver → Option ℕ
nearest own before x = fold lower (of_router own x.router) (filter_map (over before) x.adjacencies)

-- the least costs of walks with at most so many adjacencies
abbrev pub rounds : List (Option ℕ) → List Receiver → ℕ → List (Option ℕ)
rounds own receivers zero = own
rounds own receivers (suc most) = map (nearest own (rounds own receivers most)) receivers

-- what each router of the files has
abbrev pub everywhere : {X : Type 0} → List File → (ℕ → X) → List X
everywhere files f = map f (range_with_len 0 (length files))

-- the interior distance of each router to the prefix
abbrev pub interior_distances : List File → Failures → Prefix → List (Option ℕ)
interior_distances files failures p = everywhere files (λ router. interior_distance files failures router p)

-- a router, and the adjacencies over which it receives and that are up
abbrev pub receiver : List File → Failures → ℕ → Receiver
receiver files failures router = record { router = router; adjacencies = up_adjacencies files failures router }

-- no distance is more
abbrev pub AtMost : ℕ → List (Option ℕ) → Type 0
AtMost most distances = All (λ o. IfSome o (λ d. d ≤ most)) distances

-- no adjacency costs more than 65535
abbrev pub AreCheap : List Receiver → Type 0
AreCheap receivers = All (λ x. All (λ a. a.cost ≤ 65535) x.adjacencies) receivers
