-- What a line of a BGP block does to the process (Cisco IOS command references).
use Rattle.std.specs.Prelude.{ℕ, ◌&&◌, Bool, true, false, not, List, [], ◌∷◌, ◌++◌, slice_get, codes, is_some, Some}
use Rattle.std.specs.Prelude.{Result, Ok, Err, if◌then◌else◌}
use Rattle.std.specs.Option.{option_map_or}
use Rattle.mw_text.specs.declared.words.Line.{Line}
use Rattle.mw_text.specs.Digits.{addr_of}
use Rattle.ios_ast.specs.declared.bgp.Bgp.{Bgp}
use Rattle.ios_ast.specs.declared.bgp.Neighbour.{Neighbour}
use Rattle.ios_policy_reader.specs.declared.cause.Cause.{Cause}
use Rattle.ios_policy_reader.specs.declared.cause.Cause.TheVariants.{Repeated}
use Rattle.ios_policy_reader.specs.declared.heads.Row.{Row}
use Rattle.ios_policy_reader.specs.declared.heads.Row.TheVariants.{RouterId, AlwaysCompareMed, CompareRouterId}
use Rattle.ios_policy_reader.specs.declared.heads.Row.TheVariants.{BgpNetwork, BgpRedistribute, Neighbor}
use Rattle.ios_policy_reader.specs.declared.said.Tag.TheVariants.{Address}
use Rattle.ios_policy_reader.specs.declared.said.Said.{Said}
use Rattle.ios_policy_reader.specs.Said.{address_under}
use Rattle.ios_policy_reader.specs.Words.{is_keyword}
use Rattle.mw_text.specs.Reading.{following}
use Rattle.ios_reader.specs.Interfaces.{no_address}
use Rattle.ios_reader.specs.Bgp.{network_of, into_bgp}
use Rattle.ios_reader.specs.Neighbours.{place_of, with_neighbour}

-- the third word is `remote-as`
abbrev pub names_remote : List (List ℕ) → Bool
names_remote words = option_map_or (λ word. is_keyword (codes "remote-as") word) (slice_get words 2) false

-- the second word is an address of no neighbour, and the line does not name one
abbrev pub is_unnamed : List (List ℕ) → List Neighbour → Bool
is_unnamed words neighbours =
    option_map_or
    (λ word. option_map_or (λ a. not (is_some (place_of a neighbours)) && not (names_remote words))
    (addr_of word) false)
    (slice_get words 1) false

-- a router id is written once
abbrev pub with_router_id : List Said → Bgp → Result Bgp Cause
with_router_id said bgp =
    if is_some bgp.router_id then Err Repeated
    else Ok (record bgp { router_id = Some (address_under Address said no_address) })

abbrev pub with_network : Line → List Said → Bgp → Bgp
with_network line said bgp = record bgp { networks = bgp.networks ++ network_of line said ∷ [] }

abbrev pub with_redistribution : Line → List Said → Bgp → Bgp
with_redistribution line said bgp = record bgp { redistribute = bgp.redistribute ++ into_bgp line said ∷ [] }

abbrev pub on_neighbours : Bgp → Result (List Neighbour) Cause → Result Bgp Cause
on_neighbours bgp changed = following (λ neighbours. Ok (record bgp { neighbours = neighbours })) changed

-- a line of a BGP block; `bgp deterministic-med` and a row that is ignored change nothing
abbrev pub bgp_row : Row → Line → List Said → Bgp → Result Bgp Cause
bgp_row RouterId line said bgp = with_router_id said bgp
bgp_row AlwaysCompareMed line said bgp = Ok (record bgp { always_compare = true })
bgp_row CompareRouterId line said bgp = Ok (record bgp { compare_routerid = true })
bgp_row BgpNetwork line said bgp = Ok (with_network line said bgp)
bgp_row BgpRedistribute line said bgp = Ok (with_redistribution line said bgp)
bgp_row Neighbor line said bgp = on_neighbours bgp (with_neighbour line said bgp.neighbours)
bgp_row _ line said bgp = Ok bgp
