-- The next hops that BGP routes can have, line by line.
use Rattle.std.proofs.Common.{◌≡◌, ℕ, List, [], ◌∷◌, ◌++◌, Option, Some, None, map, refl, ap, ◌∙◌}
use Rattle.std.specs.List.{filter_map, flat_map}
use Rattle.std.specs.Option.{option_map_or}
use Rattle.std.proofs.lemmas.List.{append-nil}
use Rattle.ios_ast.specs.declared.bgp.Bgp.{Bgp}
use Rattle.ios_ast.specs.declared.bgp.Neighbour.{Neighbour}
use Rattle.ios_ast.specs.declared.file.File.{File}
use Rattle.ios_ast.specs.declared.ospf.Redist.{Redist}
use Rattle.ios_ast.specs.declared.policies.MapEntry.{MapEntry}
use Rattle.ios_ast.specs.declared.policies.RouteMap.{RouteMap}
use Rattle.ios_ast.specs.declared.policies.SetAct.{SetAct}
use Rattle.net_parts.specs.Tracked.{addresses_of}
use Rattle.held_values.specs.declared.numbers.HeldNumber.TheVariants.{NextHop}
use Rattle.held_values.specs.Values.{said_by_process, said_in_entry, said_in_file, said_in_map, said_of_neighbour}
use Rattle.held_values.specs.Values.{said_of_redist, said_of_set, values_of}
use Rattle.leaving_addresses.specs.Leaving.{bgp_next_hops, neighbour_addresses}

-- ---- no set line and no `redistribute` line says a next hop

sets_none : (sets : List SetAct) → filter_map (said_of_set NextHop) sets ≡ []
sets_none [] = refl
sets_none (act ∷ rest) = sets_none rest

entries_none : (entries : List MapEntry) → flat_map (said_in_entry NextHop) entries ≡ []
entries_none [] = refl
entries_none (entry ∷ rest) = ap (λ xs. xs ++ flat_map (said_in_entry NextHop) rest) (sets_none entry.sets)
    ∙ entries_none rest

maps_none : (maps : List RouteMap) → flat_map (said_in_map NextHop) maps ≡ []
maps_none [] = refl
maps_none (one ∷ rest) = ap (λ xs. xs ++ flat_map (said_in_map NextHop) rest) (entries_none one.entries)
    ∙ maps_none rest

lines_none : (lines : List Redist) → filter_map (said_of_redist NextHop) lines ≡ []
lines_none [] = refl
lines_none (line ∷ rest) = lines_none rest

-- ---- each neighbour line says its address

appended : (xs ys : List ℕ) → addresses_of (xs ++ ys) ≡ addresses_of xs ++ addresses_of ys
appended [] ys = refl
appended (x ∷ xs) ys = ap (λ zs. record { 0 = x } ∷ zs) (appended xs ys)

neighbours_say : (process : Bgp) (neighbours : List Neighbour) →
    addresses_of (filter_map (said_of_neighbour NextHop process) neighbours)
    ≡ map (λ neighbour. neighbour.addr) neighbours
neighbours_say process [] = refl
neighbours_say process (neighbour ∷ rest) = ap (λ zs. neighbour.addr ∷ zs) (neighbours_say process rest)

file_says : (file : File) → addresses_of (said_in_file NextHop file) ≡ neighbour_addresses file
file_says file = by_process file.bgp
  where
    by_process : (o : Option Bgp) → addresses_of (option_map_or (said_by_process NextHop file) o [])
        ≡ option_map_or (λ process. map (λ neighbour. neighbour.addr) process.neighbours) o []
    by_process None = refl
    by_process (Some process) =
        ap (λ xs. addresses_of (filter_map (said_of_neighbour NextHop process) process.neighbours ++ xs))
        (ap (λ xs. xs ++ flat_map (said_in_map NextHop) file.policies.maps) (lines_none process.redistribute)
        ∙ maps_none file.policies.maps)
        ∙ ap addresses_of (append-nil (filter_map (said_of_neighbour NextHop process) process.neighbours))
        ∙ neighbours_say process process.neighbours

files_say : (files : List File) → addresses_of (flat_map (said_in_file NextHop) files)
    ≡ flat_map neighbour_addresses files
files_say [] = refl
files_say (file ∷ rest) =
    appended (said_in_file NextHop file) (flat_map (said_in_file NextHop) rest)
    ∙ ap (λ xs. xs ++ addresses_of (flat_map (said_in_file NextHop) rest)) (file_says file)
    ∙ ap (λ xs. neighbour_addresses file ++ xs) (files_say rest)

-- none, and then the addresses of the neighbours
pub hops_are : (files : List File) → bgp_next_hops files ≡ record { 0 = 0 } ∷ flat_map neighbour_addresses files
unfolding values_of
hops_are files = ap (λ zs. record { 0 = 0 } ∷ zs) (files_say files)
