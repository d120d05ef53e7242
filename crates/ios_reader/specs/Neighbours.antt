-- What a line on a neighbour does to a BGP process (Cisco IOS command references).
use Rattle.std.specs.Prelude.{ℕ, ◌==◌, true, List, [], ◌∷◌, ◌++◌, length, position, slice_get, slice_set, nat_le}
use Rattle.std.specs.Prelude.{is_some, Option, Some, Result, Ok, Err, if◌then◌else◌}
use Rattle.std.specs.Option.{option_map_or}
use Rattle.mw_text.specs.declared.address.Addr.{Addr}
use Rattle.mw_text.specs.declared.words.Line.{Line}
use Rattle.ios_ast.specs.declared.file.TheConstants.{MOST_NEIGHBOURS}
use Rattle.ios_ast.specs.declared.file.Use.{Use}
use Rattle.ios_ast.specs.declared.bgp.Neighbour.{Neighbour}
use Rattle.ios_policy_reader.specs.declared.cause.Cause.{Cause}
use Rattle.ios_policy_reader.specs.declared.cause.Cause.TheVariants.{OutOfPlace, Repeated, Limit}
use Rattle.ios_policy_reader.specs.declared.said.Tag.TheVariants.{Number, Address, Remote, UpdateSource, NextHopSelf}
use Rattle.ios_policy_reader.specs.declared.said.Tag.TheVariants.{Client, SendCommunity, Weight, Shutdown, PrefixList}
use Rattle.ios_policy_reader.specs.declared.said.Tag.TheVariants.{Map, FilterList}
use Rattle.ios_policy_reader.specs.declared.said.Said.{Said}
use Rattle.ios_policy_reader.specs.Said.{number_under, address_under, has_said}
use Rattle.ios_policy_reader.specs.Values.{name_of}
use Rattle.ios_reader.specs.Interfaces.{no_address}
use Rattle.ios_reader.specs.InterfaceRows.{is_inward}
use Rattle.ios_reader.specs.Bgp.{new_neighbour}

-- the place of the neighbour with that address
abbrev pub place_of : Addr → List Neighbour → Option ℕ
place_of address neighbours = position (λ one. one.addr.0 == address.0) neighbours

-- a `remote-as` line names a neighbour, once an address, and not too many
abbrev pub with_new : ℕ → List Said → List Neighbour → Result (List Neighbour) Cause
with_new line said neighbours =
    if is_some (place_of (new_neighbour line said).addr neighbours) then Err Repeated
    else if nat_le MOST_NEIGHBOURS (length neighbours) then Err Limit
    else Ok (neighbours ++ new_neighbour line said ∷ [])

-- a neighbour with what a line without a name says of it
abbrev pub with_flag : List Said → Neighbour → Neighbour
with_flag said neighbour =
    if has_said NextHopSelf said then (record neighbour { next_hop_self = true })
    else if has_said Client said then (record neighbour { client = true })
    else if has_said SendCommunity said then (record neighbour { send_community = true })
    else if has_said Weight said then (record neighbour { weight = number_under Number said 0 })
    else if has_said Shutdown said then (record neighbour { shutdown = true })
    else neighbour

-- a use of a prefix list, a route map or a filter list replaces the one of its direction
abbrev pub with_prefix_list : List Said → Use → Neighbour → Neighbour
with_prefix_list said used neighbour =
    if is_inward said then (record neighbour { prefix_in = Some used }) else
    (record neighbour { prefix_out = Some used })

abbrev pub with_map : List Said → Use → Neighbour → Neighbour
with_map said used neighbour =
    if is_inward said then (record neighbour { map_in = Some used }) else (record neighbour { map_out = Some used })

abbrev pub with_filter : List Said → Use → Neighbour → Neighbour
with_filter said used neighbour =
    if is_inward said then (record neighbour { filter_in = Some used }) else
    (record neighbour { filter_out = Some used })

-- a neighbour with what a line says that names a list, a map or an interface
abbrev pub used_by : List Said → Use → Neighbour → Neighbour
used_by said used neighbour =
    if has_said PrefixList said then with_prefix_list said used neighbour
    else if has_said Map said then with_map said used neighbour
    else if has_said FilterList said then with_filter said used neighbour
    else if has_said UpdateSource said then (record neighbour { source = Some used })
    else neighbour

-- what a line uses, a number as its digits
abbrev pub use_of : Line → List Said → Use
use_of line said = record { line = line.number; name = name_of line.words said }

-- a neighbour after a line on it; a line that is ignored changes nothing
abbrev pub changed_by : Line → List Said → Neighbour → Neighbour
changed_by line said neighbour = used_by said (use_of line said) (with_flag said neighbour)

-- the neighbour of the line's address is changed, where there is one
abbrev pub with_changed : Line → List Said → List Neighbour → Result (List Neighbour) Cause
with_changed line said neighbours =
    option_map_or
    (λ at. option_map_or
    (λ neighbour. Ok (slice_set neighbours at (changed_by line said neighbour))) (slice_get neighbours at)
    (Err OutOfPlace))
    (place_of (address_under Address said no_address) neighbours) (Err OutOfPlace)

-- a line on a neighbour
abbrev pub with_neighbour : Line → List Said → List Neighbour → Result (List Neighbour) Cause
with_neighbour line said neighbours =
    if has_said Remote said then with_new line.number said neighbours else with_changed line said neighbours
