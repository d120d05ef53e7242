-- What a route map makes of a route (Cisco IOS, `route-map`).
use Rattle.std.specs.Prelude.{Bool, List, [], Option, Some, None, if◌then◌else◌}
use Rattle.std.specs.List.{find}
use Rattle.std.specs.Option.{option_and_then, option_map_or}
use Rattle.mw_text.specs.declared.address.Prefix.{Prefix}
use Rattle.mw_text.specs.Text.{same_text}
use Rattle.ios_ast.specs.declared.file.Use.{Use}
use Rattle.ios_ast.specs.declared.policies.MapEntry.{MapEntry}
use Rattle.ios_ast.specs.declared.policies.Policies.{Policies}
use Rattle.ios_ast.specs.Deciding.{in_order}
use Rattle.ios_ast.specs.Matching.{line_holds, lines_hold}
use Rattle.ios_ast.specs.Setting.{Attributes, set_all}

-- the entry takes the route to that prefix: its match lines hold, and without one it takes every route
abbrev pub route_taken : Policies → Prefix → Attributes → MapEntry → Bool
route_taken policies p r e = lines_hold (line_holds policies p r.path r.communities) e.matches

-- the entry that decides: of those that take the route the first by sequence number
abbrev pub deciding : Policies → Prefix → Attributes → List MapEntry → Option MapEntry
deciding policies p r entries = find (route_taken policies p r) (in_order (λ e. e.seq) entries)

-- the route as the map leaves it: as its deciding entry sets it where that permits, and else dropped
abbrev pub mapped : Policies → List MapEntry → Prefix → Bool → Attributes → Option Attributes
mapped policies entries p external r =
    option_and_then (λ e. if e.permit then Some (set_all external r e.sets) else None) (deciding policies p r entries)

-- the entries of the map of that name; a map that is not there has none, and so drops every route
abbrev pub entries_named : Policies → Use → List MapEntry
entries_named policies named =
    option_map_or (λ map. map.entries) (find (λ map. same_text map.name named.name) policies.maps) []

-- what the map that is applied, if one is, makes of a route to the prefix
abbrev pub through_map : Policies → Option Use → Prefix → Bool → Attributes → Option Attributes
through_map policies used p external r =
    option_map_or (λ named. mapped policies (entries_named policies named) p external r) used (Some r)
