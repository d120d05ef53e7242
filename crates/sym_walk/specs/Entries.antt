-- The next hops of an entry by the number of its source.
use Rattle.std.specs.Prelude.{ℕ, ◌==◌, if◌then◌else◌, List, [], ◌∷◌, filter, Option, Some}
use Rattle.std.specs.Option.{option_map_or}
use Rattle.std.specs.List.{flat_map}
use Rattle.mw_text.specs.declared.address.Prefix.{Prefix}
use Rattle.ios_ast.specs.declared.file.File.{File}
use Rattle.ios_ast.specs.declared.file.StaticRoute.{StaticRoute}
use Rattle.route_record.specs.declared.Packet.{Packet}
use Rattle.route_record.specs.declared.RibEntry.{RibEntry}
use Rattle.route_record.specs.declared.Slot.{Slot}
use Rattle.route_record.specs.declared.Tables.{Tables}
use Rattle.route_record.specs.declared.World.{World}
use Rattle.net_interfaces.specs.declared.interfaces.Addressed.{Addressed}
use Rattle.net_parts.specs.Routing.{static_routes, up_interfaces}
use Rattle.question_lang.specs.declared.walk.End.TheVariants.{NoRoute}
use Rattle.question_lang.specs.declared.walk.Hop.{Hop}
use Rattle.question_lang.specs.declared.walk.Hop.TheVariants.{Ends}
use Rattle.question_lang.specs.Hops.{all_up, entry_at, entry_hops, static_hops}
use Rattle.term_store.specs.Terms.{Reading}
use Rattle.sym_rib.specs.declared.slots.SymSlot.{SymSlot}
use Rattle.sym_rib.specs.Slots.{rib_at}
use Rattle.sym_rib.specs.Worlds.{slot_of}

-- those of a connected, a static, an OSPF or a BGP entry
abbrev pub by_number : ℕ → List Hop → List Hop → List Hop → List Hop → List Hop
by_number n connected static ospf bgp =
    if n == 0 then connected else (if n == 1 then static else (if n == 3 then ospf else bgp))

-- those of the static routes of that distance
abbrev pub static_part : List File → Packet → List Addressed → List Addressed → List StaticRoute → Prefix → ℕ → List Hop
static_part files packet up own statics p distance =
    flat_map (static_hops files packet up own)
    (filter (λ route. route.distance == distance) (static_routes own statics p))

-- those of the entry of a slot, as if there were one
abbrev pub entry_of : Reading → List File → World → List Addressed → List Addressed → ℕ → File → ℕ → SymSlot → List Hop
entry_of w files world up own router file len s =
    entry_hops files world up own router file (len, slot_of w s, rib_at w s.rib)

-- those of the entry that is found, where one is, and else no route
abbrev pub by_entry : List File → World → ℕ → File → Option (ℕ × Slot × RibEntry) → List Hop
by_entry files world router file found =
    option_map_or (entry_hops files world (all_up files world.failures) (up_interfaces files world.failures router)
    router file) found (Ends NoRoute ∷ [])

-- the entry of one length more
abbrev pub longer : Tables → ℕ → ℕ → Option (ℕ × Slot × RibEntry) → Option (ℕ × Slot × RibEntry)
longer tables router len shorter =
    option_map_or (λ found. Some (len, found.0, found.1)) (entry_at tables router len) shorter
