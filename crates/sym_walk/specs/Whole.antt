-- The world that a reading makes of a symbolic world.
use Rattle.std.specs.Prelude.{◌≡◌, ℕ, ◌*◌, max, List, length}
use Rattle.ios_ast.specs.declared.file.File.{File}
use Rattle.plan_places.specs.Plans.{lens_of}
use Rattle.route_record.specs.declared.World.{World}
use Rattle.sym_policy.specs.Records.{packet_end}
use Rattle.sym_ospf.specs.Rows.{net_end}
use Rattle.term_store.specs.Terms.{Reading}
use Rattle.sym_walk.specs.declared.breaks.SymWorld.{SymWorld}
use Rattle.sym_rib.specs.Worlds.{slots_end, tables_of, world_of}

-- each router of these files has a slot at each length at which a slice of the plan stands
abbrev pub HasSlots : List File → SymWorld → Type 0
HasSlots files world = length world.slots ≡ length files * length (lens_of world.plan)

-- so these are its tables, and they are empty at all other lengths
abbrev pub whole_of : Reading → List File → SymWorld → World
whole_of w files world =
    world_of w world.net world.packet (tables_of w (lens_of world.plan) (length files) world.slots)

-- the least size of a store that has all nodes that decide on walks
abbrev pub whole_end : SymWorld → ℕ
whole_end world = max (packet_end world.packet) (max (net_end world.net) (slots_end world.slots))
