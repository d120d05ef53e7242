-- The BGP equations of a world by shapes, at the places of a plan.
use Rattle.std.specs.Prelude.{◌||◌, Bool, not, List}
use Rattle.std.specs.List.{list_all}
use Rattle.mw_text.specs.declared.address.Prefix.{Prefix}
use Rattle.mw_text.specs.Address.{prefix_at}
use Rattle.ios_ast.specs.declared.file.File.{File}
use Rattle.route_record.specs.declared.tracked.Tracked.{Tracked}
use Rattle.plan_places.specs.declared.places.Place.{Place}
use Rattle.slot_places.specs.Rooms.{can_be_used}
use Rattle.bgp_equations.specs.Equations.{is_decided_at, is_decided_heard}
use Rattle.shape_worlds.specs.Worlds.{ShapeWorld, slots_for}

-- the slot at a place holds the BGP route that the decision process leaves; nothing is asked where nothing can stand
abbrev pub is_decided_place : Tracked → List File → Prefix → ShapeWorld → Place → Bool
is_decided_place tracked files destinations s p =
    not (can_be_used files destinations p.router p.len)
    || is_decided_at tracked files s.failures s.environment (slots_for s p.len) p.router (prefix_at s.packet.dst p.len)

-- so do all at some places
abbrev pub are_decided : Tracked → List File → Prefix → ShapeWorld → List Place → Bool
are_decided tracked files destinations s places = list_all (is_decided_place tracked files destinations s) places

-- the same where nothing is looked at that a silent router holds
abbrev pub is_heard_place : Tracked → List File → Prefix → ShapeWorld → Place → Bool
is_heard_place tracked files destinations s p =
    not (can_be_used files destinations p.router p.len)
    || is_decided_heard tracked files s.failures s.environment (slots_for s p.len) p.router
    (prefix_at s.packet.dst p.len)

abbrev pub are_heard : Tracked → List File → Prefix → ShapeWorld → List Place → Bool
are_heard tracked files destinations s places = list_all (is_heard_place tracked files destinations s) places
