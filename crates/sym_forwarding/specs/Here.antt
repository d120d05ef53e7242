-- At which routers walks to the target of a question end.
use Rattle.std.specs.Prelude.{ℕ, ◌==◌, ◌&&◌, Bool, false, List}
use Rattle.mw_text.specs.Address.{covers}
use Rattle.ios_ast.specs.declared.file.File.{File}
use Rattle.route_record.specs.declared.Failures.{Failures}
use Rattle.route_record.specs.declared.Packet.{Packet}
use Rattle.net_parts.specs.Routing.{is_direct, up_interfaces}
use Rattle.question_lang.specs.declared.question.Kind.{Kind}
use Rattle.question_lang.specs.declared.question.Kind.TheVariants.{Reach, Isolate, Waypoint, NoLoop, NoBlackHole}
use Rattle.question_lang.specs.declared.question.Kind.TheVariants.{Within, Alike, NoStable}
use Rattle.question_lang.specs.declared.question.Target.{Target}
use Rattle.question_lang.specs.declared.question.Target.TheVariants.{Router, Subnet, Peer}

-- walks to the target end at that router
abbrev pub is_target_router : List File → Failures → Packet → ℕ → Target → Bool
is_target_router files failures packet router (Router r) = router == r
is_target_router files failures packet router (Subnet p) =
    is_direct (up_interfaces files failures router) p && covers p packet.dst
is_target_router files failures packet router (Peer r a) = router == r

-- as far as the question has a target
abbrev pub ends_here : List File → Failures → Packet → ℕ → Kind → Bool
ends_here files failures packet router (Reach start target) = is_target_router files failures packet router target
ends_here files failures packet router (Isolate start target) = is_target_router files failures packet router target
ends_here files failures packet router (Waypoint start target via) =
    is_target_router files failures packet router target
ends_here files failures packet router (NoLoop start) = false
ends_here files failures packet router (NoBlackHole start) = false
ends_here files failures packet router (Within most start) = false
ends_here files failures packet router (Alike a b target) = is_target_router files failures packet router target
ends_here files failures packet router NoStable = false
