-- The test of a router says whether walks to the target of a question end there.
use Rattle.std.proofs.Common.{ℕ, List, eq-eqb}
use Rattle.std.proofs.lemmas.Bool.{and_from, and_parts, eqb-true}
use Rattle.mw_text.specs.Address.{covers}
use Rattle.ios_ast.specs.declared.file.File.{File}
use Rattle.route_record.specs.declared.World.{World}
use Rattle.net_parts.specs.Routing.{is_direct, up_interfaces}
use Rattle.question_lang.specs.declared.question.Kind.{Kind}
use Rattle.question_lang.specs.declared.question.Kind.TheVariants.{Reach, Isolate, Waypoint, NoLoop, NoBlackHole}
use Rattle.question_lang.specs.declared.question.Kind.TheVariants.{Within, Alike, NoStable}
use Rattle.question_lang.specs.declared.question.Target.{Target}
use Rattle.question_lang.specs.declared.question.Target.TheVariants.{Router, Subnet, Peer}
use Rattle.walk_def.specs.Arriving.{IsTargetRouter}
use Rattle.sym_forwarding.specs.Here.{ends_here, is_target_router}
use Rattle.sym_forwarding.proofs.Sought.{IsHere, Tells}

told : (files : List File) (world : World) (router : ℕ) (target : Target) →
    Tells (IsTargetRouter files world target router)
    (is_target_router files world.failures world.packet router target)
told files world router (Router r) = record { so = λ h. eqb-true router r h; whole = λ same. eq-eqb router r same }
told files world router (Subnet p) = record {
  so = λ h. and_parts (is_direct (up_interfaces files world.failures router) p) (covers p world.packet.dst) h;
  whole = λ (direct, covered).
      and_from (is_direct (up_interfaces files world.failures router) p) (covers p world.packet.dst) direct covered;
}
told files world router (Peer r a) = record { so = λ h. eqb-true router r h; whole = λ same. eq-eqb router r same }

pub told_here : (files : List File) (world : World) (router : ℕ) (kind : Kind) →
    IsHere files world kind router (ends_here files world.failures world.packet router kind)
told_here files world router (Reach start target) = told files world router target
told_here files world router (Isolate start target) = told files world router target
told_here files world router (Waypoint start target via) = told files world router target
told_here files world router (NoLoop start) = tt
told_here files world router (NoBlackHole start) = tt
told_here files world router (Within most start) = tt
told_here files world router (Alike a b target) = told files world router target
told_here files world router NoStable = tt
