use Rattle.std.proofs.Common.{Option, map, subst, sym}
use Rattle.std.specs.Bool.{Decides}
use Rattle.route_record.specs.declared.BgpRec.{BgpRec}
use Rattle.net_parts.specs.Decisions as decisions
use Rattle.proto_bgp.specs.Places.{candidates_at}
use Rattle.proto_bgp.specs.Steps.{seen}
use Rattle.stable_replay.proofs.LeftOver.{held_decides}
use Rattle.stable_replay.proofs.decided.is_held.Goals as goal

-- by the candidates that are left
pub returns-in-Some : goal.returns-in-Some
returns-in-Some c =
    let Told : Option BgpRec → Type 0 = λ held.
    Decides c.some_has.result
    (decisions.IsHeld (map seen c.args.candidates.now) (candidates_at c.args.candidates.now c.args.left.now) held) in
    subst Told (sym c.in-Some.is)
    (held_decides c.args.candidates.now c.args.left.now c.in-Some.rec c.some_has.result c.some_has.ensures)
