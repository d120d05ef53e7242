use Rattle.std.proofs.Common.{◌≡◌, drop}
use Rattle.std.specs.Prelude.{fold, unwrap_or}
use Rattle.slot_places.specs.Origins.{metric_after}
use Rattle.slot_places.proofs.origins.metric_left.Given as goal

abbrev pub invariant-loop-act : goal.invariant-loop-act
invariant-loop-act l = fold metric_after l.metric (drop l.act-index l.sets)
    ≡ fold metric_after (unwrap_or l.line.metric 1) l.sets
