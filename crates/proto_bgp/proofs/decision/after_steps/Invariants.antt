use Rattle.std.proofs.Common.{◌≡◌, fold, drop}
use Rattle.proto_bgp.specs.Places.{places_left}
use Rattle.proto_bgp.proofs.decision.after_steps.Given as goal

abbrev pub invariant-loop-step : goal.invariant-loop-step
invariant-loop-step l =
    fold (places_left l.always l.candidates) l.left.items (drop l.step-index l.steps)
    ≡ fold (places_left l.always l.candidates) l.fn.all.items l.steps
