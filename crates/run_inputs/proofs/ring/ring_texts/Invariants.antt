use Rattle.std.proofs.Common.{◌≡◌}
use Rattle.run_inputs.specs.Due.{ring_texts}
use Rattle.run_inputs.specs.Loading.{AreSmall}
use Rattle.run_inputs.proofs.ring.ring_texts.Given as goal

-- the texts of the routers so far, and they have few enough bytes
abbrev pub invariant-loop-router : goal.invariant-loop-router
invariant-loop-router l = (l.texts-inside.items.items ≡ ring_texts l.routers l.router)
    × AreSmall l.texts-inside.items.items
