use Rattle.std.proofs.Common.{ℕ, subst}
use Rattle.std.specs.Prelude.{◌⊎◌}
use Rattle.mw_outside.specs.Faults.{Rose}
use Rattle.mw_verify.proofs.Ending.{answers_sized}
use Rattle.mw_verify.proofs.generated.put_ring.Goals as goal

pub returns-in-Ok-clause-answers : goal.returns-in-Ok-clause-answers
returns-in-Ok-clause-answers g c =
    let loaded = c.args.ring.now.loaded in
    let R : ℕ → Type 0 = λ n. Rose n (g.O.Sink.faults c.put_verdicts.new.out)
    ⊎ Rose (g.L.Sink.faults c.args.log.now) (g.L.Sink.faults c.put_verdicts.new.log) in
    answers_sized c.args.ring.now.routers loaded.net.files loaded.questions loaded.budget c.put_verdicts.result
    (g.O.Sink.taken c.args.out.now) (g.O.Sink.taken c.put_size.new.out) (g.O.Sink.taken c.put_verdicts.new.out)
    (g.L.Sink.taken c.args.log.now) (g.L.Sink.taken c.put_verdicts.new.log) _ _ _ c.in-Ok.ensures.takes
    (λ rose. subst R c.in-Ok.ensures.writes rose) c.put_verdicts.ensures.answers
