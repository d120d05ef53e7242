use Rattle.std.proofs.Common.{◌∙◌}
use Rattle.std.specs.Prelude.{option_copied}
use Rattle.sym_forwarding.proofs.LeastWalks.{least_by_rows}
use Rattle.sym_forwarding.proofs.distances.sym_on_least_walk.Goals as goal

pub returns-clause-value : goal.returns-clause-value
returns-clause-value c = λ w reads has.
    let led = c.args.led.now in
    c.in_ok-made.ensures.value w reads
    ∙ least_by_rows w led.net.now.files led.sym.now led.router c.args.k c.args.p.now led.x.now
    (option_copied c.distance_of-near.result) (option_copied c.distance_of-far.result) has c.requires.there
    c.distance_of-near.ensures.value c.distance_of-far.ensures.value
