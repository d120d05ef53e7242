use Rattle.std.proofs.Common.{Bool, subst}
use Rattle.question_lang.specs.Hops.{next_hops}
use Rattle.sym_forwarding.specs.Symbolic.{forwarding_of}
use Rattle.sym_forwarding.specs.Twins.{IsTwin, is_sought}
use Rattle.sym_rib.specs.Worlds.{read_world}
use Rattle.sym_walk.proofs.routers.sym_router.Goals as goal

pub returns-clause-value : goal.returns-clause-value
returns-clause-value c = λ w reads needed.
    let stop = c.args.stop.now in
    let made = c.in_ok-made.ensures in
    let P : Bool → Type 0 = λ b. IsTwin (is_sought c.args.kind b)
    (next_hops stop.net.now.files (read_world w stop.sym.now stop.packet.now stop.tables.now) stop.router)
    (forwarding_of w c.in_ok-made.made) in
    subst P (c.in_ok-here.ensures.value w (made.builds.reads w reads)) (made.value w reads needed)
