use Rattle.ask_search.proofs.Encodings.{export_is}
use Rattle.ask_search.proofs.world.export_term.Goals as goal

pub returns : goal.returns
returns c =
    export_is c.args.net.now.files c.args.net.now.tracked c.args.ask.now c.args.question.now c.in_ok-plan.plan
    c.in_ok-own.own.terms c.in_ok-own.own.world c.in_ok-own.own.env _ c.requires c.in_ok-plan.ensures
    c.tracked-tracked.ensures.tracks c.in_ok-own.ensures.world.slots c.in_ok-own.ensures.plan c.in_ok-own.ensures.stands
    c.in_ok-own.ensures.vars c.sym_exported.ensures.builds c.in_ok-root.ensures.within c.in_ok-root.ensures.value
