use Rattle.std.proofs.Common.{sym, ◌∙◌}
use Rattle.std.proofs.lemmas.Bool.{and_from, and_parts}
use Rattle.term_store.specs.Terms.{at}
use Rattle.ospf_equations.proofs.HoldingSteps.{gives_more}
use Rattle.routing_encoder.proofs.ending.sym_walking.Goals as goal

pub returns-clause-sound : goal.returns-clause-sound
returns-clause-sound c =
    gives_more c.both.new.terms c.both.result _ _
    (λ w r reads is needed holds.
    c.in_ok-broken.ensures.sound w (c.both.ensures.builds.reads w reads) needed
    (and_parts (at w c.in_ok-ending.ending) (at w c.in_ok-broken.broken) (sym is ∙ holds)).1)
    c.both.ensures.value

pub returns-clause-complete : goal.returns-clause-complete
returns-clause-complete c =
    gives_more c.both.new.terms c.both.result _ _
    (λ w r reads is needed walk breaks.
    let r1 = c.both.ensures.builds.reads w reads in
    let r0 = c.sym_breaks.ensures.builds.reads w r1 in
    is ∙ and_from (at w c.in_ok-ending.ending) (at w c.in_ok-broken.broken)
    (c.in_ok-ending.ensures.value w r0 needed walk breaks)
    (c.in_ok-broken.ensures.complete w r1 needed walk breaks))
    c.both.ensures.value
