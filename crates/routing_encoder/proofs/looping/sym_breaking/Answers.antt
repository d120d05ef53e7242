use Rattle.std.proofs.Common.{length, subst, sym, ◌∙◌}
use Rattle.std.proofs.lemmas.Bool.{and_from, and_parts}
use Rattle.plan_places.specs.Plans.{lens_of}
use Rattle.sym_rib.specs.Worlds.{StandForTables}
use Rattle.term_store.specs.Terms.{at}
use Rattle.ospf_equations.proofs.HoldingSteps.{gives_more}
use Rattle.routing_encoder.proofs.looping.sym_breaking.Goals as goal

pub returns-clause-sound : goal.returns-clause-sound
returns-clause-sound c =
    gives_more c.both.new.terms c.both.result _ _
    (λ w r reads is needed holds.
    c.in_ok-broken.ensures.sound w (c.both.ensures.builds.reads w reads) needed
    (and_parts (at w c.in_ok-broken.broken) (at w c.in_ok-beyond.beyond) (sym is ∙ holds)).0)
    c.both.ensures.value

pub returns-clause-complete : goal.returns-clause-complete
returns-clause-complete c =
    gives_more c.both.new.terms c.both.result _ _
    (λ w r reads is needed walk breaks tracked real environment stand stable really.
    let r1 = c.both.ensures.builds.reads w reads in
    let r0 = c.sym_walking.ensures.builds.reads w r1 in
    is ∙ and_from (at w c.in_ok-broken.broken) (at w c.in_ok-beyond.beyond)
    (c.in_ok-broken.ensures.complete w r1 needed walk breaks)
    (c.in_ok-beyond.ensures.value w r0 tracked (lens_of c.args.world.now.plan) real environment walk
    (subst (λ xs. StandForTables w tracked (lens_of c.args.world.now.plan) (length c.args.net.now.files) xs real.tables)
    (sym c.as_slice.ensures) stand) stable really))
    c.both.ensures.value

pub returns-then-is_never-clause-complete : goal.returns-then-is_never-clause-complete
returns-then-is_never-clause-complete c = λ w reads needed walk breaks tracked real environment stand stable really.
    c.in_ok-beyond.ensures.value w reads tracked (lens_of c.args.world.now.plan) real environment walk
    (subst (λ xs. StandForTables w tracked (lens_of c.args.world.now.plan) (length c.args.net.now.files) xs real.tables)
    (sym c.as_slice.ensures) stand) stable really
