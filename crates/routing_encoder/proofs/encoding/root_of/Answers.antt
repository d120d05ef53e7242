use Rattle.std.proofs.Common.{ap, arith, length, subst, sym, ◌∙◌}
use Rattle.std.proofs.lemmas.Bool.{and_from, and_parts}
use Rattle.route_record.specs.declared.World.{World}
use Rattle.plan_places.specs.Plans.{lens_of}
use Rattle.question_lang.specs.Breaking.{Breaks}
use Rattle.term_store.specs.Terms.{at}
use Rattle.shape_worlds.specs.Worlds.{ShapeWorld}
use Rattle.routing_worlds.specs.Worlds.{world_from}
use Rattle.routing_worlds.proofs.RoutingSound.{shapes_are}
use Rattle.bgp_equations.specs.Equations.{HaveTracked}
use Rattle.routing_encoder.proofs.OpeningSteps.{places_are}
use Rattle.routing_encoder.proofs.RootSteps.{distances_needed, distances_said, has_environment, needed_by, stands_as, stands_world, whole_is, world_nodes, world_slots}
use Rattle.routing_encoder.proofs.WantedSteps.{stand_read}
use Rattle.routing_encoder.proofs.encoding.root_of.Goals as goal

pub sym_breaking-requires-clause-slots : goal.sym_breaking-requires-clause-slots
sym_breaking-requires-clause-slots c =
    world_slots c.args.net.now.files c.args.net.now.tracked c.args.question.now c.args.plan c.args.terms.now
    c.args.made.routing c.args.made.slots c.settled-opened.result.world c.requires.stands c.requires.long
    c.settled-opened.ensures.slots c.settled-opened.ensures.plan

pub sym_breaking-requires-clause-nodes : goal.sym_breaking-requires-clause-nodes
sym_breaking-requires-clause-nodes c =
    world_nodes c.args.net.now.files c.args.net.now.tracked c.args.question.now c.args.plan c.args.terms.now
    c.sym_possible.new.terms c.args.made.routing c.args.made.slots c.settled-opened.result.world c.requires.stands
    c.requires.within c.sym_possible.ensures.builds.larger c.settled-opened.ensures.packet c.settled-opened.ensures.net
    c.settled-opened.ensures.slots

pub returns-clause-stands : goal.returns-clause-stands
returns-clause-stands c =
    let a = c.sym_possible.ensures.builds.larger in
    let b = c.sym_breaking.ensures.builds.larger in
    let d = c.both.ensures.builds.larger in record {
      slots = world_slots c.args.net.now.files c.args.net.now.tracked c.args.question.now c.args.plan c.args.terms.now
          c.args.made.routing c.args.made.slots c.settled-opened.result.world c.requires.stands c.requires.long
          c.settled-opened.ensures.slots c.settled-opened.ensures.plan;
      nodes = world_nodes c.args.net.now.files c.args.net.now.tracked c.args.question.now c.args.plan c.args.terms.now
          c.both.new.terms c.args.made.routing c.args.made.slots c.settled-opened.result.world c.requires.stands
          c.requires.within (omega (arith, a, b, d)) c.settled-opened.ensures.packet c.settled-opened.ensures.net
          c.settled-opened.ensures.slots;
      rows = subst (HaveTracked c.args.net.now.tracked) (sym c.settled-opened.ensures.slots) c.requires.rows;
    }

pub returns-clause-outside : goal.returns-clause-outside
returns-clause-outside c =
    let a = c.sym_possible.ensures.builds.larger in
    let b = c.sym_breaking.ensures.builds.larger in
    let d = c.both.ensures.builds.larger in
    has_environment c.args.net.now.files c.args.net.now.tracked c.args.question.now c.args.plan c.args.terms.now
    c.both.new.terms c.args.made.routing c.settled-opened.result.env c.requires.stands (omega (arith, a, b, d))
    c.settled-opened.ensures.env

pub returns-clause-world : goal.returns-clause-world
returns-clause-world c = λ w reads from read shapes.
    let made = c.args.made.routing in
    let world = c.settled-opened.result.world in
    stands_world w c.args.net.now.files c.args.net.now.tracked c.args.question.now c.args.plan from c.args.terms.now made
    c.args.made.slots c.requires.stands read c.requires.long shapes world c.settled-opened.result.env c.settled-opened.ensures.packet
    c.settled-opened.ensures.net c.settled-opened.ensures.slots c.settled-opened.ensures.env

pub returns-clause-distances : goal.returns-clause-distances
returns-clause-distances c = λ w reads from read shapes holds.
    let files = c.args.net.now.files in
    let made = c.args.made.routing in
    let slots = c.args.made.slots in
    let r2 = c.both.ensures.builds.reads w reads in
    let r1 = c.sym_breaking.ensures.builds.reads w r2 in
    let parts = and_parts (at w c.in_ok-routing.routing) (at w c.in_ok-broken.broken)
    (sym (c.in_ok-root.ensures.value w reads) ∙ holds) in
    needed_by w files made.net c.settled-opened.result.world slots c.settled-opened.ensures.net
    c.settled-opened.ensures.slots
    (distances_needed w files c.args.net.now.tracked c.args.question.now c.args.plan from c.args.terms.now made slots
    c.requires.stands read c.requires.long shapes (c.in_ok-routing.ensures.distances w r1 parts.0))

pub returns-clause-value : goal.returns-clause-value
returns-clause-value c = λ w reads from read shapes.
    let files = c.args.net.now.files in
    let tracked = c.args.net.now.tracked in
    let question = c.args.question.now in
    let plan = c.args.plan in
    let made = c.args.made.routing in
    let slots = c.args.made.slots in
    let t = c.args.terms.now in
    let world = c.settled-opened.result.world in
    let r2 = c.both.ensures.builds.reads w reads in
    let r1 = c.sym_breaking.ensures.builds.reads w r2 in
    let root = c.in_ok-root.ensures.value w reads in
    let long = c.requires.long ∙ ap length (places_are files tracked plan made.frame c.requires.stands.frame) in
    let needed = needed_by w files made.net world slots c.settled-opened.ensures.net c.settled-opened.ensures.slots in
    let whole = whole_is w files tracked question plan from t made slots c.requires.stands read c.requires.long shapes world
    in
    record {
      sound = λ fits holds.
          let parts = and_parts (at w c.in_ok-routing.routing) (at w c.in_ok-broken.broken) (sym root ∙ holds) in
          let routing = c.in_ok-routing.ensures.sound w r1 from read shapes fits parts.0 in
          let given = c.in_ok-routing.ensures.distances w r1 parts.0 in
          let found = c.in_ok-broken.ensures.sound w r2
          (needed (distances_needed w files tracked question plan from t made slots c.requires.stands read
          c.requires.long shapes given)) parts.1 in
          let real = world_from files tracked question plan w.variable from in
          let same = shapes_are files tracked question plan w.variable from fits routing in
          let stand = stand_read w files tracked question plan from real.tables
          (ap (λ (s : ShapeWorld). s.slots) same) slots shapes long in
          let seen = whole real c.settled-opened.ensures.packet c.settled-opened.ensures.net c.settled-opened.ensures.slots
          c.settled-opened.ensures.plan (ap (λ (s : ShapeWorld). s.packet) same)
          (ap (λ (s : ShapeWorld). s.failures) same) in
          let P : World → Type 0 = λ x. Breaks files x question.kind found.0 in (
            routing,
            (
              found.0,
              c.tables_law.ensures.only w tracked (lens_of plan) (length files) slots real stand files
                  question.kind found.0 (subst P seen found.1),
            ),
          );
      complete = λ fits other environment walk same routing say stable breaks.
          let to_failures = sym (ap (λ (s : ShapeWorld). s.failures) same) in
          let given = distances_said w files tracked question plan from t made slots c.requires.stands read
          c.requires.long shapes other say to_failures in
          let stand = stand_read w files tracked question plan from other.tables
          (sym (ap (λ (s : ShapeWorld). s.slots) same)) slots shapes long in
          let seen = whole other c.settled-opened.ensures.packet c.settled-opened.ensures.net c.settled-opened.ensures.slots
          c.settled-opened.ensures.plan (sym (ap (λ (s : ShapeWorld). s.packet) same)) to_failures in
          let P : World → Type 0 = λ x. Breaks files x question.kind walk in
          root ∙ and_from (at w c.in_ok-routing.routing) (at w c.in_ok-broken.broken)
          (c.in_ok-routing.ensures.complete w r1 from read shapes fits routing given tracked (lens_of plan) other environment
          walk stand stable breaks)
          (c.in_ok-broken.ensures.complete w r2
          (needed (distances_needed w files tracked question plan from t made slots c.requires.stands read
          c.requires.long shapes given)) walk
          (subst P (sym seen) (c.tables_law.ensures.breaks w tracked (lens_of plan) (length files) slots other stand files
          question.kind walk breaks)) tracked other environment
          (stands_as w files tracked plan slots other.tables world c.settled-opened.ensures.plan
          c.settled-opened.ensures.slots stand) stable breaks);
    }
