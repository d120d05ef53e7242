use Rattle.term_store.specs.Terms.{at}
use Rattle.sym_policy.specs.Routes.{route_at}
use Rattle.sym_policy.proofs.Choices.{chosen_parts}
use Rattle.sym_policy.proofs.routes.choose_route.Goals as goal

pub returns-clause-value : goal.returns-clause-value
returns-clause-value c = λ w reads.
    let before_preferences = c.in_ok-preferences.ensures.builds.reads w reads in
    let before_path = c.in_ok-path.ensures.builds.reads w before_preferences in
    let before_communities = c.in_ok-communities.ensures.builds.reads w before_path in
    chosen_parts (at w c.args.c) (route_at w c.args.a.now) (route_at w c.args.b.now) _ _ _ _
    (c.in_ok-preferences.ensures.value w reads) (c.in_ok-path.ensures.value w before_preferences)
    (c.in_ok-communities.ensures.value w before_path) (c.in_ok-type1.ensures.value w before_communities)
