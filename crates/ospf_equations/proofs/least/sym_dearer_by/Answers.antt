use Rattle.std.proofs.Common.{◌≡◌, ◌<◌, ◌≤◌, arith, ap, refl, subst, sym, true, ◌∙◌}
use Rattle.std.specs.List.{list_all}
use Rattle.std.proofs.lemmas.List.Elements.{All-weaker}
use Rattle.mw_text.specs.Address.{prefix_at}
use Rattle.net_parts.specs.Ospf.{adjacencies, ospf_interfaces}
use Rattle.net_parts.proofs.Costs.{adjacency_costs}
use Rattle.net_model.proofs.OneSubnet.{one_prefix}
use Rattle.sym_policy.specs.Held.{failures_of}
use Rattle.sym_policy.specs.Records.{address_of}
use Rattle.term_store.specs.Terms.{at}
use Rattle.ospf_equations.specs.Least.{begins_at, none_cheaper}
use Rattle.ospf_equations.specs.Levels.{of_length}
use Rattle.ospf_equations.proofs.LeastLaw.{least_kept}
use Rattle.ospf_equations.proofs.LevelSteps.{implies_true}
use Rattle.ospf_equations.proofs.least.sym_dearer_by.Goals as goal

pub returns-clause-value : goal.returns-clause-value
returns-clause-value c = λ w reads real stand size held.
    let place = c.args.place.now in
    let files = place.net.now.files in
    let least = c.args.least.now in
    let short = c.requires.long in
    let d = address_of w place.dst.now in
    let r1 = c.implies.ensures.builds.reads w reads in
    let r0 = c.sym_all_dear.ensures.builds.reads w r1 in
    let costs = All-weaker (λ a. (0 < a.cost) × (a.cost ≤ 65535)) (λ a. 0 < a.cost) (λ a both. both.0) (adjacencies files)
    (adjacency_costs files c.routers.ensures.limits) in
    let follows : at w c.in_ok-here.here ≡ true → at w c.in_ok-dear.dear ≡ true =
    λ is.
    let one = one_prefix c.args.p.now (prefix_at d place.len) (sym (c.in_ok-here.ensures.value w r0) ∙ is) in
    let begin : list_all (begins_at least (prefix_at d place.len)) (ospf_interfaces files) ≡ true =
    subst (λ q. list_all (begins_at least q) (ospf_interfaces files) ≡ true) one (c.if-not-are_least.ensures.origins refl) in
    c.in_ok-dear.ensures.value w r1 place.net.now.tracked real stand
    ∙ ap (none_cheaper real (of_length place.len) least) c.requires.routers
    ∙ least_kept files (failures_of w place.sym.now) real d place.len size (omega (arith, short)) costs held least
    (c.if-not-are_least.ensures.over refl) begin in
    c.in_ok-so.ensures.value w reads ∙ implies_true (at w c.in_ok-here.here) (at w c.in_ok-dear.dear) follows
