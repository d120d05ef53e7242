use Rattle.std.proofs.Common.{◌≡◌, ◌||◌, not, true, subst, sym, ap, ◌∙◌}
use Rattle.mw_text.specs.declared.address.Prefix.{Prefix}
use Rattle.mw_text.specs.Address.{prefix_at}
use Rattle.announced_places.specs.Announced.{Ascend}
use Rattle.announced_places.proofs.PlacedThings.{lens_ascend}
use Rattle.slot_places.specs.Rooms.{can_be_used}
use Rattle.bgp_equations.specs.Equations.{is_decided_heard}
use Rattle.shape_worlds.specs.Worlds.{slots_for}
use Rattle.routing_worlds.specs.Worlds.{shape_world_from}
use Rattle.routing_encoder.proofs.DecidedSteps.{decided_is}
use Rattle.routing_encoder.proofs.decided.sym_decided.Goals as goal

pub sym_bgp_holds-requires-clause-ascend : goal.sym_bgp_holds-requires-clause-ascend
sym_bgp_holds-requires-clause-ascend c =
    subst Ascend (sym (c.requires.lens ∙ c.requires.stands.frame.lens)) (lens_ascend c.args.plan.now)

pub returns-clause-value : goal.returns-clause-value
returns-clause-value c = λ w reads from read shapes distances.
    let files = c.args.net.now.files in
    let tracked = c.args.net.now.tracked in
    let question = c.args.question.now in
    let plan = c.args.plan.now in
    let made = c.args.made.now in
    let p = c.args.p in
    let s = shape_world_from files tracked question plan w.variable from in
    let decided = is_decided_heard tracked files s.failures s.environment (slots_for s p.len) p.router
    (prefix_at s.packet.dst p.len) in
    let used : can_be_used files question.packets.dst p.router p.len ≡ true =
    ap (λ (d : Prefix). can_be_used files d p.router p.len) (sym c.requires.stands.destinations)
    ∙ sym c.is_used.ensures ∙ c.if-not-is_used.false in
    c.in_ok-holds-2.ensures.value w reads distances
    ∙ decided_is w files tracked question plan from c.args.terms.now made.routing c.args.tables.now made.slots p
    c.requires.stands read shapes c.requires.lens c.requires.routers c.requires.slots c.requires.short c.requires.place
    ∙ ap (λ b. not b || decided) (sym used)
