use Rattle.std.proofs.Common.{List, sym, subst, ◌∙◌}
use Rattle.question_lang.specs.declared.question.Kind.TheVariants.{Reach}
use Rattle.net_parts.proofs.Defined.{none_here}
use Rattle.walk_finder.specs.declared.rows.Row.{Row}
use Rattle.walk_finder.specs.Sought.{AreRows}
use Rattle.walk_finder.proofs.ByKind.{reach_begins, reach_breaks}
use Rattle.walk_finder.proofs.Founds.{found_breaks}
use Rattle.walk_finder.proofs.Leading.{some_none}
use Rattle.walk_finder.proofs.finding.reach_walk.Goals as goal

pub returns-then-is_some : goal.returns-then-is_some
returns-then-is_some c =
    let denied = c.in_ok-denied.denied in
    found_breaks c.args.net.now.files c.args.world.now (Reach c.args.start c.args.target) denied c.in_ok-denied.ensures.some
    (λ walk breaks. breaks c.args.target) (some_none denied (sym c.is_some.ensures ∙ c.if-is_some.true))

pub end_or_round-requires : goal.end_or_round-requires
end_or_round-requires c =
    let P : List Row → Type 0 =
    λ rs. AreRows c.args.net.now.files c.args.world.now (Reach c.args.start c.args.target) rs in
    let are = subst P (sym c.as_slice.ensures) c.in_ok-rows.ensures in
    let none = none_here c.in_ok-denied.denied (sym c.is_some.ensures ∙ c.if-is_some.false) in
    (reach_begins c.args.net.now.files c.args.world.now c.args.start c.args.target c.as_slice.result.now are c.requires
    (c.in_ok-denied.ensures.none none)).1

pub returns : goal.returns
returns c =
    let rows = c.as_slice.result.now in
    let P : List Row → Type 0 =
    λ rs. AreRows c.args.net.now.files c.args.world.now (Reach c.args.start c.args.target) rs in
    let are = subst P (sym c.as_slice.ensures) c.in_ok-rows.ensures in
    let none = none_here c.in_ok-denied.denied (sym c.is_some.ensures ∙ c.if-is_some.false) in
    let may = (reach_begins c.args.net.now.files c.args.world.now c.args.start c.args.target rows are c.requires
    (c.in_ok-denied.ensures.none none)).0 in
    reach_breaks c.args.net.now.files c.args.world.now c.args.start c.args.target rows c.in_ok-walk.walk are may
    c.in_ok-walk.ensures
