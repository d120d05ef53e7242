use Rattle.std.proofs.Common.{List, sym, subst}
use Rattle.question_lang.specs.declared.question.Kind.TheVariants.{Within}
use Rattle.walk_finder.specs.declared.rows.Row.{Row}
use Rattle.walk_finder.specs.Sought.{AreRows}
use Rattle.walk_finder.proofs.ByKind.{within_begins, within_breaks}
use Rattle.walk_finder.proofs.finding.long_walk.Goals as goal

pub find_hops-requires : goal.find_hops-requires
find_hops-requires c =
    let P : List Row → Type 0 = λ rs. AreRows c.args.net.now.files c.args.world.now (Within c.args.most c.args.start) rs in
    let are = subst P (sym c.as_slice.ensures) c.in_ok-rows.ensures in
    (within_begins c.args.net.now.files c.args.world.now c.args.most c.args.start c.as_slice.result.now are c.requires).1

pub returns : goal.returns
returns c =
    let rows = c.as_slice.result.now in
    let P : List Row → Type 0 = λ rs. AreRows c.args.net.now.files c.args.world.now (Within c.args.most c.args.start) rs in
    let are = subst P (sym c.as_slice.ensures) c.in_ok-rows.ensures in
    let may = (within_begins c.args.net.now.files c.args.world.now c.args.most c.args.start rows are c.requires).0 in
    within_breaks c.args.net.now.files c.args.world.now c.args.most c.args.start rows c.in_ok-walk.walk are may
    c.in_ok-walk.ensures.follows c.in_ok-walk.ensures.long
