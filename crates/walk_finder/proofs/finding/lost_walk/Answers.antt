use Rattle.std.proofs.Common.{List, sym, subst}
use Rattle.mw_text.proofs.Numbers.{not_both}
use Rattle.question_lang.specs.declared.question.Kind.{Kind}
use Rattle.question_lang.specs.declared.question.Kind.TheVariants.{NoBlackHole}
use Rattle.sym_forwarding.specs.Layers.{arrives}
use Rattle.walk_finder.specs.declared.rows.Row.{Row}
use Rattle.walk_finder.specs.Rows.{table_of}
use Rattle.walk_finder.specs.Sought.{AreRows}
use Rattle.walk_finder.proofs.ByKind.{lost_begins, lost_breaks}
use Rattle.walk_finder.proofs.Founds.{found_breaks}
use Rattle.walk_finder.proofs.finding.lost_walk.Goals as goal

pub returns : goal.returns
returns c =
    let files = c.args.net.now.files in
    let world = c.args.world.now in
    let rows = c.as_slice.result.now in
    let kind : Kind = NoBlackHole c.args.start in
    let P : List Row → Type 0 = λ rs. AreRows files world kind rs in
    let are = subst P (sym c.as_slice.ensures) c.in_ok-rows.ensures in
    let (may, marked) = lost_begins files world c.args.start rows are c.requires in
    found_breaks files world kind c.in_ok-found.found c.in_ok-found.ensures.some
    (λ walk ends. lost_breaks files world c.args.start rows walk are may ends)
    (λ none. not_both (arrives (table_of rows) c.args.start.router) marked (c.in_ok-found.ensures.none none))
