use Rattle.std.proofs.Common.{◌≡◌, List, true, false, sym, ap, subst, ◌∙◌}
use Rattle.std.specs.Prelude.{IfSome}
use Rattle.mw_text.proofs.Numbers.{not_both}
use Rattle.question_lang.specs.declared.question.Kind.{Kind}
use Rattle.question_lang.specs.declared.question.Kind.TheVariants.{Alike}
use Rattle.question_lang.specs.declared.question.Start.{Start}
use Rattle.question_lang.specs.Breaking.{at_router}
use Rattle.sym_forwarding.specs.Layers.{arrives}
use Rattle.net_parts.proofs.Defined.{none_here}
use Rattle.walk_finder.specs.declared.rows.Row.{Row}
use Rattle.walk_finder.specs.Following.{Arrives}
use Rattle.walk_finder.specs.Rows.{table_of}
use Rattle.walk_finder.specs.Sought.{AreRows}
use Rattle.walk_finder.proofs.Founds.{both_some, found_breaks}
use Rattle.walk_finder.proofs.Leading.{some_none}
use Rattle.walk_finder.proofs.Others.{alike_marks, first_breaks, second_breaks}
use Rattle.walk_finder.proofs.finding.alike_walk.Goals as goal

pub returns-then-is_some : goal.returns-then-is_some
returns-then-is_some c =
    let rows = c.as_slice.result.now in
    let found = c.in_ok-first.first in
    let kind : Kind = Alike c.args.a c.args.b c.args.target in
    let A : List Row → Type 0 = λ rs. AreRows c.args.net.now.files c.args.world.now kind rs in
    let are = subst A (sym c.as_slice.ensures) c.in_ok-rows.ensures in
    let P : Start → Type 0 = λ s. IfSome found (Arrives rows s) in
    let Q : Start → Type 0 = λ s. IfSome found (λ walk. arrives (table_of rows) s.router ≡ true) in
    let ends = subst P c.at_router.ensures c.in_ok-first.ensures.some in
    let marked = subst Q c.at_router.ensures c.in_ok-first.ensures.arrives in
    found_breaks c.args.net.now.files c.args.world.now kind found
    (both_some (Arrives rows (at_router c.args.a)) (λ walk. arrives (table_of rows) c.args.a ≡ true) found ends marked)
    (λ walk (there, mark). first_breaks c.args.net.now.files c.args.world.now c.args.a c.args.b c.args.target rows walk are
    c.requires there mark)
    (some_none found (sym c.is_some.ensures ∙ c.if-is_some.true))

pub returns : goal.returns
returns c =
    let rows = c.in_ok-rows.rows in
    let found = c.in_ok-second.second in
    let kind : Kind = Alike c.args.a c.args.b c.args.target in
    let none = none_here c.in_ok-first.first (sym c.is_some.ensures ∙ c.if-is_some.false) in
    let unmarked : arrives (table_of rows) c.args.a ≡ false =
    ap (λ rs. arrives (table_of rs) c.args.a) (sym c.as_slice.ensures)
    ∙ ap (λ s. arrives (table_of c.as_slice.result.now) s.router) (sym c.at_router.ensures)
    ∙ c.in_ok-first.ensures.none none in
    let marked = alike_marks c.args.net.now.files c.args.world.now c.args.a c.args.b c.args.target rows c.in_ok-rows.ensures
    c.requires unmarked in
    let P : Start → Type 0 = λ s. IfSome found (Arrives c.as_slice-2.result.now s) in
    let Q : List Row → Type 0 = λ rs. IfSome found (Arrives rs (at_router c.args.b)) in
    let ends = subst Q c.as_slice-2.ensures (subst P c.at_router-2.ensures c.in_ok-second.ensures.some) in
    found_breaks c.args.net.now.files c.args.world.now kind found ends
    (λ walk there. second_breaks c.args.net.now.files c.args.world.now c.args.a c.args.b c.args.target rows walk
    c.in_ok-rows.ensures there unmarked)
    (λ nothing.
    let missing : arrives (table_of rows) c.args.b ≡ false =
    ap (λ rs. arrives (table_of rs) c.args.b) (sym c.as_slice-2.ensures)
    ∙ ap (λ s. arrives (table_of c.as_slice-2.result.now) s.router) (sym c.at_router-2.ensures)
    ∙ c.in_ok-second.ensures.none nothing in
    not_both (arrives (table_of rows) c.args.b) marked missing)
