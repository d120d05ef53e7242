use Rattle.std.proofs.Common.{sym, ap, subst, ◌∙◌}
use Rattle.std.specs.Prelude.{Contains}
use Rattle.question_lang.specs.declared.walk.Hop.{Hop}
use Rattle.walk_def.proofs.Members.{found-item}
use Rattle.walk_def.specs.Arriving.{leads_to_known}
use Rattle.walk_finder.proofs.Leading.{some_found}
use Rattle.walk_finder.proofs.following.next_in.Goals as goal

pub unreachable-requires : goal.unreachable-requires
unreachable-requires c =
    some_found (leads_to_known c.args.marks.now) c.args.own.now c.requires (sym c.first_leading.ensures ∙ c.in-None.is)

pub iface_of-requires : goal.iface_of-requires
iface_of-requires c end same =
    let item = found-item (leads_to_known c.args.marks.now) c.args.own.now c.in-Some.hop
    (sym c.first_leading.ensures ∙ c.in-Some.is) in
    let leads = ap (leads_to_known c.args.marks.now) (sym same) ∙ item.1 in cc

pub returns-clause-has : goal.returns-clause-has
returns-clause-has c =
    let item = found-item (leads_to_known c.args.marks.now) c.args.own.now c.in-Some.hop
    (sym c.first_leading.ensures ∙ c.in-Some.is) in
    let P : Hop → Type 0 = λ hop. Contains c.args.own.now hop in subst P c.iface_of.ensures item.0

pub returns-clause-marked : goal.returns-clause-marked
returns-clause-marked c =
    let item = found-item (leads_to_known c.args.marks.now) c.args.own.now c.in-Some.hop
    (sym c.first_leading.ensures ∙ c.in-Some.is) in
    ap (leads_to_known c.args.marks.now) (sym c.iface_of.ensures) ∙ item.1
