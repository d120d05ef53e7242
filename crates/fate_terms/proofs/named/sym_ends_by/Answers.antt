use Rattle.std.proofs.Common.{◌≡◌, ◌∙◌, ◌&&◌, ap, length, subst, sym}
use Rattle.std.proofs.lemmas.List.{length-map}
use Rattle.question_lang.specs.declared.question.Kind.TheVariants.{NoBlackHole}
use Rattle.question_lang.specs.Breaking.{at_router}
use Rattle.sym_forwarding.specs.Symbolic.{forwarding_of, table_of}
use Rattle.sym_walk.specs.TwinTables.{may_end}
use Rattle.term_arith.specs.Bits.{bits}
use Rattle.term_store.specs.Terms.{at}
use Rattle.walk_def.specs.Marks.{known}
use Rattle.fate_terms.specs.Endings.{kind_of}
use Rattle.fate_terms.specs.Named.{ending_by, world_of_walks}
use Rattle.fate_terms.specs.Reaching.{AreReached}
use Rattle.fate_terms.proofs.Walks.{at_router_tells}
use Rattle.fate_terms.proofs.named.sym_ends_by.Goals as goal

pub returns-clause-value : goal.returns-clause-value
returns-clause-value c = λ w reads all.
    let walked = c.args.walked.now in
    let files = walked.net.now.files in
    let world = world_of_walks w walked in
    let table = table_of w walked.table.now in
    let marks = bits w walked.reached.now in
    let made = c.in_ok-made.ensures in
    let many : length walked.table.now ≡ length table = sym (length-map walked.table.now (forwarding_of w)) in
    let kind : c.kind_of-kind.result ≡ kind_of walked.start (ending_by c.args.leaves c.args.router) =
    c.kind_of-kind.ensures ∙ ap (kind_of walked.start) c.ending_by.ensures in
    let ends = c.in_ok-ends.ensures.value w (made.builds.reads w reads) all.needed
    ∙ ap (λ k. may_end files world k c.args.router) kind in
    at_router_tells files world walked.start c.args.leaves c.args.router (NoBlackHole (at_router walked.start)) table marks
    (at w c.in_ok-made.made) all.twins (subst (λ n. AreReached table walked.start n marks) many all.reached)
    c.requires.there
    (made.value w reads ∙ ap (λ b. b && at w c.in_ok-ends.ends) (c.mark_at-mark.ensures.value w)
    ∙ ap (λ b. known marks c.args.router && b) ends)
