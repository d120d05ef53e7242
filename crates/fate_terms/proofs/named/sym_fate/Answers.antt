use Rattle.packet_fates.specs.Fates.{HasFate}
use Rattle.std.proofs.Common.{◌≡◌, ◌∙◌, None, Some, length, subst, sym}
use Rattle.std.specs.Prelude.{◌↔◌, true}
use Rattle.std.proofs.lemmas.List.{length-map}
use Rattle.question_lang.specs.declared.question.Kind.TheVariants.{NoBlackHole}
use Rattle.question_lang.specs.Breaking.{at_router}
use Rattle.sym_forwarding.specs.Layers.{loops}
use Rattle.sym_forwarding.specs.Symbolic.{forwarding_of, table_of}
use Rattle.term_arith.specs.Bits.{bits}
use Rattle.term_store.specs.Terms.{at}
use Rattle.fate_terms.specs.Reaching.{AreReached, EndsAmong}
use Rattle.fate_terms.specs.Named.{EndsAmongCalled, KnowsWalks, world_of_walks}
use Rattle.fate_terms.proofs.Naming.{back_fate, called_delivered, called_left, gives_by, gives_fate, lost_fate}
use Rattle.fate_terms.proofs.Walks.{loop_tells, lost_tells}
use Rattle.fate_terms.proofs.named.sym_fate.Goals as goal

pub returns-in-Delivered-clause-value : goal.returns-in-Delivered-clause-value
returns-in-Delivered-clause-value c =
    let walked = c.args.walked.now in
    let files = walked.net.now.files in
    let name = c.as_slice.result.now in
    gives_fate c.sym_called.new.terms c.sym_called.result (λ w. KnowsWalks w walked)
    (λ w. EndsAmongCalled files (world_of_walks w walked) walked.start name None (length files))
    (λ w. HasFate files (world_of_walks w walked) walked.start c.args.fate.now)
    (λ w known. called_delivered files (world_of_walks w walked) walked.start c.in-Delivered.name name c.args.fate.now
    c.as_slice.ensures c.in-Delivered.is) c.sym_called.ensures.value

pub returns-in-Left-clause-value : goal.returns-in-Left-clause-value
returns-in-Left-clause-value c =
    let walked = c.args.walked.now in
    let files = walked.net.now.files in
    let name = c.as_slice-in-Left.result.now in
    gives_fate c.sym_called-in-Left.new.terms c.sym_called-in-Left.result (λ w. KnowsWalks w walked)
    (λ w. EndsAmongCalled files (world_of_walks w walked) walked.start name (Some c.in-Left.addr) (length files))
    (λ w. HasFate files (world_of_walks w walked) walked.start c.args.fate.now)
    (λ w known. called_left files (world_of_walks w walked) walked.start c.in-Left.name name c.in-Left.addr
    c.args.fate.now c.as_slice-in-Left.ensures c.in-Left.is) c.sym_called-in-Left.ensures.value

pub returns-in-BlackHole-clause-value : goal.returns-in-BlackHole-clause-value
returns-in-BlackHole-clause-value c =
    let walked = c.args.walked.now in
    let files = walked.net.now.files in
    gives_by c.sym_ends.new.terms c.sym_ends.result (λ w. KnowsWalks w walked)
    (λ w. HasFate files (world_of_walks w walked) walked.start c.args.fate.now)
    (λ w r. at w r ≡ true
    ↔ EndsAmong (bits w walked.reached.now) (table_of w walked.table.now) (length walked.table.now))
    (λ w r known told.
    let table = table_of w walked.table.now in
    let many : length walked.table.now ≡ length table = sym (length-map walked.table.now (forwarding_of w)) in
    let lost =
    lost_tells files (world_of_walks w walked) walked.start (length walked.table.now) table (bits w walked.reached.now)
    many known.twins
    (subst (λ n. AreReached table walked.start n (bits w walked.reached.now)) many known.reached) in
    let fate = lost_fate files (world_of_walks w walked) walked.start c.args.fate.now c.in-BlackHole.is in
    (λ on. fate.0 (lost.0 (told.0 on)), λ has. told.1 (lost.1 (fate.1 has)))) c.sym_ends.ensures.value

pub returns-in-Loop-clause-value : goal.returns-in-Loop-clause-value
returns-in-Loop-clause-value c =
    let walked = c.args.walked.now in
    let files = walked.net.now.files in
    gives_by c.sym_loops.new.terms c.sym_loops.result (λ w. KnowsWalks w walked)
    (λ w. HasFate files (world_of_walks w walked) walked.start c.args.fate.now)
    (λ w r. at w r ≡ loops (table_of w walked.table.now) walked.start)
    (λ w r known is.
    let back =
    loop_tells files (world_of_walks w walked) walked.start (NoBlackHole (at_router walked.start))
    (table_of w walked.table.now) known.twins in
    let fate = back_fate files (world_of_walks w walked) walked.start c.args.fate.now c.in-Loop.is in
    (λ on. fate.0 (back.1 (sym is ∙ on)), λ has. is ∙ back.0 (fate.1 has))) c.sym_loops.ensures.value
