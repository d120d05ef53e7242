use Rattle.std.proofs.Common.{◌≡◌, ◌∙◌, ℕ, Bool, true, List, ◌↔◌, ap, subst, IfOk, Result, Ok, Err, length}
use Rattle.std.proofs.lemmas.Result.{IfOk-weaker}
use Rattle.resolution_check.specs.Entries.{satisfies}
use Rattle.cnf_blaster.specs.Cnf.{reached, clauses_by, members}
use Rattle.cnf_blaster.specs.Laws.{marked}
use Rattle.term_store.specs.Terms.{size}
use Rattle.cnf_blaster.specs.Cnf.{clauses_of, nodes_of}
use Rattle.cnf_blaster.specs.Proper.{IsProper}
use Rattle.cnf_blaster.specs.Meaning.{roots_value, DecodesTrue, encoded, IsSatisfiable, CanBeTrue}
use Rattle.cnf_blaster.proofs.Properness.{proper}
use Rattle.cnf_blaster.proofs.Valuations.{decodes, encodes, equal}
use Rattle.cnf_blaster.proofs.blast.Goals as goal

-- what follows of a result from two facts of it, and from three
from_two : {X E : Type 0} (r : Result X E) (P Q S : X → Type 0) → ((x : X) → P x → Q x → S x) → IfOk r P → IfOk r Q
    → IfOk r S
from_two (Ok x) P Q S step p q = step x p q
from_two (Err e) P Q S step p q = tt

from_three : {X E : Type 0} (r : Result X E) (P Q R S : X → Type 0) → ((x : X) → P x → Q x → R x → S x) → IfOk r P
    → IfOk r Q → IfOk r R → IfOk r S
from_three (Ok x) P Q R S step p q t = step x p q t
from_three (Err e) P Q R S step p q t = tt

pub returns-clause-clauses : goal.returns-clause-clauses
returns-clause-clauses c =
    let e : marked c.as_slice.result.now
    ≡ reached c.args.terms.now.nodes c.args.roots.now = ap marked c.as_slice.ensures
    ∙ c.in_ok-marks.ensures.marks in
    subst
    (λ t. IfOk c.clauses_from.result (λ cnf. cnf.clauses ≡ clauses_by t c.args.terms.now.nodes c.args.roots.now)) e
    c.clauses_from.ensures.clauses

pub returns-clause-nodes : goal.returns-clause-nodes
returns-clause-nodes c =
    let e : marked c.as_slice.result.now
    ≡ reached c.args.terms.now.nodes c.args.roots.now = ap marked c.as_slice.ensures
    ∙ c.in_ok-marks.ensures.marks in
    subst
    (λ t. IfOk c.clauses_from.result (λ cnf. cnf.node_of ≡ members t (size c.args.terms.now))) e
    c.clauses_from.ensures.nodes

pub returns-clause-proper : goal.returns-clause-proper
returns-clause-proper c =
    let nodes = c.args.terms.now.nodes in
    let roots = c.args.roots.now in
    from_three c.clauses_from.result (λ cnf. cnf.clauses ≡ clauses_of nodes roots)
    (λ cnf. cnf.node_of ≡ nodes_of nodes roots) (λ cnf. cnf.vars ≡ length cnf.node_of) (λ cnf. IsProper cnf)
    (λ cnf clauses node_of vars. proper nodes c.args.terms.now.vars roots cnf c.stands_in_order.ensures.sound
    c.requires clauses (vars ∙ ap length node_of))
    (returns-clause-clauses c) (returns-clause-nodes c) c.clauses_from.ensures.vars

pub returns-clause-decodes : goal.returns-clause-decodes
returns-clause-decodes c =
    let nodes = c.args.terms.now.nodes in
    let roots = c.args.roots.now in
    from_two c.clauses_from.result (λ cnf. cnf.clauses ≡ clauses_of nodes roots)
    (λ cnf. cnf.node_of ≡ nodes_of nodes roots)
    (λ cnf. (v : ℕ → Bool) → satisfies v cnf.clauses ≡ true → DecodesTrue nodes roots cnf.node_of v)
    (λ cnf clauses node_of. rw (clauses, node_of)
    (decodes c.args.terms.now roots c.stands_in_order.ensures.sound c.requires c.stands_in_order.ensures.once))
    (returns-clause-clauses c) (returns-clause-nodes c)

pub returns-clause-encodes : goal.returns-clause-encodes
returns-clause-encodes c =
    let nodes = c.args.terms.now.nodes in
    let roots = c.args.roots.now in
    from_two c.clauses_from.result (λ cnf. cnf.clauses ≡ clauses_of nodes roots)
    (λ cnf. cnf.node_of ≡ nodes_of nodes roots)
    (λ cnf. (valuation : List Bool) → roots_value nodes roots valuation ≡ true
    → satisfies (encoded nodes cnf.node_of valuation) cnf.clauses ≡ true)
    (λ cnf clauses node_of. rw (clauses, node_of)
    (encodes c.args.terms.now roots c.stands_in_order.ensures.sound c.requires))
    (returns-clause-clauses c) (returns-clause-nodes c)

pub returns-clause-equal : goal.returns-clause-equal
returns-clause-equal c =
    let nodes = c.args.terms.now.nodes in
    let roots = c.args.roots.now in
    IfOk-weaker c.clauses_from.result (λ cnf. cnf.clauses ≡ clauses_of nodes roots)
    (λ cnf. IsSatisfiable cnf.clauses ↔ CanBeTrue nodes roots)
    (λ cnf clauses. rw clauses
    (equal c.args.terms.now roots c.stands_in_order.ensures.sound c.requires c.stands_in_order.ensures.once))
    (returns-clause-clauses c)
