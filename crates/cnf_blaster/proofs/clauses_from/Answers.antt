use Rattle.std.proofs.Common.{◌≡◌, ◌∙◌, ℕ, ◌<◌, length, ◌++◌, arith, ap}
use Rattle.term_store.specs.Terms.{size}
use Rattle.cnf_blaster.specs.Cnf.{variable_of, root_clauses, clauses_below}
use Rattle.cnf_blaster.specs.Laws.{marked, number_at}
use Rattle.cnf_blaster.proofs.clauses_from.Goals as goal

pub returns-clause-clauses : goal.returns-clause-clauses
returns-clause-clauses c =
    let var : ℕ → ℕ = variable_of (marked c.args.marks.now) in
    let same : (i : ℕ) → i < size c.args.terms.now → number_at c.as_slice-numbers.result.now i
    ≡ var i = λ i h. ap (λ ns. number_at ns i) c.as_slice-numbers.ensures
    ∙ c.in_ok-numbering.ensures.numbers i (omega arith) in
    let long : length c.as_slice-numbers.result.now ≡ size c.args.terms.now = ap length c.as_slice-numbers.ensures
    ∙ c.in_ok-numbering.ensures.len ∙ c.requires.marks in
    c.in_ok-put_roots.ensures var (λ i h. same i (omega arith))
    ∙ ap (λ r. r ++ root_clauses var c.args.roots.now)
    (c.in_ok-put_nodes.ensures var same
    ∙ ap (λ r. r ++ clauses_below (marked c.args.marks.now) var c.args.terms.now.nodes (size c.args.terms.now))
    c.new-clauses.ensures)
