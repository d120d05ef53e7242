-- Two networks as clauses.
use Rattle.std.specs.Prelude.{◌≡◌, ◌↔◌, [], ◌∷◌, length}
use Rattle.cnf_blaster.specs.Cnf.{clauses_of, nodes_of}
use Rattle.cnf_blaster.specs.Meaning.{CanBeTrue, IsSatisfiable}
use Rattle.cnf_blaster.specs.Proper.{IsProper}
use Rattle.compared_terms.specs.Compared.{IsComparison}
use Rattle.net_model.specs.Kept.{Network}
use Rattle.same_asks.specs.declared.same.Same.{Same}
use Rattle.pair_search.specs.declared.formula.PairFormula.{PairFormula}

-- the terms encode what makes the networks answer the ask differently, and the clauses are those of the root
pub record IsPairFormula (left right : Network) (ask : Same) (formula : PairFormula) : Type 0 where
  pub encoding : IsComparison left right ask formula.encoding
  pub clauses : formula.cnf.clauses ≡ clauses_of formula.encoding.terms.nodes (formula.encoding.root ∷ [])
  pub nodes : formula.cnf.node_of ≡ nodes_of formula.encoding.terms.nodes (formula.encoding.root ∷ [])
  pub count : formula.cnf.vars ≡ length formula.cnf.node_of
  pub proper : IsProper formula.cnf
  pub equal : IsSatisfiable formula.cnf.clauses ↔ CanBeTrue formula.encoding.terms.nodes (formula.encoding.root ∷ [])
