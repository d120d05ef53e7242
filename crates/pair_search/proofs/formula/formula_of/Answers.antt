use Rattle.pair_search.proofs.formula.formula_of.Goals as goal

pub returns-clause-formula : goal.returns-clause-formula
returns-clause-formula c = record {
  encoding = c.in_ok-encoding.ensures;
  clauses = c.in_ok-cnf.ensures.clauses;
  nodes = c.in_ok-cnf.ensures.nodes;
  count = c.in_ok-cnf.ensures.vars;
  proper = c.in_ok-cnf.ensures.proper;
  equal = c.in_ok-cnf.ensures.equal;
}
