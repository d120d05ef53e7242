-- What a solver may ask of clauses.
use Rattle.std.specs.Prelude.{◌≡◌, ℕ, Bool, true, not, ◌&&◌, nat_lt, List}
use Rattle.std.specs.List.{list_all}
use Rattle.resolution_check.specs.declared.log.Lit.{Lit}
use Rattle.resolution_check.specs.Entries.{is_empty}
use Rattle.resolution_check.specs.Earned.{vars_differ}
use Rattle.cnf_blaster.specs.declared.Cnf.{Cnf}

-- literals, at least one, of variables below the limit
abbrev pub is_within : ℕ → List Lit → Bool
is_within vars c = not (is_empty c) && list_all (λ l. nat_lt l.var vars) c

-- and none of which has the variable of another
abbrev pub is_fit : ℕ → List Lit → Bool
is_fit vars c = is_within vars c && vars_differ c

-- no clause is empty, none has a variable twice, and all variables are below `vars`
pub record IsProper (cnf : Cnf) : Type 0 where
  pub filled : list_all (λ c. not (is_empty c.lits)) cnf.clauses ≡ true
  pub once : list_all (λ c. vars_differ c.lits) cnf.clauses ≡ true
  pub below : list_all (λ c. list_all (λ l. nat_lt l.var cnf.vars) c.lits) cnf.clauses ≡ true
