use Rattle.std.proofs.Common.{◌≡◌, ◌≤◌, true, refl, length, sym, ap, ◌∙◌, arith, take_all}
use Rattle.std.specs.List.{list_all}
use Rattle.resolution_check.specs.declared.log.Clause.{Clause}
use Rattle.cnf_blaster.specs.Proper.{is_fit}
use Rattle.cnf_blaster.proofs.Properness.{proper-fit}
use Rattle.cnf_blaster.proofs.Cnf.is_proper.Goals as goal

pub returns : goal.returns
returns c =
    let cnf = c.args.self.now in
    let end : length cnf.clauses ≤ c.loop-clause.clause-index =
    omega (arith, ap length c.as_slice-clause-items.ensures) in
    let all = list_all (λ (k : Clause). is_fit cnf.vars k.lits) in
    (λ _. proper-fit cnf (ap all (sym (take_all _ cnf.clauses end)) ∙ c.loop-clause.invariant), λ h. refl)
