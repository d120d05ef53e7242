use Rattle.std.proofs.Common.{◌<◌, ◌^◌, ◌∙◌, List, length, ap, subst, arith}
use Rattle.std.specs.List.{list_all}
use Rattle.resolution_check.specs.declared.log.Clause.{Clause}
use Rattle.resolution_check.specs.Clauses.{is_below}
use Rattle.mw_text.proofs.Results.{ok_then, on_err}
use Rattle.resolution_check.specs.Text.{log_text}
use Rattle.mw_outside.specs.Taken.{Takes, TakesPart}
use Rattle.cdcl_search.specs.Outcomes.{input_entries}
use Rattle.cdcl_search.proofs.Logs.{cut_first, cut_none, few_of, small_inputs, unsat_shown}
use Rattle.cdcl_search.proofs.Bound.{unknown_within}
use Rattle.cdcl_search.proofs.solving.solve.Goals as goal

pub returns-in_err-prepare_all-clause-cut : goal.returns-in_err-prepare_all-clause-cut
returns-in_err-prepare_all-clause-cut g c =
    let cnf = c.args.cnf.now in
    on_err _ (cut_none (g.L.Sink.taken c.args.log.now) cnf.vars c.args.budget cnf.clauses _ c.requires.vars
    c.requires.proper.below c.as_slice-clauses.ensures c.as_slice-clauses.type_inv.1)

pub write_inputs-requires : goal.write_inputs-requires
write_inputs-requires g c =
    let cnf = c.args.cnf.now in
    record {
      small = ap (list_all (λ (k : Clause). is_below _ k.lits)) c.as_slice-clauses.ensures
          ∙ small_inputs cnf.vars cnf.clauses c.requires.vars c.requires.proper.below;
    }

pub returns-in_err-write_inputs-clause-cut : goal.returns-in_err-write_inputs-clause-cut
returns-in_err-write_inputs-clause-cut g c =
    let cnf = c.args.cnf.now in
    let part : TakesPart (g.L.Sink.taken c.args.log.now) (g.L.Sink.taken c.write_inputs.new.log)
    (log_text (input_entries 1 c.args.cnf.now.clauses)) =
    subst (λ (cs : List Clause). TakesPart (g.L.Sink.taken c.args.log.now) (g.L.Sink.taken c.write_inputs.new.log)
    (log_text (input_entries 1 cs))) c.as_slice-clauses.ensures c.write_inputs.ensures.part in
    let few : length c.args.cnf.now.clauses < 2 ^ 63 =
    few_of c.as_slice-clauses.ensures c.as_slice-clauses.type_inv.1 in
    on_err _ (cut_first (g.L.Sink.taken c.args.log.now) (g.L.Sink.taken c.write_inputs.new.log) cnf.vars c.args.budget
    cnf.clauses c.requires.vars (omega (arith, few)) c.requires.proper.below part)

pub returns-clause-logged : goal.returns-clause-logged
returns-clause-logged g c =
    let takes : Takes (g.L.Sink.taken c.args.log.now) (g.L.Sink.taken c.write_inputs.new.log)
    (log_text (input_entries 1 c.args.cnf.now.clauses)) =
    subst (λ (cs : List Clause). Takes (g.L.Sink.taken c.args.log.now) (g.L.Sink.taken c.write_inputs.new.log)
    (log_text (input_entries 1 cs))) c.as_slice-clauses.ensures c.in_ok-write_inputs.ensures.takes in
    ok_then c.solve_written.result c.solve_written.ensures.done
    (λ o done. done (g.L.Sink.taken c.args.log.now) takes)

pub returns-clause-unsat : goal.returns-clause-unsat
returns-clause-unsat g c =
    unsat_shown _ _ c.args.cnf.now.clauses c.args.budget _ c.solve_written.result (returns-clause-logged g c)

pub returns-clause-bound : goal.returns-clause-bound
returns-clause-bound g c =
    unknown_within _ _ c.args.cnf.now.vars c.args.cnf.now.clauses c.args.budget _ c.solve_written.result
    c.requires.proper.below (returns-clause-logged g c) c.solve_written.ensures.unknown
