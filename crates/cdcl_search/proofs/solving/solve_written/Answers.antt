use Rattle.std.proofs.Common.{◌≡◌, ℕ, ◌+◌, ◌<◌, ◌^◌, ◌∙◌, List, Option, length, take, refl, ap, ap₂, sym, subst}
use Rattle.std.specs.List.{list_all}
use Rattle.resolution_check.specs.declared.log.Clause.{Clause}
use Rattle.resolution_check.specs.Clauses.{is_below}
use Rattle.resolution_check.specs.Text.{log_text}
use Rattle.mw_outside.specs.Taken.{Takes}
use Rattle.mw_text.proofs.Results.{err_then, ok_then, on_err}
use Rattle.clause_arena.specs.Held.{clauses}
use Rattle.watched_search.specs.Starts.{numbered_from}
use Rattle.cdcl_search.specs.Outcomes.{IsCut, input_entries}
use Rattle.cdcl_search.proofs.Logs.{cut_inputs}
use Rattle.cdcl_search.proofs.Ready.{going_held, ready_start, refuted_cut, refuted_done, refuted_text}
use Rattle.cdcl_search.proofs.Ready.{sat_inputs}
use Rattle.cdcl_search.proofs.solving.solve_written.Goals as goal

pub returns-in_err-work-clause-cut : goal.returns-in_err-work-clause-cut
returns-in_err-work-clause-cut g c =
    let cnf = c.args.cnf.now in
    on_err _ (cut_inputs _ cnf.vars c.args.budget cnf.clauses c.requires.vars c.requires.few c.requires.proper.below)

pub returns-in_err-arena-clause-cut : goal.returns-in_err-arena-clause-cut
returns-in_err-arena-clause-cut g c =
    let cnf = c.args.cnf.now in
    on_err _ (cut_inputs _ cnf.vars c.args.budget cnf.clauses c.requires.vars c.requires.few c.requires.proper.below)

pub returns-in_err-assigned-clause-cut : goal.returns-in_err-assigned-clause-cut
returns-in_err-assigned-clause-cut g c =
    let cnf = c.args.cnf.now in
    on_err _ (cut_inputs _ cnf.vars c.args.budget cnf.clauses c.requires.vars c.requires.few c.requires.proper.below)

pub returns-in_err-conflict-clause-cut : goal.returns-in_err-conflict-clause-cut
returns-in_err-conflict-clause-cut g c =
    let cnf = c.args.cnf.now in
    on_err _ (cut_inputs _ cnf.vars c.args.budget cnf.clauses c.requires.vars c.requires.few c.requires.proper.below)

pub hold_inputs-requires-clause-below : goal.hold_inputs-requires-clause-below
hold_inputs-requires-clause-below g c =
    ap₂ (λ n (cs : List Clause). list_all (λ (k : Clause). is_below n k.lits) cs) c.in_ok-arena.ensures.vars
    c.as_slice-inputs.ensures ∙ c.requires.proper.below

pub log_lesson-requires : goal.log_lesson-requires
log_lesson-requires g c =
    let cnf = c.args.cnf.now in
    let w = c.refute.new.work in
    let f = c.in_ok-conflict.ensures.front in
    refuted_text cnf.vars (length c.as_slice-inputs.result.now + 1) f.0 cnf.clauses c.hold_inputs.new.arena
    c.hold_inputs.new.assigned.lits w.lits w.chain
    (record {
      filled = c.requires.proper.filled;
      below = c.requires.proper.below;
      small = c.requires.vars;
      few = c.requires.few;
    })
    (f.1 ∙ ap (λ (cs : List Clause). numbered_from 1 (take f.0 cs)) c.as_slice-inputs.ensures) c.refute.ensures.lesson
    c.refute.ensures.empty (ap (λ (cs : List Clause). length cs + 1) c.as_slice-inputs.ensures)

pub returns-in_err-log_lesson-clause-cut : goal.returns-in_err-log_lesson-clause-cut
returns-in_err-log_lesson-clause-cut g c =
    let cnf = c.args.cnf.now in
    let w = c.refute.new.work in
    let f = c.in_ok-conflict.ensures.front in
    let cuts : (before : Option (List ℕ))
    → Takes before (g.L.Sink.taken c.args.log.now) (log_text (input_entries 1 c.args.cnf.now.clauses))
    → IsCut before (g.L.Sink.taken c.log_lesson.new.log) c.args.cnf.now.clauses c.args.budget =
    λ before takes. refuted_cut cnf.vars (length c.as_slice-inputs.result.now + 1) f.0 cnf.clauses
    c.hold_inputs.new.arena c.hold_inputs.new.assigned.lits w.lits w.chain
    (record {
      filled = c.requires.proper.filled;
      below = c.requires.proper.below;
      small = c.requires.vars;
      few = c.requires.few;
    })
    (f.1 ∙ ap (λ (cs : List Clause). numbered_from 1 (take f.0 cs)) c.as_slice-inputs.ensures) c.refute.ensures.lesson
    c.refute.ensures.empty (ap (λ (cs : List Clause). length cs + 1) c.as_slice-inputs.ensures)
    (g.L.Sink.taken c.args.log.now) (g.L.Sink.taken c.log_lesson.new.log) before c.args.budget c.requires.budget _
    c.requires.untold takes c.log_lesson.ensures.part in
    on_err _ cuts

pub returns-in-Some-clause-done : goal.returns-in-Some-clause-done
returns-in-Some-clause-done g c =
    let cnf = c.args.cnf.now in
    let w = c.refute.new.work in
    let f = c.in_ok-conflict.ensures.front in
    λ before takes. refuted_done cnf.vars (length c.as_slice-inputs.result.now + 1) f.0 cnf.clauses
    c.hold_inputs.new.arena c.hold_inputs.new.assigned.lits w.lits w.chain
    (record {
      filled = c.requires.proper.filled;
      below = c.requires.proper.below;
      small = c.requires.vars;
      few = c.requires.few;
    })
    (f.1 ∙ ap (λ (cs : List Clause). numbered_from 1 (take f.0 cs)) c.as_slice-inputs.ensures) c.refute.ensures.lesson
    c.refute.ensures.empty (ap (λ (cs : List Clause). length cs + 1) c.as_slice-inputs.ensures)
    (g.L.Sink.taken c.args.log.now) (g.L.Sink.taken c.log_lesson.new.log) before c.args.budget c.requires.budget _
    c.requires.untold takes _ c.in_ok-log_lesson.ensures.tells c.in_ok-log_lesson.ensures.takes

pub search-requires-clause-ready : goal.search-requires-clause-ready
search-requires-clause-ready g c =
    let h = c.in_ok-conflict.ensures in
    ready_start c.hold_inputs.new.arena c.hold_inputs.new.assigned c.as_slice-inputs.result.now
    (length c.as_slice-inputs.result.now + 1) h.vars h.trail (h.kept c.in_default.is) (h.above c.in_default.is)
    (h.clauses c.in_default.is) refl
    (subst (λ (cs : List Clause). length cs < 2 ^ 63) (sym c.as_slice-inputs.ensures) c.requires.few)

pub returns-clause-done : goal.returns-clause-done
returns-clause-done g c =
    let cnf = c.args.cnf.now in
    let is : clauses c.hold_inputs.new.arena ≡ numbered_from 1 c.args.cnf.now.clauses =
    c.in_ok-conflict.ensures.clauses c.in_default.is ∙ ap (numbered_from 1) c.as_slice-inputs.ensures in
    ok_then c.search.result c.search.ensures.done (λ o logs. λ before takes. logs before cnf.clauses
    (going_held before (g.L.Sink.taken c.args.log.now) cnf.vars cnf.clauses c.hold_inputs.new.arena
    (length c.as_slice-inputs.result.now + 1)
    (record {
      filled = c.requires.proper.filled;
      below = c.requires.proper.below;
      small = c.requires.vars;
      few = c.requires.few;
    })
    is (ap (λ (cs : List Clause). length cs + 1) c.as_slice-inputs.ensures) _ c.requires.untold takes))

pub returns-clause-sat : goal.returns-clause-sat
returns-clause-sat g c =
    let is : clauses c.hold_inputs.new.arena ≡ numbered_from 1 c.args.cnf.now.clauses =
    c.in_ok-conflict.ensures.clauses c.in_default.is ∙ ap (numbered_from 1) c.as_slice-inputs.ensures in
    ok_then c.search.result c.search.ensures.sat
    (λ o s. sat_inputs c.hold_inputs.new.arena c.args.cnf.now.clauses is o s)

pub returns-clause-cut : goal.returns-clause-cut
returns-clause-cut g c =
    let cnf = c.args.cnf.now in
    let is : clauses c.hold_inputs.new.arena ≡ numbered_from 1 c.args.cnf.now.clauses =
    c.in_ok-conflict.ensures.clauses c.in_default.is ∙ ap (numbered_from 1) c.as_slice-inputs.ensures in
    err_then c.search.result c.search.ensures.cut (λ cuts. λ before takes. cuts before cnf.clauses
    (going_held before (g.L.Sink.taken c.args.log.now) cnf.vars cnf.clauses c.hold_inputs.new.arena
    (length c.as_slice-inputs.result.now + 1)
    (record {
      filled = c.requires.proper.filled;
      below = c.requires.proper.below;
      small = c.requires.vars;
      few = c.requires.few;
    })
    is (ap (λ (cs : List Clause). length cs + 1) c.as_slice-inputs.ensures) _ c.requires.untold takes))
