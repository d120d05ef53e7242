use Rattle.std.proofs.Common.{◌≡◌, ℕ, true, List, ◌∷◌, [], inl, inr, refl, sym, ap, subst, ◌∙◌}
use Rattle.resolution_check.specs.declared.log.Lit.{Lit}
use Rattle.resolution_check.specs.Clauses.{has}
use Rattle.resolution_check.specs.Trails.{holds, fails}
use Rattle.watched_search.specs.Trails.{last_level}
use Rattle.watched_search.proofs.Settled.{free_of}
use Rattle.watched_search.proofs.Starts.{last_push, only_has, only_is}
use Rattle.watched_search.proofs.Visits.{holds_last}
use Rattle.watched_search.proofs.Walks.{extends_same}
use Rattle.watched_search.proofs.starting.make_true.Goals as goal

pub returns-then-is_true-clause-extends : goal.returns-then-is_true-clause-extends
returns-then-is_true-clause-extends c = extends_same c.args.assigned.now.lits

pub returns-then-is_false-clause-extends : goal.returns-then-is_false-clause-extends
returns-then-is_false-clause-extends c = extends_same c.args.assigned.now.lits

pub returns-then-is_false-clause-conflict : goal.returns-then-is_false-clause-conflict
returns-then-is_false-clause-conflict c =
    let ls = c.args.assigned.now.lits in
    let l = c.args.lit in (
      c.requires.held,
      λ k h.
          (let e : k ≡ l = only_is k l (sym (ap (λ d. has d k) c.requires.only) ∙ h) in
          ap (fails ls) e ∙ sym c.is_false.ensures ∙ c.if-is_false.true),
    )

pub assign-requires-clause-free : goal.assign-requires-clause-free
assign-requires-clause-free c =
    free_of c.args.assigned.now.lits c.args.lit (sym c.is_false.ensures ∙ c.if-is_false.false)
    (sym c.is_true.ensures ∙ c.if-is_true.false)

pub assign-requires-clause-may : goal.assign-requires-clause-may
assign-requires-clause-may c =
    inr (record {
      clause = c.args.clause;
      is = refl;
      forced = record {
        held = c.requires.held;
        inside = ap (λ d. has d c.args.lit) c.requires.only ∙ only_has c.args.lit;
        others = λ k h. inl (only_is k c.args.lit (sym (ap (λ d. has d k) c.requires.only) ∙ h));
      };
      same_level = c.level-level.ensures;
    })

pub returns-clause-extends : goal.returns-clause-extends
returns-clause-extends c = record { more = c.args.lit ∷ []; is = c.assign.ensures.lits }

pub returns-clause-level : goal.returns-clause-level
returns-clause-level c =
    ap (λ (ns : List ℕ). last_level ns) c.assign.ensures.levels
    ∙ last_push c.args.assigned.now.levels c.level-level.result ∙ c.level-level.ensures

pub returns-clause-holds : goal.returns-clause-holds
returns-clause-holds c = λ none.
    subst (λ (xs : List Lit). holds xs c.args.lit ≡ true) (sym c.assign.ensures.lits)
    (holds_last c.args.assigned.now.lits c.args.lit
    (free_of c.args.assigned.now.lits c.args.lit (sym c.is_false.ensures ∙ c.if-is_false.false)
    (sym c.is_true.ensures ∙ c.if-is_true.false)))
