use Rattle.std.proofs.Common.{◌≡◌, ℕ, ◌+◌, ◌∙◌, List, Option, ap, length, map, refl, sym, subst, arith, add-zero}
use Rattle.std.proofs.lemmas.List.{length-map}
use Rattle.std.specs.Prelude.{IfSome}
use Rattle.term_store.specs.Terms.{truth}
use Rattle.resolution_check.specs.declared.log.Clause.{Clause}
use Rattle.mw_text.proofs.Results.{on_err}
use Rattle.clause_arena.specs.Held.{held_in}
use Rattle.watched_search.specs.Sets.{GivesSets}
use Rattle.watched_search.proofs.Inputs.{clause_given}
use Rattle.watched_search.proofs.Starts.{held_below}
use Rattle.watched_search.proofs.Sets.{gives_then, view_sets}
use Rattle.cdcl_search.specs.Outcomes.{IsCut, IsLogged}
use Rattle.cdcl_search.specs.Turns.{IsTurn}
use Rattle.cdcl_search.specs.Going.{GoesOn, IsGoing, IsReady}
use Rattle.cdcl_search.specs.declared.outcome.Outcome.TheVariants.{Sat}
use Rattle.cdcl_search.proofs.Bumps.{tolds_long}
use Rattle.cdcl_search.proofs.Logs.{cut_here, cut_within, done_sat, done_unknown, done_unsat}
use Rattle.cdcl_search.proofs.Ready.{going_view, ready_round, ready_same, values_agree}
use Rattle.cdcl_search.proofs.searching.search.Goals as goal

pub loop-added-init : goal.loop-added-init
loop-added-init g c =
    let n : c.args.first ≡ c.args.first + 0 = sym (add-zero c.args.first) in
    record {
      work_vars = c.requires.work_vars;
      same_vars = refl;
      ready = subst (λ k. IsReady c.args.arena.now c.args.assigned.now k 0) n c.requires.ready;
      gives = λ k d h. (d, h, λ l. refl);
      going = λ before ins h.
          subst (λ k. IsGoing before (g.L.Sink.taken c.args.log.now) ins (held_in c.args.arena.now) k 0 0
          (map (λ b. (goal.Decider-dyn g (b.vtable, b.value)).told b.value) c.args.deciders.now.items)) n h;
      stays = refl;
      deciders = refl;
    }

pub returns-in_err-values-clause-cut : goal.returns-in_err-values-clause-cut
returns-in_err-values-clause-cut g c =
    let cuts : (before : Option (List ℕ)) (ins : List Clause)
    → IsGoing before (g.L.Sink.taken c.args.log.now) ins (held_in c.args.arena.now) c.args.first 0 0
    (map (λ b. (goal.Decider-dyn g (b.vtable, b.value)).told b.value) c.args.deciders.now.items)
    → IsCut before (g.L.Sink.taken c.loop-added.log) ins c.args.budget =
    λ before ins going.
    cut_here before (g.L.Sink.taken c.loop-added.log) ins (held_in c.loop-added.arena)
    (c.args.first + c.loop-added.added) c.loop-added.added _ _ (c.loop-added.invariant.going before ins going)
    c.args.budget (omega (arith, c.loop-added-test.true)) (g.L.Sink.taken c.loop-added.log) refl in
    on_err _ cuts

pub returns-in_default-clause-done : goal.returns-in_default-clause-done
returns-in_default-clause-done g c = λ before ins going.
    subst (λ ts. IsLogged before (g.L.Sink.taken c.loop-added.log) ins c.args.budget ts (Sat c.in_ok-values.values))
    (sym c.find_conflict.ensures.told)
    (done_sat before (g.L.Sink.taken c.loop-added.log) ins (held_in c.loop-added.arena)
    (c.args.first + c.loop-added.added) c.loop-added.added _ c.args.budget _
    (c.loop-added.invariant.going before ins going) c.in_ok-values.values (omega (arith, c.loop-added-test.true)))

pub returns-in_default-clause-sat : goal.returns-in_default-clause-sat
returns-in_default-clause-sat g c = λ id k h.
    let s = c.find_conflict.new.assigned in
    let f = c.find_conflict.ensures in
    let d = c.loop-added.invariant.gives id k h in
    let e = (view_sets c.loop-added.arena c.find_conflict.new.arena f.view).there id d.0 d.1 in
    let t = c.totals_hold.ensures id e.0 e.1 in
    clause_given (truth c.in_ok-values.values) s.lits k.lits
    (values_agree s.vars s.lits c.in_ok-values.values f.trail.below c.in_ok-values.ensures.values)
    (record { lit = t.lit; inside = d.2 t.lit ∙ e.2 t.lit ∙ t.inside; is_true = t.is_true })

pub take_lesson-requires-clause-ready : goal.take_lesson-requires-clause-ready
take_lesson-requires-clause-ready g c =
    let f = c.find_conflict.ensures in
    ready_same c.loop-added.arena c.find_conflict.new.arena c.loop-added.assigned c.find_conflict.new.assigned
    (c.args.first + c.loop-added.added) c.loop-added.from c.loop-added.invariant.ready f.view f.vars f.trail f.kept

pub returns-in_err-next-clause-cut : goal.returns-in_err-next-clause-cut
returns-in_err-next-clause-cut g c =
    let cuts : (before : Option (List ℕ)) (ins : List Clause)
    → IsGoing before (g.L.Sink.taken c.args.log.now) ins (held_in c.args.arena.now) c.args.first 0 0
    (map (λ b. (goal.Decider-dyn g (b.vtable, b.value)).told b.value) c.args.deciders.now.items)
    → IsCut before (g.L.Sink.taken c.take_lesson.new.log) ins c.args.budget =
    λ before ins going. cut_within before (g.L.Sink.taken c.take_lesson.new.log) ins
    (c.loop-added.added + 1) c.args.budget (omega (arith, c.loop-added-test.true))
    (c.in_err-next.ensures.cut before ins c.loop-added.added c.loop-added.runs
    (going_view before (g.L.Sink.taken c.loop-added.log) ins c.loop-added.arena c.find_conflict.new.arena
    (c.args.first + c.loop-added.added) c.loop-added.added _ _ _ c.find_conflict.ensures.view
    c.find_conflict.ensures.told (c.loop-added.invariant.going before ins going))) in
    on_err _ cuts

pub returns-in_default-2-clause-done : goal.returns-in_default-2-clause-done
returns-in_default-2-clause-done g c =
    let is_turn : IsTurn (length (map (λ b. (goal.Decider-dyn g (b.vtable, b.value)).told b.value)
    c.find_conflict.new.deciders.items))
    c.loop-added.added c.turn_of-turn.result =
    subst (λ n. IsTurn n c.loop-added.added c.turn_of-turn.result)
    (c.len.ensures ∙ c.loop-added.deciders.ok.0 ∙ sym (length-map c.loop-added.deciders.items
    (λ b. (goal.Decider-dyn g (b.vtable, b.value)).told b.value)) ∙ sym (ap length c.find_conflict.ensures.told))
    c.turn_of-turn.ensures in
    λ before ins going.
    done_unsat before (g.L.Sink.taken c.take_lesson.new.log) ins (c.loop-added.added + 1) c.args.budget _
    (omega (arith, c.loop-added-test.true))
    (c.in_ok-next.ensures.refuted c.in_default-2.is before ins c.loop-added.added c.loop-added.runs is_turn
    (going_view before (g.L.Sink.taken c.loop-added.log) ins c.loop-added.arena c.find_conflict.new.arena
    (c.args.first + c.loop-added.added) c.loop-added.added _ _ _ c.find_conflict.ensures.view
    c.find_conflict.ensures.told (c.loop-added.invariant.going before ins going)))

pub reduce-requires : goal.reduce-requires
reduce-requires g c =
    let t = c.in_ok-next.ensures in
    let e = c.end_round-from.ensures in
    let n : c.args.first + c.loop-added.added + 1 ≡ c.args.first + (c.loop-added.added + 1) = omega arith in
    let ready : IsReady c.take_lesson.new.arena c.take_lesson.new.assigned (c.args.first + c.loop-added.added + 1)
    c.in-Some-2.next =
    subst (λ (o : Option ℕ). IfSome o (IsReady c.take_lesson.new.arena c.take_lesson.new.assigned
    (c.args.first + c.loop-added.added + 1))) c.in-Some-2.is t.ready in
    record {
      ready = subst (λ k. IsReady c.take_lesson.new.arena c.end_round-from.new.assigned k c.end_round-from.result) n
          (ready_round c.take_lesson.new.arena c.take_lesson.new.assigned c.end_round-from.new.assigned
          (c.args.first + c.loop-added.added + 1) c.in-Some-2.next c.end_round-from.result ready e.vars e.trail e.kept
          e.within);
    }

pub returns-in_err-runs-clause-cut : goal.returns-in_err-runs-clause-cut
returns-in_err-runs-clause-cut g c =
    let i = c.loop-added.invariant in
    let f = c.find_conflict.ensures in
    let t = c.in_ok-next.ensures in
    let is_turn : IsTurn (length (map (λ b. (goal.Decider-dyn g (b.vtable, b.value)).told b.value)
    c.find_conflict.new.deciders.items))
    c.loop-added.added c.turn_of-turn.result =
    subst (λ n. IsTurn n c.loop-added.added c.turn_of-turn.result)
    (c.len.ensures ∙ c.loop-added.deciders.ok.0 ∙ sym (length-map c.loop-added.deciders.items
    (λ b. (goal.Decider-dyn g (b.vtable, b.value)).told b.value)) ∙ sym (ap length c.find_conflict.ensures.told))
    c.turn_of-turn.ensures in
    let old = g.L.Sink.taken c.loop-added.log in
    let new = g.L.Sink.taken c.take_lesson.new.log in
    let a = c.find_conflict.new.arena in
    let n : c.args.first + c.loop-added.added + 1 ≡ c.args.first + (c.loop-added.added + 1) = omega arith in
    let goes : GoesOn old new (map (λ b. (goal.Decider-dyn g (b.vtable, b.value)).told b.value)
    c.find_conflict.new.deciders.items)
    (map (λ b. (goal.Decider-dyn g (b.vtable, b.value)).told b.value) c.take_lesson.new.deciders.items) (held_in a)
    (held_in c.take_lesson.new.arena) (c.args.first + c.loop-added.added) c.turn_of-turn.result =
    subst (λ (o : Option ℕ). IfSome o (λ k. GoesOn (g.L.Sink.taken c.loop-added.log)
    (g.L.Sink.taken c.take_lesson.new.log)
    (map (λ b. (goal.Decider-dyn g (b.vtable, b.value)).told b.value) c.find_conflict.new.deciders.items)
    (map (λ b. (goal.Decider-dyn g (b.vtable, b.value)).told b.value) c.take_lesson.new.deciders.items)
    (held_in c.find_conflict.new.arena) (held_in c.take_lesson.new.arena)
    (c.args.first + c.loop-added.added) c.turn_of-turn.result)) c.in-Some-2.is t.going in
    let cuts : (before : Option (List ℕ)) (ins : List Clause)
    → IsGoing before (g.L.Sink.taken c.args.log.now) ins (held_in c.args.arena.now) c.args.first 0 0
    (map (λ b. (goal.Decider-dyn g (b.vtable, b.value)).told b.value) c.args.deciders.now.items)
    → IsCut before (g.L.Sink.taken c.reduce.new.log) ins c.args.budget =
    λ before ins h. cut_within before (g.L.Sink.taken c.reduce.new.log) ins (c.loop-added.added + 1) c.args.budget
    (omega (arith, c.loop-added-test.true))
    (c.in_err-runs.ensures.cut before ins _
    (subst (λ k. IsGoing before (g.L.Sink.taken c.take_lesson.new.log) ins
    (held_in c.take_lesson.new.arena) k (c.loop-added.added + 1) c.loop-added.runs
    (map (λ b. (goal.Decider-dyn g (b.vtable, b.value)).told b.value) c.take_lesson.new.deciders.items)) n
    (goes before ins c.loop-added.added c.loop-added.runs is_turn (going_view before old ins c.loop-added.arena a
    (c.args.first + c.loop-added.added) c.loop-added.added _ _ _ f.view f.told (i.going before ins h))))) in
    on_err _ cuts

pub loop-added-preserved : goal.loop-added-preserved
loop-added-preserved g c =
    let i = c.loop-added.invariant in
    let f = c.find_conflict.ensures in
    let t = c.in_ok-next.ensures in
    let e = c.end_round-from.ensures in
    let r = c.in_ok-runs.ensures in
    let is_turn : IsTurn (length (map (λ b. (goal.Decider-dyn g (b.vtable, b.value)).told b.value)
    c.find_conflict.new.deciders.items))
    c.loop-added.added c.turn_of-turn.result =
    subst (λ n. IsTurn n c.loop-added.added c.turn_of-turn.result)
    (c.len.ensures ∙ c.loop-added.deciders.ok.0 ∙ sym (length-map c.loop-added.deciders.items
    (λ b. (goal.Decider-dyn g (b.vtable, b.value)).told b.value)) ∙ sym (ap length c.find_conflict.ensures.told))
    c.turn_of-turn.ensures in
    let old = g.L.Sink.taken c.loop-added.log in
    let new = g.L.Sink.taken c.take_lesson.new.log in
    let a = c.find_conflict.new.arena in
    let b = c.take_lesson.new.arena in
    let n : c.args.first + c.loop-added.added + 1 ≡ c.args.first + (c.loop-added.added + 1) = omega arith in
    let gives : GivesSets (held_in a) (held_in b) =
    subst (λ (o : Option ℕ). IfSome o (λ k. GivesSets (held_in c.find_conflict.new.arena)
    (held_in c.take_lesson.new.arena))) c.in-Some-2.is t.gives in
    let goes : GoesOn old new (map (λ b. (goal.Decider-dyn g (b.vtable, b.value)).told b.value)
    c.find_conflict.new.deciders.items)
    (map (λ b. (goal.Decider-dyn g (b.vtable, b.value)).told b.value) c.take_lesson.new.deciders.items) (held_in a)
    (held_in b) (c.args.first + c.loop-added.added) c.turn_of-turn.result =
    subst (λ (o : Option ℕ). IfSome o (λ k. GoesOn (g.L.Sink.taken c.loop-added.log)
    (g.L.Sink.taken c.take_lesson.new.log)
    (map (λ b. (goal.Decider-dyn g (b.vtable, b.value)).told b.value) c.find_conflict.new.deciders.items)
    (map (λ b. (goal.Decider-dyn g (b.vtable, b.value)).told b.value) c.take_lesson.new.deciders.items)
    (held_in c.find_conflict.new.arena) (held_in c.take_lesson.new.arena)
    (c.args.first + c.loop-added.added) c.turn_of-turn.result)) c.in-Some-2.is t.going in
    record {
      work_vars = t.work_vars ∙ i.work_vars ∙ sym (r.vars ∙ e.vars ∙ t.vars ∙ f.vars);
      same_vars = r.vars ∙ e.vars ∙ t.vars ∙ f.vars ∙ i.same_vars;
      ready = r.ready;
      gives = λ id k h.
          (let x = gives_then (held_in c.args.arena.now) (held_in c.loop-added.arena) (held_in b) i.gives
          (gives_then (held_in c.loop-added.arena) (held_in a) (held_in b)
          (view_sets c.loop-added.arena a f.view).there gives) id k h in
          let low = held_below c.args.arena.now c.args.first id k c.requires.ready.below h in
          (x.0, r.keeps id x.0 low x.1, x.2));
      going = λ before ins h.
          r.goes before ins _ (subst (λ k. IsGoing before (g.L.Sink.taken c.take_lesson.new.log) ins
          (held_in c.take_lesson.new.arena) k (c.loop-added.added + 1) c.loop-added.runs
          (map (λ b. (goal.Decider-dyn g (b.vtable, b.value)).told b.value) c.take_lesson.new.deciders.items)) n
          (goes before ins c.loop-added.added c.loop-added.runs is_turn (going_view before old ins c.loop-added.arena a
          (c.args.first + c.loop-added.added) c.loop-added.added _ _ _ f.view f.told (i.going before ins h))));
      stays = r.stays ∙ t.stays ∙ i.stays;
      deciders = c.take_lesson.ensures.deciders
          ∙ tolds_long (λ b. (goal.Decider-dyn g (b.vtable, b.value)).told b.value) c.loop-added.deciders.items
          c.find_conflict.new.deciders.items f.told ∙ i.deciders;
    }

pub returns-clause-done : goal.returns-clause-done
returns-clause-done g c = λ before ins going.
    done_unknown before (g.L.Sink.taken c.loop-added.log) ins (held_in c.loop-added.arena)
    (c.args.first + c.loop-added.added) c.loop-added.added _ c.args.budget _
    (c.loop-added.invariant.going before ins going) (omega (arith, c.loop-added-test.false, c.loop-added.auto))

pub returns-in_err-values-clause-deciders : goal.returns-in_err-values-clause-deciders
returns-in_err-values-clause-deciders g c =
    tolds_long (λ b. (goal.Decider-dyn g (b.vtable, b.value)).told b.value) c.loop-added.deciders.items
    c.find_conflict.new.deciders.items c.find_conflict.ensures.told ∙ c.loop-added.invariant.deciders

pub returns-in_default-clause-deciders : goal.returns-in_default-clause-deciders
returns-in_default-clause-deciders g c =
    tolds_long (λ b. (goal.Decider-dyn g (b.vtable, b.value)).told b.value) c.loop-added.deciders.items
    c.find_conflict.new.deciders.items c.find_conflict.ensures.told ∙ c.loop-added.invariant.deciders

pub returns-in_err-next-clause-deciders : goal.returns-in_err-next-clause-deciders
returns-in_err-next-clause-deciders g c =
    c.take_lesson.ensures.deciders ∙ tolds_long (λ b. (goal.Decider-dyn g (b.vtable, b.value)).told b.value) c.loop-added.deciders.items
    c.find_conflict.new.deciders.items c.find_conflict.ensures.told ∙ c.loop-added.invariant.deciders

pub returns-in_default-2-clause-deciders : goal.returns-in_default-2-clause-deciders
returns-in_default-2-clause-deciders g c =
    c.take_lesson.ensures.deciders ∙ tolds_long (λ b. (goal.Decider-dyn g (b.vtable, b.value)).told b.value) c.loop-added.deciders.items
    c.find_conflict.new.deciders.items c.find_conflict.ensures.told ∙ c.loop-added.invariant.deciders

pub returns-in_err-runs-clause-deciders : goal.returns-in_err-runs-clause-deciders
returns-in_err-runs-clause-deciders g c =
    c.take_lesson.ensures.deciders ∙ tolds_long (λ b. (goal.Decider-dyn g (b.vtable, b.value)).told b.value) c.loop-added.deciders.items
    c.find_conflict.new.deciders.items c.find_conflict.ensures.told ∙ c.loop-added.invariant.deciders

pub returns-clause-deciders : goal.returns-clause-deciders
returns-clause-deciders g c = c.loop-added.invariant.deciders
