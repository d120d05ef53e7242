use Rattle.std.proofs.Common.{◌∙◌, ◌++◌, List, take, ap, sym, subst}
use Rattle.std.proofs.lemmas.List.{take_all}
use Rattle.std.proofs.lemmas.Option.{get_or_from_slice_get}
use Rattle.resolution_check.specs.declared.log.Lit.{Lit}
use Rattle.deciders.specs.Told.{TellsBump}
use Rattle.mw_text.proofs.Lists.{item_there}
use Rattle.cdcl_search.specs.Turns.{vars_of}
use Rattle.cdcl_search.proofs.Bumps.{more_push, vars_next}
use Rattle.cdcl_search.proofs.turns.tell.Goals as goal

pub loop-lit-preserved : goal.loop-lit-preserved
loop-lit-preserved g c = λ bumps is.
    let at = c.loop-lit.lit-index in
    let l = item_there c.args.lits.now at c.loop-lit-test.true in
    let old = c.loop-lit.decider in
    let new = c.bump.new.decider in
    let one : TellsBump ((goal.Decider-dyn g (old.vtable, old.value)).told old.value)
    ((goal.Decider-dyn g (new.vtable, new.value)).told new.value) l.0.var =
    subst (λ (k : Lit). TellsBump
    ((goal.Decider-dyn g (c.loop-lit.decider.vtable, c.loop-lit.decider.value)).told c.loop-lit.decider.value)
    ((goal.Decider-dyn g (c.bump.new.decider.vtable, c.bump.new.decider.value)).told c.bump.new.decider.value) k.var)
    (get_or_from_slice_get c.args.lits.now at l.0 _ l.1) c.bump.ensures in
    let x = more_push _ _ _ (vars_of (take at c.args.lits.now)) l.0.var c.loop-lit.invariant one bumps is in
    (x.0, x.1, x.2 ∙ ap (λ vs. x.0 ++ vs) (sym (vars_next c.args.lits.now at l.0 l.1)))

pub returns : goal.returns
returns g c = λ bumps is.
    let x = c.loop-lit.invariant bumps (sym c.decay.ensures ∙ is) in (
      x.0,
      x.1,
      x.2 ∙ ap (λ (ls : List Lit). x.0 ++ vars_of ls)
          (take_all c.loop-lit.lit-index c.args.lits.now c.loop-lit-test.false),
    )
