use Rattle.std.proofs.Common.{◌+◌, ◌≤◌, length, ap, sym, subst, ◌∙◌, arith}
use Rattle.term_store.specs.declared.Node.TheVariants.{Var}
use Rattle.term_store.specs.Terms.{IsSound}
use Rattle.term_store.proofs.Growth.{Puts-next_var, IsSound-push, Grows-push, Reads-last}
use Rattle.std.proofs.lemmas.List.{length_push}
use Rattle.term_store.proofs.Terms.fresh.Goals as goal

pub invariant_of-self-2 : goal.invariant_of-self-2
invariant_of-self-2 c =
    let old = c.self.invariant in
    let e = Puts-next_var _ _ _ old c.in_ok-put.ensures.puts in
    let next : c.self.inside.vars ≤ c.self.inside.vars + 1 = omega arith in
    subst (λ l. IsSound l (c.self.inside.vars + 1)) (sym e) (IsSound-push _ _ _ _ old next (omega arith) (omega arith))

pub returns-clause-nodes : goal.returns-clause-nodes
returns-clause-nodes c = rw (← c.self.view_is) (Puts-next_var _ _ _ c.self.invariant c.in_ok-put.ensures.puts)

pub returns-clause-grows : goal.returns-clause-grows
returns-clause-grows c =
    let next : c.self.inside.vars ≤ c.self.inside.vars + 1 = omega arith in
    rw (← c.self.view_is) (Grows-push _ _ _ (Puts-next_var _ _ _ c.self.invariant c.in_ok-put.ensures.puts) next)

pub returns-clause-within : goal.returns-clause-within
returns-clause-within c =
    let e = Puts-next_var _ _ _ c.self.invariant c.in_ok-put.ensures.puts in
    omega (arith, ap length e, length_push c.self.inside.nodes.keys (Var c.self.inside.vars), c.len-number.ensures.len)

pub returns-clause-value : goal.returns-clause-value
returns-clause-value c = λ w reads.
    let e = Puts-next_var _ _ _ c.self.invariant c.in_ok-put.ensures.puts in
    Reads-last w _ _ c.len-number.result (Var c.self.inside.vars) e c.len-number.ensures.len reads
    ∙ ap (λ s. w.variable s.vars) c.self.view_is
