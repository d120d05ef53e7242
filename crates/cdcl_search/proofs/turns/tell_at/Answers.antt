use Rattle.std.proofs.Common.{◌≡◌, ◌<◌, List, Option, ℕ, length, map, sym, subst, arith}
use Rattle.std.proofs.lemmas.List.{length-map, map-set}
use Rattle.cdcl_search.specs.Turns.{TellsAt, vars_of}
use Rattle.cdcl_search.proofs.Bumps.{map_at, tells_none, tells_set}
use Rattle.cdcl_search.proofs.turns.tell_at.Goals as goal

pub returns-then-turn-len-clause-tells : goal.returns-then-turn-len-clause-tells
returns-then-turn-len-clause-tells g c =
    let items = c.args.deciders.now.items in
    let old = c.index_mut.result.now in
    let new = c.tell.new.decider in
    let long : length (map (λ b. (goal.Decider-dyn g (b.vtable, b.value)).told b.value) c.args.deciders.now.items)
    ≡ length c.args.deciders.now.items =
    length-map c.args.deciders.now.items (λ b. (goal.Decider-dyn g (b.vtable, b.value)).told b.value) in
    let low : c.args.turn < length c.args.deciders.now.items =
    omega (arith, c.if-turn-len.true, c.len.ensures, c.args.deciders.now.ok.0) in
    subst (λ (ts : List (Option (List ℕ))). TellsAt (map (λ b. (goal.Decider-dyn g (b.vtable, b.value)).told b.value)
    c.args.deciders.now.items) ts c.args.turn (vars_of c.args.lits.now))
    (sym (map-set (λ b. (goal.Decider-dyn g (b.vtable, b.value)).told b.value) items c.args.turn new))
    (tells_set (map (λ b. (goal.Decider-dyn g (b.vtable, b.value)).told b.value) items) c.args.turn
    ((goal.Decider-dyn g (old.vtable, old.value)).told old.value)
    ((goal.Decider-dyn g (new.vtable, new.value)).told new.value)
    (vars_of c.args.lits.now) (omega (arith, low, long))
    (map_at (λ b. (goal.Decider-dyn g (b.vtable, b.value)).told b.value) items c.args.turn old _ low
    c.index_mut.ensures.value) c.tell.ensures)

pub returns-else-turn-len-clause-tells : goal.returns-else-turn-len-clause-tells
returns-else-turn-len-clause-tells g c =
    let long : length (map (λ b. (goal.Decider-dyn g (b.vtable, b.value)).told b.value) c.args.deciders.now.items)
    ≡ length c.args.deciders.now.items =
    length-map c.args.deciders.now.items (λ b. (goal.Decider-dyn g (b.vtable, b.value)).told b.value) in
    tells_none (map (λ b. (goal.Decider-dyn g (b.vtable, b.value)).told b.value) c.args.deciders.now.items) c.args.turn
    (vars_of c.args.lits.now)
    (λ low. omega (arith, low, long, c.if-turn-len.false, c.len.ensures, c.args.deciders.now.ok.0))
