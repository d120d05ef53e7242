use Rattle.std.proofs.Common.{◌≡◌, ℕ, Some, subst}
use Rattle.clause_arena.specs.Held.{lits_of, held_in}
use Rattle.conflict_analysis.proofs.following.follow_reason.Goals as goal

pub returns-clause-numbered : goal.returns-clause-numbered
returns-clause-numbered c =
    let a = c.args.arena.now in
    subst (λ (u : ℕ). held_in a u ≡ Some (record { lits = lits_of a c.args.reason.0 })) c.id.ensures.value
    c.id.ensures.numbered
