use Rattle.std.proofs.Common.{ℕ, ◌≡◌, List, Option, length, take, set, ap, sym, subst, ◌∙◌}
use Rattle.resolution_check.specs.declared.log.Lit.{Lit}
use Rattle.clause_arena.specs.declared.names.ClauseRef.{ClauseRef}
use Rattle.deciders.specs.declared.decider.Value.TheVariants.{Free}
use Rattle.watched_search.specs.Trails.{IsSound}
use Rattle.watched_search.proofs.Trails.{sound_pop}
use Rattle.watched_search.proofs.assigned.take_back.Goals as goal

pub returns-in-Some-clause-sound : goal.returns-in-Some-clause-sound
returns-in-Some-clause-sound c =
    let ls = c.pop.new.self.items in
    let levels = c.args.trail.now.levels.items in
    let reasons = c.args.trail.now.reasons.items in
    let vs = set c.args.values.now c.in-Some.lit.var Free in
    let n : c.len-len.result ≡ length ls = c.len-len.ensures ∙ c.pop.new.self.ok.0 in
    subst (λ (xs : List ℕ). IsSound ls xs c.truncate-in-Some.new.self.items vs)
    (sym (c.truncate.ensures.items ∙ ap (λ (k : ℕ). take k levels) n))
    (subst (λ (xs : List (Option ClauseRef)). IsSound ls (take (length ls) levels) xs vs)
    (sym (c.truncate-in-Some.ensures.items ∙ ap (λ (k : ℕ). take k reasons) n))
    (sound_pop ls levels reasons c.args.values.now c.in-Some.lit
    (subst (λ (xs : List Lit). IsSound xs levels reasons c.args.values.now) c.in-Some.ensures.items
    c.requires.sound)))
