use Rattle.std.proofs.Common.{◌≡◌, ℕ, ◌-◌, ap, sym, subst, ◌∙◌}
use Rattle.resolution_check.specs.Trails.{holds, fails, IsUnit}
use Rattle.clause_arena.specs.Held.{lits_of}
use Rattle.watched_search.specs.Watches.{literal, IsReplacement}
use Rattle.watched_search.proofs.Visits.{all_fail, unit}
use Rattle.watched_search.proofs.visiting.visit.Goals as goal

pub returns-then-is_false-clause-found : goal.returns-then-is_false-clause-found
returns-then-is_false-clause-found c =
    let a = c.args.arena.now in
    let ls = c.args.assigned.now.lits in
    let r = c.args.w.clause.0 in
    let s = c.requires.stands in
    let e : c.literal_of-other.result ≡ literal a r (1 - c.args.w.side) =
    c.literal_of-other.ensures.value ∙ ap (λ (k : ℕ). literal a r (1 - k)) c.from.ensures in
    all_fail a c.words_are_sound.ensures r s.held ls c.args.w.side s.low s.two c.requires.is_false
    (subst (IsReplacement a ls r) c.in_default.is c.replacement.ensures)
    (ap (fails ls) (sym e) ∙ sym c.is_false.ensures ∙ c.if-is_false.true)

pub force-requires-clause-unit : goal.force-requires-clause-unit
force-requires-clause-unit c =
    let a = c.args.arena.now in
    let ls = c.args.assigned.now.lits in
    let r = c.args.w.clause.0 in
    let s = c.requires.stands in
    let e : c.literal_of-other.result ≡ literal a r (1 - c.args.w.side) =
    c.literal_of-other.ensures.value ∙ ap (λ (k : ℕ). literal a r (1 - k)) c.from.ensures in
    subst (IsUnit ls (lits_of a r)) (sym e)
    (unit a c.words_are_sound.ensures r s.held ls c.args.w.side s.low s.two c.requires.is_false
    (subst (IsReplacement a ls r) c.in_default.is c.replacement.ensures)
    (ap (fails ls) (sym e) ∙ sym c.is_false.ensures ∙ c.if-is_false.false)
    (ap (holds ls) (sym e) ∙ sym c.is_true.ensures ∙ c.if-is_true.false))
