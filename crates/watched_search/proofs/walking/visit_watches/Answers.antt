use Rattle.std.proofs.Common.{◌≡◌, ◌<◌, ℕ, true, Some, refl, sym, ap, subst, ◌∙◌}
use Rattle.std.specs.Prelude.{IfSome}
use Rattle.resolution_check.specs.declared.log.Lit.{Lit}
use Rattle.resolution_check.specs.Trails.{fails}
use Rattle.clause_arena.specs.Held.{code_of}
use Rattle.clause_arena.specs.Watched.{Stands, place, place_or, head}
use Rattle.clause_arena.proofs.Codes.{code_low}
use Rattle.watched_search.specs.Watches.{IsWalked}
use Rattle.watched_search.proofs.Moved.{view_same, view_then}
use Rattle.watched_search.proofs.Walks.{walk_begins, walk_ends, walk_later, more_false, more_true, extends_same}
use Rattle.watched_search.proofs.Walks.{extends_then, extends_within, stands_at, own_literal}
use Rattle.watched_search.proofs.walking.visit_watches.Goals as goal

pub loop-at-init : goal.loop-at-init
loop-at-init c =
    let a = c.args.arena.now in
    record {
      vars = c.requires.vars;
      view = view_same a;
      trail = c.requires.trail;
      kept = c.requires.kept;
      within = c.requires.within;
      is_false = c.requires.is_false;
      level = refl;
      extends = extends_same c.args.assigned.now.lits;
      at_head = c.first_watch-at.ensures.head;
      stands = c.first_watch-at.ensures.stands;
      walked = walk_begins a c.words_are_sound.ensures (code_of c.args.lit)
          (code_low a.vars c.args.lit c.requires.below) c.args.assigned.now.lits;
    }

pub visit-requires-clause-is_false : goal.visit-requires-clause-is_false
visit-requires-clause-is_false c =
    let a = c.loop-at.arena in
    let w = c.in-Some.w in
    let st = stands_at a (code_of c.args.lit) c.loop-at.at w c.in-Some.is c.loop-at.invariant.stands in
    subst (λ (l : Lit). fails c.loop-at.assigned.lits l ≡ true) (sym (own_literal a c.args.lit w st))
    c.loop-at.invariant.is_false

pub returns-in-Conflict-clause-extends : goal.returns-in-Conflict-clause-extends
returns-in-Conflict-clause-extends c =
    extends_then c.args.assigned.now.lits c.loop-at.assigned.lits c.visit.new.assigned.lits
    c.loop-at.invariant.extends c.visit.ensures.extends

pub move_watch-at-requires-clause-is_false : goal.move_watch-at-requires-clause-is_false
move_watch-at-requires-clause-is_false c =
    let a = c.loop-at.arena in
    let w = c.in-Some.w in
    let st = stands_at a (code_of c.args.lit) c.loop-at.at w c.in-Some.is c.loop-at.invariant.stands in
    subst (λ (l : Lit). fails c.visit.new.assigned.lits l ≡ true) (sym (own_literal a c.args.lit w st))
    (more_false c.loop-at.assigned.lits c.visit.new.assigned.lits c.args.lit c.visit.ensures.extends
    c.loop-at.invariant.is_false)

pub loop-at-preserved-in-Moves : goal.loop-at-preserved-in-Moves
loop-at-preserved-in-Moves c =
    let a = c.loop-at.arena in
    let b = c.move_watch-at.new.arena in
    let n = code_of c.args.lit in
    let w = c.in-Some.w in
    let ls = c.loop-at.assigned.lits in
    let more = c.visit.new.assigned.lits in
    let x = c.visit.ensures.extends in
    let i = c.loop-at.invariant in
    let st = stands_at a n c.loop-at.at w c.in-Some.is i.stands in
    record {
      vars = c.visit.ensures.vars ∙ i.vars ∙ sym c.move_watch-at.ensures.moves.vars;
      view = view_then c.args.arena.now a b i.view c.move_watch-at.ensures.view;
      trail = c.move_watch-at.ensures.trail;
      kept = c.move_watch-at.ensures.kept;
      within = extends_within ls more c.args.looked_at x i.within;
      is_false = more_false ls more c.args.lit x i.is_false;
      level = c.visit.ensures.level ∙ i.level;
      extends = extends_then c.args.assigned.now.lits ls more i.extends x;
      at_head = subst (λ (k : ℕ). place_or c.move_watch-at.result ≡ head b c.loop-at.before k) st.code
          c.move_watch-at.ensures.head;
      stands = subst (λ (k : ℕ). IfSome c.move_watch-at.result (Stands b k)) st.code c.move_watch-at.ensures.stands;
      walked = subst (IsWalked b more c.loop-at.before) st.code
          (c.move_watch-at.ensures.walked (subst (IsWalked a more c.loop-at.before) (sym st.code)
          (walk_later a ls more c.loop-at.before n (λ l h. more_true ls more l x h) i.walked)));
    }

pub loop-at-preserved : goal.loop-at-preserved
loop-at-preserved c =
    let a = c.loop-at.arena in
    let n = code_of c.args.lit in
    let w = c.in-Some.w in
    let ls = c.loop-at.assigned.lits in
    let more = c.visit.new.assigned.lits in
    let x = c.visit.ensures.extends in
    let i = c.loop-at.invariant in
    let st = stands_at a n c.loop-at.at w c.in-Some.is i.stands in
    let at_w : head a c.loop-at.before n ≡ place w = sym i.at_head ∙ ap place_or c.in-Some.is in
    record {
      vars = c.visit.ensures.vars ∙ i.vars;
      view = i.view;
      trail = c.visit.ensures.trail;
      kept = c.visit.ensures.kept;
      within = extends_within ls more c.args.looked_at x i.within;
      is_false = more_false ls more c.args.lit x i.is_false;
      level = c.visit.ensures.level ∙ i.level;
      extends = extends_then c.args.assigned.now.lits ls more i.extends x;
      at_head = subst (λ (k : ℕ). place_or c.pass_watch-at.result ≡ head a (Some w) k) st.code
          c.pass_watch-at.ensures.head;
      stands = subst (λ (k : ℕ). IfSome c.pass_watch-at.result (Stands a k)) st.code c.pass_watch-at.ensures.stands;
      walked = subst (IsWalked a more (Some w)) st.code
          (c.pass_watch-at.ensures.walked c.loop-at.before
          (ap (head a c.loop-at.before) st.code ∙ at_w)
          (subst (IsWalked a more c.loop-at.before) (sym st.code)
          (walk_later a ls more c.loop-at.before n (λ l h. more_true ls more l x h) i.walked)));
    }

pub returns-clause-walked : goal.returns-clause-walked
returns-clause-walked c = λ none.
    let a = c.loop-at.arena in
    let i = c.loop-at.invariant in
    walk_ends a c.words_are_sound-2.ensures (code_of c.args.lit)
    (code_low a.vars c.args.lit (subst (λ (k : ℕ). c.args.lit.var < k) (sym i.view.vars)
    c.requires.below)) c.loop-at.assigned.lits c.loop-at.before
    (ap place_or (sym c.in_default.is) ∙ i.at_head) i.walked
