use Rattle.std.specs.Prelude.{ℕ, List, Option, IfSome, map, refl}
use Rattle.std.specs.List.{All}
use Rattle.std.specs.Option.{option_map}
use Rattle.std.proofs.Common.{sym, ◌∙◌, ap, subst}
use Rattle.clause_arena.specs.declared.names.ClauseRef.{ClauseRef}
use Rattle.clause_arena.specs.Store.{store}
use Rattle.clause_arena.specs.Held.{IsHeld, number_of}
use Rattle.clause_arena.specs.Compacted.{reason_renamed}
use Rattle.clause_arena.proofs.Placing.{taken_back}
use Rattle.clause_arena.proofs.Compaction.{IsCompacted, compacted_at}
use Rattle.clause_arena.proofs.Reasons.{reasons_held, reasons_numbers}
use Rattle.clause_arena.proofs.Views.{clauses_same}
use Rattle.clause_arena.proofs.compacting.compact_in.Goals as goal

whole : (c : goal.After-swap)
    → IsCompacted c.args.vars c.args.words.now c.truncate.new.self c.args.refs.now.items c.swap.new.x.items
whole c =
    let a = c.args in
    let sw = c.slide_words-end.new.words in
    let mv = c.slide_words-end.new.moved in
    compacted_at a.vars a.words.now a.words.now sw c.truncate.new.self a.refs.now.items
    c.deref.result.now mv c.swap.new.x.items c.slide_words-end.result refl c.deref.ensures.value c.truncate.ensures
    (ap (λ (v : _). v.items) c.swap.ensures.x_after
    ∙ taken_back a.moved.now.len mv _ (c.slide_words-end.auto.moved ∙ c.deref_mut.ensures.len))
    c.requires.sound c.slide_words-end.ensures.len c.slide_words-end.ensures.plan c.slide_words-end.ensures.slides
    c.slide_words-end.ensures.dense

pub returns-clause-sound : goal.returns-clause-sound
returns-clause-sound c = let w = whole c in w.sound

pub returns-clause-compacts : goal.returns-clause-compacts
returns-clause-compacts c = let w = whole c in w.compacts

pub returns-clause-clauses : goal.returns-clause-clauses
returns-clause-clauses c =
    let a = c.args in
    let w = whole c in
    clauses_same a.vars a.words.now c.truncate.new.self a.refs.now.items c.swap.new.x.items
    c.requires.sound w.sound w.compacts

pub returns-clause-reasons : goal.returns-clause-reasons
returns-clause-reasons c =
    let a = c.args in
    c.rename_reasons.ensures
    ∙ ap (λ (u : List ℕ). map (reason_renamed u c.deref-3.result.now) a.reasons.now) c.deref-2.ensures.value
    ∙ ap (λ (u : List ℕ). map (reason_renamed a.refs.now.items u) a.reasons.now)
    (c.deref-3.ensures.value ∙ sym (ap (λ (v : _). v.items) c.swap.ensures.x_after))

pub returns-clause-held : goal.returns-clause-held
returns-clause-held c =
    let a = c.args in
    let w = whole c in
    let r : _ = returns-clause-reasons c in
    subst (λ (xs : List (Option ClauseRef)). All (λ r. IfSome r (IsHeld (store a.vars c.truncate.new.self
    c.swap.new.x.items))) xs) (sym r)
    (reasons_held (store a.vars a.words.now a.refs.now.items)
    (store a.vars c.truncate.new.self c.swap.new.x.items) a.reasons.now w.compacts c.requires.held)

pub returns-clause-numbers : goal.returns-clause-numbers
returns-clause-numbers c =
    let a = c.args in
    let w = whole c in
    let old = store a.vars a.words.now a.refs.now.items in
    let new = store a.vars c.truncate.new.self c.swap.new.x.items in
    ap (map (option_map (number_of new))) (returns-clause-reasons c)
    ∙ reasons_numbers old new a.reasons.now w.compacts c.requires.held
