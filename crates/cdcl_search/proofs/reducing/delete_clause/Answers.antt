use Rattle.std.proofs.Common.{◌≡◌, ◌+◌, ◌≤◌, ◌==◌, ℕ, cond, None}
use Rattle.std.proofs.Common.{sym, ap, ◌∙◌, arith}
use Rattle.mw_text.proofs.Results.{on_err}
use Rattle.clause_arena.specs.Held.{held_in, lits_of}
use Rattle.cdcl_search.specs.Reductions.{CutsDown}
use Rattle.cdcl_search.proofs.Downs.{reduced_cut, reduced_more}
use Rattle.cdcl_search.proofs.Reduced.{held_less, keeps_below, ready_less, text_of_held, three_of}
use Rattle.cdcl_search.proofs.reducing.delete_clause.Goals as goal

pub write_deletion-requires : goal.write_deletion-requires
write_deletion-requires g c =
    text_of_held c.args.arena.now c.args.assigned.now (c.args.reduction.first + c.args.reduction.added) c.args.reduction.from c.id.result _
    c.requires.ready c.id.ensures.numbered

pub returns-in_err-write_deletion-clause-cut : goal.returns-in_err-write_deletion-clause-cut
returns-in_err-write_deletion-clause-cut g c =
    let a = c.args.arena.now in
    let low : c.args.reduction.first ≤ c.id.result = omega (arith, c.requires.may.learnt, c.id.ensures.value) in
    let learnt : c.args.reduction.first + c.args.reduction.added ≤ c.id.result + c.args.reduction.added = omega (arith, low) in
    let cuts : CutsDown (g.L.Sink.taken c.args.log.now) (g.L.Sink.taken c.write_deletion.new.log) c.args.arena.now
    c.args.reduction.first c.args.reduction.added =
    λ before ins runs tolds r. reduced_cut before (g.L.Sink.taken c.args.log.now) ins (held_in c.args.arena.now)
    (c.args.reduction.first + c.args.reduction.added) c.args.reduction.added runs tolds r c.id.result (lits_of c.args.arena.now c.args.c.0)
    c.id.ensures.numbered learnt
    (three_of c.args.arena.now c.args.c.0 c.words_are_sound.ensures c.requires.may.held c.requires.may.long)
    (text_of_held c.args.arena.now c.args.assigned.now (c.args.reduction.first + c.args.reduction.added) c.args.reduction.from c.id.result _
    c.requires.ready c.id.ensures.numbered) (g.L.Sink.taken c.write_deletion.new.log) c.write_deletion.ensures.part in
    on_err _ cuts

pub returns-clause-ready : goal.returns-clause-ready
returns-clause-ready g c =
    ready_less c.args.arena.now c.delete.new.self c.args.assigned.now (c.args.reduction.first + c.args.reduction.added) c.args.reduction.from
    c.args.reduction.first c.args.c c.requires.ready c.words_are_sound.ensures c.words_are_sound-2.ensures
    c.delete.ensures.deletes c.delete.ensures.clauses c.requires.may c.requires.few

pub returns-clause-down : goal.returns-clause-down
returns-clause-down g c =
    let low : c.args.reduction.first ≤ c.id.result = omega (arith, c.requires.may.learnt, c.id.ensures.value) in
    let learnt : c.args.reduction.first + c.args.reduction.added ≤ c.id.result + c.args.reduction.added = omega (arith, low) in
    let less : (k : ℕ) → held_in c.delete.new.self k ≡ cond (c.id.result == k) None (held_in c.args.arena.now k) =
    λ k. held_less c.args.arena.now c.delete.new.self _ c.delete.ensures.clauses k
    ∙ ap (λ n. cond (n == k) None (held_in c.args.arena.now k)) (sym c.id.ensures.value) in
    record {
      inputs = keeps_below c.args.arena.now c.delete.new.self c.id.result c.args.reduction.first less low;
      going = λ before ins runs tolds r.
          reduced_more before (g.L.Sink.taken c.args.log.now) ins (held_in c.args.arena.now)
          (c.args.reduction.first + c.args.reduction.added) c.args.reduction.added runs tolds r c.id.result (lits_of c.args.arena.now c.args.c.0)
          c.id.ensures.numbered learnt
          (three_of c.args.arena.now c.args.c.0 c.words_are_sound.ensures c.requires.may.held c.requires.may.long)
          (text_of_held c.args.arena.now c.args.assigned.now (c.args.reduction.first + c.args.reduction.added) c.args.reduction.from c.id.result _
          c.requires.ready c.id.ensures.numbered) (g.L.Sink.taken c.write_deletion.new.log)
          (held_in c.delete.new.self) less c.in_ok-write_deletion.ensures.takes;
    }
