use Rattle.std.proofs.Common.{◌≡◌, ◌∙◌, ◌+◌, ◌-◌, ◌*◌, ap, length, subst, take, arith}
use Rattle.std.proofs.lemmas.List.{take_all}
use Rattle.mw_outside.specs.Taken.{Takes}
use Rattle.resolution_check.specs.declared.log.Clause.{Clause}
use Rattle.resolution_check.specs.Clauses.{is_below}
use Rattle.resolution_check.specs.Text.{log_text}
use Rattle.cdcl_search.specs.Outcomes.{input_entries}
use Rattle.cdcl_search.proofs.Logs.{all_part, next_piece, piece_within, pieces_all, pieces_more, pieces_part}
use Rattle.cdcl_search.proofs.logging.write_inputs.Goals as goal

pub write_piece-requires-clause-small : goal.write_piece-requires-clause-small
write_piece-requires-clause-small g c =
    all_part (λ (k : Clause). is_below _ k.lits) c.args.clauses.now (c.loop-piece.piece * 512)
    (c.min-to.result - c.loop-piece.piece * 512) c.requires.small

pub returns-in_err-write_piece-clause-part : goal.returns-in_err-write_piece-clause-part
returns-in_err-write_piece-clause-part g c =
    let within = piece_within (length c.args.clauses.now) c.loop-piece.piece c.loop-piece-test.true in
    pieces_part (g.L.Sink.taken c.args.log.now) (g.L.Sink.taken c.loop-piece.log) (g.L.Sink.taken c.write_piece.new.log)
    c.args.clauses.now (c.loop-piece.piece * 512) (c.min-to.result - c.loop-piece.piece * 512) within
    c.loop-piece.invariant.takes c.write_piece.ensures.part

pub loop-piece-preserved : goal.loop-piece-preserved
loop-piece-preserved g c =
    let clauses = c.args.clauses.now in
    let from = c.loop-piece.piece * 512 in
    let within = piece_within (length clauses) c.loop-piece.piece c.loop-piece-test.true in
    let next : take (from + (c.min-to.result - from)) clauses ≡ take ((c.loop-piece.piece + 1) * 512) clauses =
    ap (λ end. take (from + (end - from)) clauses) c.min-to.ensures ∙ next_piece clauses from within
    ∙ ap (λ k. take k clauses) (omega arith) in
    record {
      takes =
          subst (λ some. Takes (g.L.Sink.taken c.args.log.now) (g.L.Sink.taken c.write_piece.new.log)
          (log_text (input_entries 1 some))) next
          (pieces_more (g.L.Sink.taken c.args.log.now) (g.L.Sink.taken c.loop-piece.log)
          (g.L.Sink.taken c.write_piece.new.log) clauses from (c.min-to.result - from) within
          c.loop-piece.invariant.takes c.in_ok-write_piece.ensures.takes);
      stays = c.in_ok-write_piece.ensures.stays ∙ c.loop-piece.invariant.stays;
    }

pub returns-clause-takes : goal.returns-clause-takes
returns-clause-takes g c =
    let clauses = c.args.clauses.now in
    subst (λ some. Takes (g.L.Sink.taken c.args.log.now) (g.L.Sink.taken c.loop-piece.log)
    (log_text (input_entries 1 some)))
    (take_all (c.loop-piece.piece * 512) clauses
    (pieces_all (length clauses) c.loop-piece.piece c.loop-piece-test.false)) c.loop-piece.invariant.takes
