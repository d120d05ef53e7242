use Rattle.std.proofs.Common.{arith}
use Rattle.config_lint.proofs.Steps.{pieces_fit, without_small, note_none, taken_none}
use Rattle.config_lint.proofs.search.note_next.Goals as goal

pub refusal_in-requires : goal.refusal_in-requires
refusal_in-requires c = record {
  fit = pieces_fit c.args.bytes.now c.args.lines.now c.args.pieces.now c.args.flags.now c.args.told.now
      c.requires.lines c.requires.pieces c.requires.flags;
  small = omega (
    arith,
    c.requires.small,
    without_small c.args.bytes.now c.args.lines.now c.args.pieces.now
        c.args.flags.now c.args.told.now c.requires.lines c.requires.pieces c.requires.flags,
  );
}

pub returns-in-None : goal.returns-in-None
returns-in-None c =
    note_none c.args.bytes.now c.args.told.now c.args.flags.now c.args.flags.now
    (taken_none c.args.bytes.now c.args.lines.now c.args.pieces.now c.args.flags.now c.args.told.now
    c.in_ok-refusal_in.field-0 c.requires.lines c.requires.pieces c.requires.flags c.in-None.is c.in_ok-refusal_in.ensures)
