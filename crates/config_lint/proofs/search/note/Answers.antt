use Rattle.std.proofs.Common.{◌∙◌, sym}
use Rattle.config_lint.proofs.Steps.{note_ends, note_goes, note_within, note_fits}
use Rattle.config_lint.proofs.search.note.Goals as goal

pub leave_aside-requires : goal.leave_aside-requires
leave_aside-requires c =
    let last = sym c.is_end.ensures ∙ c.if-is_end.false in
    let within = note_within c.args.bytes.now c.args.lines.now c.args.told.now c.args.refused c.requires.lines
    c.requires.refused last in
    record {
      some = within.0;
      within = within.1;
      fit = note_fits c.args.lines.now c.args.told.now c.args.flags.now c.requires.flags;
    }

pub returns-then-is_end : goal.returns-then-is_end
returns-then-is_end c =
    note_ends c.args.bytes.now c.args.told.now c.push.new.self.items c.args.refused c.args.flags.now c.args.flags.now
    c.requires.refused (sym c.is_end.ensures ∙ c.if-is_end.true) (cc (c.in_ok-push.ensures.items, c.told.view_is))

pub returns : goal.returns
returns c =
    note_goes c.args.bytes.now c.args.lines.now c.args.told.now c.push.new.self.items c.args.refused c.args.flags.now
    c.leave_aside.new.flags c.requires.lines c.requires.flags c.requires.refused
    (sym c.is_end.ensures ∙ c.if-is_end.false) (cc (c.in_ok-push.ensures.items, c.told.view_is))
    c.leave_aside.auto.flags c.leave_aside.ensures
