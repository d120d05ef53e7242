use Rattle.show_run.specs.Due.{cex_of}
use Rattle.show_run.specs.Said.{AreAdmitted}
use Rattle.mw_text.proofs.Reading.{EachTo}
use Rattle.show_run.proofs.texts.parse_cexes.Given as goal

-- the counterexamples so far are those of the texts so far, and admitted
abbrev pub invariant-loop-piece : goal.invariant-loop-piece
invariant-loop-piece l =
    EachTo (cex_of l.net.files l.questions) l.pieces l.piece-index l.cexes-inside.items.items
    × AreAdmitted l.net.files l.questions l.cexes-inside.items.items
