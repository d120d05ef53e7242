use Rattle.std.proofs.Common.{arith}
use Rattle.config_lint.proofs.Places.{ends_more, ends_all}
use Rattle.config_lint.proofs.groups.entries_of_all.Goals as goal

pub loop-text-preserved : goal.loop-text-preserved
loop-text-preserved c =
    ends_more c.args.texts.now c.loop-text.text-index c.text-item.result c.loop-text.entries-inside.items.items
    c.in_ok-own.own c.append.new.self.items (omega arith) c.text-item.is c.in_ok-own.ensures
    (cc (c.in_ok-append.ensures.items, c.own.view_is)) c.loop-text.invariant

pub returns : goal.returns
returns c =
    ends_all c.args.texts.now c.loop-text.text-index c.loop-text.entries-inside.items.items (omega arith)
    c.loop-text.invariant
