use Rattle.std.proofs.lemmas.Option.{slice_get-get_or}
use Rattle.paired_nets.proofs.EndPairs.{put_all, put_more, put_none}
use Rattle.paired_nets.proofs.ends.put_ends.Goals as goal

pub loop-at-init : goal.loop-at-init
loop-at-init c =
    put_none c.args.left.now c.args.right.now c.args.a.now c.args.one c.args.others.now c.args.out.now

pub loop-at-preserved : goal.loop-at-preserved
loop-at-preserved c =
    put_more c.args.left.now c.args.right.now c.args.a.now c.args.one c.args.others.now c.loop-at.at _
    c.are_common-common.result c.args.out.now c.loop-at.out c.put_end.new.out
    (slice_get-get_or c.args.others.now c.loop-at.at _ c.loop-at-test.true) c.are_common-common.ensures.yes
    c.are_common-common.ensures.no c.in_ok-put_end.ensures c.loop-at.invariant

pub returns : goal.returns
returns c =
    put_all c.args.left.now c.args.right.now c.args.a.now c.args.one c.args.others.now c.loop-at.at c.args.out.now
    c.loop-at.out c.loop-at-test.false c.loop-at.invariant
