use Rattle.std.proofs.Common.{◌≤◌, List, length, subst}
use Rattle.std.proofs.lemmas.Option.{slice_get-get_or}
use Rattle.net_parts.specs.declared.sessions.SessionEnd.{SessionEnd}
use Rattle.paired_nets.proofs.EndPairs.{all_ends, ends_read, no_ends}
use Rattle.paired_nets.proofs.ends.common_ends.Goals as goal

pub loop-at-init : goal.loop-at-init
loop-at-init c = no_ends c.args.left.now.files c.args.right.now.files c.new-out.result c.new-out.ensures

pub loop-at-preserved : goal.loop-at-preserved
loop-at-preserved c =
    ends_read c.args.left.now.files c.args.right.now.files c.routers.result.now c.routers-in-loop-at.result.now
    c.ends-a-items.result.now c.ends.result.now c.loop-at.at _ c.loop-at.out c.put_ends.new.out c.routers.ensures.all
    c.routers-in-loop-at.ensures.all c.ends-a-items.ensures.value c.ends.ensures.value
    (slice_get-get_or c.ends-a-items.result.now c.loop-at.at _ c.loop-at-test.true) c.in_ok-put_ends.ensures
    c.loop-at.invariant

pub returns : goal.returns
returns c =
    let P : List SessionEnd → Type 0 = λ xs. length xs ≤ c.loop-at.at in
    all_ends c.args.left.now.files c.args.right.now.files c.loop-at.at c.loop-at.out
    (subst P c.ends-a-items.ensures.value c.loop-at-test.false) c.loop-at.invariant
