use Rattle.std.specs.Prelude.{IfSome}
use Rattle.std.proofs.lemmas.Result.{IfOk-weaker}
use Rattle.route_record.specs.declared.Environment.{Environment}
use Rattle.packet_fates.specs.Sides.{IsFirstApart}
use Rattle.compared_nets.specs.Compared.{AreBeside, AreDifferent, FatesBeside, FatesIn}
use Rattle.compared_nets.proofs.Differences.{differ_so}
use Rattle.compared_nets.proofs.differing.difference.Goals as goal

pub returns-clause-some : goal.returns-clause-some
returns-clause-some c =
    let left = c.args.left.now.files in
    let right = c.args.right.now.files in
    let ask = c.args.ask.now in
    let one = c.args.one.now in
    let other = c.args.other.now in
    IfOk-weaker c.fate_apart.result
    (λ found. IfSome found (λ a. IsFirstApart (FatesIn left one ask) (FatesBeside right other ask) a.side a.fate))
    (λ found. IfSome found (λ a. (around : Environment) (about : Environment) →
    AreBeside left right ask one other around about → AreDifferent left right ask one other a.side a.fate))
    (λ found first. differ_so left right ask one other found first) c.fate_apart.ensures.some
