use Rattle.packet_fates.proofs.Firsts.{apart_for}
use Rattle.packet_fates.proofs.comparing.fate_apart.Goals as goal

pub returns-clause-some : goal.returns-clause-some
returns-clause-some c =
    apart_for c.args.left.now.files c.args.right.now.files c.args.one.now c.args.other.now c.args.start
    c.args.other_start c.in_ok-own.own c.in_ok-others.others c.first_apart.result c.in_ok-own.ensures
    c.in_ok-others.ensures c.first_apart.ensures.some
