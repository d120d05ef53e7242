use Rattle.std.proofs.Common.{◌∙◌, sym, arith}
use Rattle.ios_ast.proofs.Order.{find_read}
use Rattle.ios_ast.specs.Maps.{route_taken}
use Rattle.policy_eval.specs.Attributes.{attributes_of}
use Rattle.policy_eval.proofs.maps.deciding_entry.Goals as goal

pub loop-i-preserved : goal.loop-i-preserved
loop-i-preserved c =
    c.decider-found.ensures
    ∙ rw (c.takes_route-takes.ensures, c.loop-i.invariant)
    (sym (find_read (λ e. e.seq)
    (route_taken c.args.policies.now c.args.p.now (attributes_of c.args.rec.now)) c.as_slice-entries.result.now
    c.loop-i.i _ (omega arith) (omega arith) c.index-entries-i.is))
