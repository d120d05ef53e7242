use Rattle.std.proofs.Common.{subst, sym, arith, take_at}
use Rattle.term_store.specs.Terms.{truth}
use Rattle.cnf_blaster.specs.Meaning.{IsDecoded}
use Rattle.cnf_blaster.proofs.Decoding.{decoded_roots}
use Rattle.cnf_blaster.proofs.decode.decoded.Goals as goal

pub returns-clause-roots : goal.returns-clause-roots
returns-clause-roots c h =
    decoded_roots c.args.terms.now c.args.roots.now c.args.node_of.now c.args.values.now _
    c.stands_in_order.ensures.sound c.stands_in_order.ensures.once c.requires.nodes c.requires.length
    (subst (IsDecoded c.args.terms.now.nodes c.args.node_of.now (truth c.args.values.now))
    (sym (take_at c.put_values.new.valuation _ _ (omega arith))) c.put_values.ensures.decoded) h
