use Rattle.sym_bgp.proofs.Addresses.{low_within}
use Rattle.sym_bgp.proofs.candidates.address_of.Goals as goal

pub returns-clause-nodes : goal.returns-clause-nodes
returns-clause-nodes c =
    low_within c.args.field.now.nodes.items c.as_slice-ids.result.now c.in_ok-nodes.nodes.items
    c.in_ok-nodes.ensures.items c.as_slice-ids.ensures.value
