use Rattle.std.proofs.Common.{List, subst, sym}
use Rattle.routings_beside.specs.Pairs.{IsPairEncoding}
use Rattle.term_store.specs.declared.NodeId.{NodeId}
use Rattle.compared_terms.proofs.encoding.compared.Goals as goal

pub with_ties-requires-clause-pair : goal.with_ties-requires-clause-pair
with_ties-requires-clause-pair c =
    let pair = c.args.pair in
    subst (λ (ps : List NodeId). IsPairEncoding c.args.left.now c.args.right.now c.args.ask.now c.args.fates.now (record {
      terms = pair.terms;
      root = pair.root;
      split = pair.split;
      one = pair.one;
      other = pair.other;
      places = ps;
    })) (sym c.as_slice.ensures) c.requires.pair
