use Rattle.routings_beside.proofs.OneSide.{side_terms}
use Rattle.routings_beside.proofs.sides.side_of.Goals as goal

pub returns : goal.returns
returns c =
    let e = c.in_ok-encoding.encoding in
    side_terms c.tables_law.ensures.hops c.args.net.now c.args.ask.now c.args.start c.args.fates.now e
    c.sym_fates.new.terms c.in_ok-fates.fates c.in_ok-encoding.ensures.encoding c.in_ok-encoding.ensures.plan
    c.in_ok-encoding.ensures.stands c.in_ok-encoding.ensures.outside c.in_ok-encoding.ensures.distances
    c.in_ok-encoding.ensures.words c.reading_has_values.ensures c.sym_fates.ensures.builds
    c.in_ok-fates.ensures.within c.in_ok-fates.ensures.long c.in_ok-fates.ensures.value
    c.stands_in_order.ensures.sound c.valuation_reads.ensures
