use Rattle.std.proofs.Common.{All, arith, subst}
use Rattle.std.proofs.lemmas.List.{take_all}
use Rattle.std.proofs.lemmas.List.Elements.{All-more}
use Rattle.route_record.specs.Fits.{IsAddress}
use Rattle.routing_worlds.proofs.words.read_clusters.Goals as goal

pub loop-cluster-preserved : goal.loop-cluster-preserved
loop-cluster-preserved c =
    let within = c.loop-cluster-test.true in
    let last = c.loop-cluster.auto.cluster-index-end in
    All-more IsAddress c.args.clusters.now c.loop-cluster.cluster-index _
    (omega (arith, within, last)) c.loop-cluster.invariant
    c.read_cluster.ensures

pub returns : goal.returns
returns c =
    let past = c.loop-cluster-test.false in
    let last = c.loop-cluster.auto.cluster-index-end in
    subst (All IsAddress)
    (take_all c.loop-cluster.cluster-index c.args.clusters.now (omega (arith, past, last)))
    c.loop-cluster.invariant
