use Rattle.route_record.specs.Fits.{IsAddress}
use Rattle.std.proofs.Common.{All, take}
use Rattle.routing_worlds.proofs.words.read_clusters.Given as goal

-- those read so far fit
abbrev pub invariant-loop-cluster : goal.invariant-loop-cluster
invariant-loop-cluster l = All IsAddress (take l.cluster-index l.clusters)
