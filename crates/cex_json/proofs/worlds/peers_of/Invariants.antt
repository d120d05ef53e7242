use Rattle.std.proofs.Common.{◌≡◌, ◌++◌, drop, map}
use Rattle.serde_json.specs.View.{view}
use Rattle.cex_json.specs.Worlds.{peers_from}
use Rattle.cex_json.proofs.worlds.peers_of.Given as goal

-- the values so far and those of the peers that are left are all
abbrev pub invariant-loop-at : goal.invariant-loop-at
invariant-loop-at l =
    map view l.values.items ++ peers_from l.files l.ids l.at (drop l.at l.ends) ≡ peers_from l.files l.ids 0 l.ends
