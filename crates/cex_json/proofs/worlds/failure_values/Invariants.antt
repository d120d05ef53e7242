use Rattle.std.proofs.Common.{◌≡◌, ◌++◌, drop, map}
use Rattle.serde_json.specs.View.{view}
use Rattle.cex_json.specs.Worlds.{link_data}
use Rattle.cex_json.proofs.worlds.failure_values.Given as goal

-- the values so far and those of the links that are left are all
abbrev pub invariant-loop-at : goal.invariant-loop-at
invariant-loop-at l =
    map view l.values.items ++ map (link_data l.links) (drop l.at-index l.failed) ≡ map (link_data l.links) l.failed
