use Rattle.std.proofs.Common.{◌≡◌, ◌++◌, drop, map}
use Rattle.serde_json.specs.View.{view}
use Rattle.cex_json.specs.Parts.{hop_data}
use Rattle.cex_json.proofs.walks.hop_values.Given as goal

-- the values so far and those of the hops that are left are all
abbrev pub invariant-loop-hop : goal.invariant-loop-hop
invariant-loop-hop l =
    map view l.values.items ++ map (hop_data l.files) (drop l.hop-index l.hops) ≡ map (hop_data l.files) l.hops
