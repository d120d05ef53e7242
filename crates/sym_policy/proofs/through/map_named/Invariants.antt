use Rattle.std.proofs.Common.{◌≡◌, drop}
use Rattle.std.specs.List.{find}
use Rattle.mw_text.specs.Text.{same_text}
use Rattle.sym_policy.proofs.through.map_named.Given as goal

abbrev pub invariant-loop-map : goal.invariant-loop-map
invariant-loop-map l =
    find (λ map. same_text map.name l.named.name) (drop l.map-index l.map-items)
    ≡ find (λ map. same_text map.name l.named.name) l.policies.maps
