-- The entry of least distance, one source after the other.
use Rattle.std.proofs.Common.{◌≡◌, ◌∙◌, List, ◌++◌, Option, None, fold, ap}
use Rattle.std.proofs.lemmas.List.Sums.{fold-append}
use Rattle.route_record.specs.declared.RibEntry.{RibEntry}
use Rattle.net_parts.specs.Routing.{closer, least_distance}

-- the entries of four sources, taken in their turn
pub in_turn : (direct statics bgp ospf : List RibEntry) →
    least_distance ((direct ++ statics) ++ (bgp ++ ospf))
    ≡ fold closer (fold closer (fold closer (fold closer None direct) statics) bgp) ospf
in_turn direct statics bgp ospf =
    fold-append closer None (direct ++ statics) (bgp ++ ospf)
    ∙ fold-append closer (fold closer None (direct ++ statics)) bgp ospf
    ∙ ap (λ best. fold closer (fold closer best bgp) ospf) (fold-append closer None direct statics)
