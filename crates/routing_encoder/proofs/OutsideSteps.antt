-- Announcements of new variables fit a network.
use Rattle.std.proofs.Common.{List}
use Rattle.std.specs.Prelude.{All}
use Rattle.route_record.specs.declared.tracked.Tracked.{Tracked}
use Rattle.sym_policy.specs.declared.records.SymBgp.{SymBgp}
use Rattle.sym_policy.specs.MapRecs.{HasTracked}
use Rattle.bgp_equations.specs.Environments.{HasLists}

-- routes with a node for each tracked value have those that are looked at of an announcement
pub lists_tracked : (tracked : Tracked) (xs : List SymBgp) → All (HasTracked tracked) xs → All (HasLists tracked) xs
lists_tracked tracked xs all = λ k d within.
    let here = all k d within in record { numbers = here.numbers; communities = here.communities }
