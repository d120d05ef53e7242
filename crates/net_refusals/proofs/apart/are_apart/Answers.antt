use Rattle.std.proofs.Common.{◌≡◌, rules, subst}
use Rattle.std.specs.List.Sorted.{IsPermutation}
use Rattle.net_interfaces.specs.Interfaces.{addressed}
use Rattle.net_refusals.proofs.InOrder.{all_follow, no_address_abroad, no_subnet_abroad, one_follows}
use Rattle.net_refusals.proofs.apart.are_apart.Goals as goal

pub returns-clause-address : goal.returns-clause-address
returns-clause-address c =
    λ is.
    let same : c.in_ok-all.all ≡ c.as_slice.result.now = search rules in
    let moved = subst (IsPermutation (addressed c.args.files.now)) same c.in_ok-all.ensures in
    no_address_abroad c.args.files.now (one_follows _ _ moved (all_follow _ (c.each_follows.ensures is)))

pub returns-clause-subnet : goal.returns-clause-subnet
returns-clause-subnet c =
    λ is.
    let same : c.in_ok-all.all ≡ c.as_slice.result.now = search rules in
    let moved = subst (IsPermutation (addressed c.args.files.now)) same c.in_ok-all.ensures in
    no_subnet_abroad c.args.files.now (one_follows _ _ moved (all_follow _ (c.each_follows.ensures is)))
