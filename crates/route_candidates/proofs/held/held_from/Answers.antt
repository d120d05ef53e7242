use Rattle.std.proofs.Common.{◌≡◌, ◌∙◌, ℕ, List, None, arith, filter, sym}
use Rattle.std.specs.List.{enumerate_from, filter_map, fold}
use Rattle.std.proofs.lemmas.Grind.{common_steps}
use Rattle.std.proofs.lemmas.List.Sums.{fold-append}
use Rattle.route_record.specs.declared.OspfRec.{OspfRec}
use Rattle.net_parts.specs.declared.adjacencies.Adjacency.{Adjacency}
use Rattle.net_parts.specs.Ospf.{adjacencies, receives}
use Rattle.net_parts.specs.OspfRoutes.{better_of, first_best, held_from, offer_heard}
use Rattle.route_candidates.specs.Heard.{heard_in}
use Rattle.route_candidates.proofs.held.held_from.Goals as goal

-- the best of all offers behind the best origin is the best of the origins and the offers
pub returns : goal.returns
unfolding held_from
returns c =
    let offers : List OspfRec = filter_map (offer_heard (heard_in c.args.heard.now))
    (filter (λ (e : ℕ × Adjacency). receives c.args.net.now.files c.args.failures.now c.args.router e.1)
    (enumerate_from 0 (adjacencies c.args.net.now.files))) in
    let all : c.loop-at.best ≡ fold better_of (first_best c.args.origins.now) offers =
    grind (arith, common_steps, c.loop-at.invariant) in
    all ∙ sym (fold-append better_of None c.args.origins.now offers)
