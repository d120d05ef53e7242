use Rattle.std.proofs.Common.{arith, ap, subst, sym, length, take, ◌∙◌, ◌≤◌, option_copied, IfSome}
use Rattle.std.specs.Option.{option_and_then, option_map}
use Rattle.mw_text.proofs.Results.{ok_then}
use Rattle.net_parts.specs.Decisions.{external_count}
use Rattle.net_parts.specs.Sessions.{ends_of, external_ends, neighbour_of}
use Rattle.plan_places.specs.Places.{item_at, places_below}
use Rattle.term_store.specs.Terms.{size}
use Rattle.sym_policy.specs.Held.{bgp_end, bgp_of}
use Rattle.bgp_equations.specs.Environments.{HasLists, message_of}
use Rattle.bgp_equations.specs.Equations.{slots_read}
use Rattle.bgp_equations.proofs.Arriving.{if_copied, outer_arriving}
use Rattle.bgp_equations.proofs.Environments.{item_all, item_under}
use Rattle.bgp_equations.proofs.messages.outer_message.Goals as goal

pub of_peer-requires-clause-lists : goal.of_peer-requires-clause-lists
of_peer-requires-clause-lists c =
    let routing = c.args.routing.now in
    let lens = routing.tables.now.lens.now in
    let places = places_below lens (length (external_ends routing.net.now.files)) in
    let k = c.external_number-k.result in
    subst (λ t. IfSome c.announcement_at-rec.result (λ s. HasLists t s.now)) (sym c.tracked.ensures.value)
    (if_copied (HasLists routing.net.now.tracked) c.announcement_at-rec.result
    (item_at places routing.env.now.announced k routing.len)
    (c.announcement_at-rec.ensures (length (external_ends routing.net.now.files)) c.requires.fits.long)
    (item_all (HasLists routing.net.now.tracked) places routing.env.now.announced k routing.len c.requires.fits.lists))

pub of_peer-requires-clause-nodes : goal.of_peer-requires-clause-nodes
of_peer-requires-clause-nodes c =
    let routing = c.args.routing.now in
    let lens = routing.tables.now.lens.now in
    let places = places_below lens (length (external_ends routing.net.now.files)) in
    let k = c.external_number-k.result in
    let nodes = c.requires.nodes in
    if_copied (λ s. bgp_end s ≤ size c.args.terms.now) c.announcement_at-rec.result
    (item_at places routing.env.now.announced k routing.len)
    (c.announcement_at-rec.ensures (length (external_ends routing.net.now.files)) c.requires.fits.long)
    (item_under bgp_end places routing.env.now.announced k routing.len (size c.args.terms.now) (omega (arith, nodes)))

pub returns-clause-value : goal.returns-clause-value
returns-clause-value c =
    let routing = c.args.routing.now in
    ok_then c.of_peer.result c.of_peer.ensures.value (λ r is w reads p same.
    let lens = routing.tables.now.lens.now in
    let files = routing.net.now.files in
    let announced = routing.env.now.announced in
    let places = places_below lens (length (external_ends files)) in
    let line = c.neighbour_of-neighbour.ensures ∙ ap (λ fs. neighbour_of fs c.args.end.now) c.routers.ensures.all in
    is w reads
    ∙ (λ i. option_and_then (λ n. option_map (message_of (c.tracked.ensures.value i) n.addr)
    (option_and_then (bgp_of w) (option_copied c.announcement_at-rec.result))) (line i))
    ∙ outer_arriving w routing.net.now.tracked files lens routing.env.now (slots_read w routing.tables.now routing.len) p
    c.args.at c.args.end.now (option_copied c.announcement_at-rec.result) c.requires.ascend c.requires.there
    c.requires.outer
    (c.announcement_at-rec.ensures (length (external_ends files)) c.requires.fits.long
    ∙ ap (λ k. item_at places announced k routing.len)
    (c.external_number-k.ensures ∙ ap (λ es. external_count (take c.args.at es)) c.ends.ensures.value)
    ∙ ap (λ l. item_at places announced (external_count (take c.args.at (ends_of files))) l) (sym same)))
