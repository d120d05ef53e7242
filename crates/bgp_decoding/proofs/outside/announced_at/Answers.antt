use Rattle.std.proofs.Common.{◌∙◌, ap, length, map, option_map}
use Rattle.term_store.specs.Terms.{truth}
use Rattle.bgp_variables.specs.Environments.{peers_count}
use Rattle.path_rebuild.specs.Shapes.{route_of}
use Rattle.bgp_decoding.specs.Placed.{full_places, thing_in}
use Rattle.bgp_decoding.proofs.Placed.{things_read}
use Rattle.bgp_decoding.proofs.Rooms.{arrived_many}
use Rattle.bgp_decoding.proofs.outside.announced_at.Goals as goal

pub placed-requires-clause-long : goal.placed-requires-clause-long
placed-requires-clause-long c =
    ap length c.as_slice.ensures.value
    ∙ arrived_many c.args.net.now.tracked c.args.net.now.files (length c.args.lens.now) c.args.from (truth c.args.values.now)
    c.in_ok-told.told.items c.in_ok-told.ensures

pub returns : goal.returns
returns c =
    let tracked = c.args.net.now.tracked in
    let files = c.args.net.now.files in
    let lens = c.args.lens.now in
    let rows = peers_count files in
    let told = c.as_slice.ensures.value in
    let all = c.as_slice-2.ensures ∙ c.in_ok-places.ensures ∙ ap full_places c.peers_count.ensures in
    c.in_ok-made.ensures ∙ (λ i. map (λ p. option_map (route_of tracked) (thing_in lens rows (told i) p)) (all i))
    ∙ things_read tracked lens rows c.in_ok-told.told.items _ c.in_ok-told.ensures (full_places rows)
