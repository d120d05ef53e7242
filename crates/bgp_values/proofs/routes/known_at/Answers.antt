use Rattle.std.proofs.Common.{◌≡◌, ◌∙◌, ◌+◌, ℕ, ap}
use Rattle.route_record.specs.declared.BgpRec.{BgpRec}
use Rattle.route_record.specs.Origins.{origin_of_code}
use Rattle.term_store.specs.Terms.{truth}
use Rattle.bgp_variables.specs.Shapes.{preferences_from, shape_from}
use Rattle.path_rebuild.specs.Shapes.{route_of}
use Rattle.bgp_values.specs.Told.{lists_of}
use Rattle.bgp_values.proofs.RouteSteps.{route_told, with_numbers}
use Rattle.bgp_values.proofs.routes.known_at.Goals as goal

pub returns : goal.returns
unfolding shape_from
returns c = λ tracked marks.
    let room = c.args.room.now in
    let v = truth c.args.values.now in
    let s = shape_from room v c.args.from in
    let peers = c.peers_at-peers.result in
    let start = c.from.ensures ∙ c.width.ensures in
    let made : ℕ → BgpRec = λ k. record peers {
      weight = (preferences_from room.preferences v (c.args.from + k)).weight;
      local_pref = (preferences_from room.preferences v (c.args.from + k)).local_pref;
      med = (preferences_from room.preferences v (c.args.from + k)).med;
      origin = origin_of_code (preferences_from room.preferences v (c.args.from + k)).origin;
    } in
    let rec : c.with_preferences-rec.result ≡ with_numbers peers s = c.with_preferences-rec.ensures ∙ ap made start in
    let lists : c.lists_at.result ≡ lists_of s = c.lists_at.ensures in
    (λ i. route_of tracked (record { rec = rec i; shape = lists i }))
    ∙ route_told tracked room v c.args.from peers marks c.peers_at-peers.ensures.came c.peers_at-peers.ensures.hop
    c.peers_at-peers.ensures.originator
